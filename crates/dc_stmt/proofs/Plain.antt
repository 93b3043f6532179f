-- A part without expressions beside another part.
use Rattle.std.proofs.Common.{◌≡◌, refl, ap, ◌∙◌}
use Rattle.dc_slices.specs.declared.reading.Reading.{Reading}
use Rattle.dc_slices.specs.Finding.{Found, plainly, both}
use Rattle.dc_slices.specs.Judging.{judged, seen, both_of}
use Rattle.dc_slices.proofs.Judged.{judged-plain, judged-both}

whole-both : {A B : Type 0} (a : A) (read : Reading B) → both_of (Reading.Whole a) read ≡ seen (λ b. (a, b)) read
whole-both a Reading.Nothing = refl
whole-both a Reading.Deep = refl
whole-both a (Reading.Whole b) = refl

pub plain-both : {A B : Type 0} (a : A) (found : Found B) → judged (both (plainly a) found) ≡ seen (λ b. (a, b)) (judged found)
plain-both a found = judged-both (plainly a) found ∙ ap (λ (read : Reading _). both_of read (judged found)) (judged-plain a) ∙ whole-both a (judged found)

pub ruleset plain_lemmas = (plain-both)
