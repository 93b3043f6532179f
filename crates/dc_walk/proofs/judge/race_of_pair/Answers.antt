use Rattle.std.proofs.Common.{rules, ◌≡◌, ◌∙◌, ◌∷◌, [], sym, ap, Option, Some, ℤ, ℕ, List, to_z, of_z, w64, slice_get, map}
use Rattle.std.specs.Prelude.{option_and_then}
use Rattle.dc_int.specs.Store.{Store}
use Rattle.dc_code.specs.declared.verdict.Race.{Race}
use Rattle.dc_code.specs.Loops.{Loop, order}
use Rattle.dc_code.specs.Verdicts.{race, race_in}
use Rattle.dc_walk.specs.Judging.{combination}
use Rattle.dc_walk.specs.Pairing.{between_plain}
use Rattle.dc_plain.specs.Plainly.{plain}
use Rattle.dc_walk.proofs.Racing.{both-there}
use Rattle.dc_walk.proofs.judge.race_of_pair.Goals as goal

-- the race of two iterations that are there, by what was found of them
found : (parts : Loop) (store : Store) (active : List ℤ) (p : ℕ × ℕ) (f s f' s' : ℤ) (o : Option Race) → slice_get active p.0 ≡ Some f → slice_get active p.1 ≡ Some s
    → f' ≡ f → s' ≡ s → o ≡ race_in plain p.0 p.1 (order parts [] store (combination f' ∷ combination s' ∷ [])).runs
    → option_and_then (λ r. Some (race r (combination f) (combination s))) o ≡ between_plain parts store (map combination active) p
found parts store active p f s f' s' o first second first_is second_is is =
    ap (option_and_then (λ r. Some (race r (combination f) (combination s))))
    (is ∙ (λ i. race_in plain p.0 p.1 (order parts [] store (combination (first_is i) ∷ combination (second_is i) ∷ [])).runs))
    ∙ sym (both-there parts store active p f s first second)

pub returns-in_default-2 : goal.returns-in_default-2
returns-in_default-2 g c =
    let active = c.args.active.now in
    let f : ℤ = c.in-Some.first in
    let s : ℤ = c.in-Some-value_of.second in
    let first : slice_get active c.args.named.first ≡ Some f = search rules in
    let second : slice_get active c.args.named.second ≡ Some s = search rules in
    let first_is : to_z w64 (of_z w64 f) ≡ f = search rules in
    let second_is : to_z w64 (of_z w64 s) ≡ s = search rules in
    ap (option_and_then (λ (r : Race). Some (race r (combination f) (combination s)))) (sym c.in_default-2.is)
    ∙ found g.parts c.args.opening.now.store active (c.args.named.first, c.args.named.second) f s (to_z w64 (of_z w64 f)) (to_z w64 (of_z w64 s)) c.in_ok-race.field-0
    first second first_is second_is c.in_ok-race.ensures

pub returns : goal.returns
returns g c =
    let active = c.args.active.now in
    let f : ℤ = c.in-Some.first in
    let s : ℤ = c.in-Some-value_of.second in
    let first : slice_get active c.args.named.first ≡ Some f = search rules in
    let second : slice_get active c.args.named.second ≡ Some s = search rules in
    let first_is : to_z w64 (of_z w64 f) ≡ f = search rules in
    let second_is : to_z w64 (of_z w64 s) ≡ s = search rules in
    (λ i. Some (race c.in-Some-2.race (combination (first_is i)) (combination (second_is i))))
    ∙ ap (option_and_then (λ (r : Race). Some (race r (combination f) (combination s)))) (sym c.in-Some-2.is)
    ∙ found g.parts c.args.opening.now.store active (c.args.named.first, c.args.named.second) f s (to_z w64 (of_z w64 f)) (to_z w64 (of_z w64 s)) c.in_ok-race.field-0
    first second first_is second_is c.in_ok-race.ensures
