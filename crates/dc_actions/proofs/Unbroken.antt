-- Where no rule is broken, none of its parts is, and what a rule asks holds.
use Rattle.std.proofs.Common.{◌≡◌, ℕ, Bool, true, false, not, List, [], ◌∷◌, ◌++◌, refl, sym}
use Rattle.std.proofs.lemmas.Bool.{eqb-true, eq-eqb, or_parts}
use Rattle.std.specs.Prelude.{nat_eq, ◌==◌}
use Rattle.dc_tree.specs.declared.fail.Refusal.{Refusal}
use Rattle.dc_tree.specs.Findings.{finding, finding_if}
use Rattle.dc_uses.specs.Uses.{is_scalar, misfits}

pub some-finding : (x : Refusal) (rest : List Refusal) → x ∷ rest ≡ [] → ⊥
some-finding x rest h = cc

pub both-none : (a b : List Refusal) → a ++ b ≡ [] → (a ≡ []) × (b ≡ [])
both-none [] b h = (refl, h)
both-none (x ∷ a) b h = absurd (some-finding x (a ++ b) h)

pub not-found : (test : Bool) (rule line : ℕ) → finding_if test rule line ≡ [] → test ≡ false
not-found true rule line h = absurd (some-finding (finding rule line) [] h)
not-found false rule line h = refl

pub found-not : (test : Bool) (rule line : ℕ) → finding_if (not test) rule line ≡ [] → test ≡ true
found-not true rule line h = refl
found-not false rule line h = absurd (some-finding (finding rule line) [] h)

not-false : (b : Bool) → not b ≡ false → b ≡ true
not-false true h = refl
not-false false h = sym h

pub same-numbers : (a b : ℕ) → nat_eq b a ≡ true → nat_eq a b ≡ true
same-numbers a b h = eq-eqb a b (sym (eqb-true b a h))

-- a variable of this rank with so many subscripts
pub fits-rank : (rank count line : ℕ) → finding_if (misfits rank count) 21 line ≡ [] → nat_eq rank count ≡ true
fits-rank rank count line h =
    same-numbers rank count (not-false (nat_eq count rank) ((or_parts (is_scalar rank) (not (count == rank)) (not-found (misfits rank count) 21 line h)).1))
