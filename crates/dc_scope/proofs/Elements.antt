-- Numbers of elements that are kept no greater than a limit.
use Rattle.std.proofs.Common.{◌≡◌, ℕ, zero, suc, ◌*◌, ◌<◌, ◌≤◌, eqb, sym, ap, ◌∙◌, arith, inl, inr}
use Rattle.std.specs.Prelude.{min}
use Rattle.std.proofs.Math.Nat.{min-eq_left, min-eq_right, mul_assoc}
use Rattle.std.proofs.lemmas.Bool.{cases_lt}

past : (c p r : ℕ) → c ≤ p → c ≤ p * suc r
past c p r less = grind (arith, less)

full : (c p r : ℕ) → c ≤ p → min (c * r) c ≡ min (p * r) c
full c p zero less = let none : c * 0 ≡ p * 0 = omega arith in ap (λ m. min m c) none
full c p (suc r) less =
    min-eq_right {n = c} {m = c * suc r} (past c c r (omega arith)) ∙ sym (min-eq_right {n = c} {m = p * suc r} (past c p r less))

kept : (c p r : ℕ) → min (min p c * r) c ≡ min (p * r) c
kept c p r =
    elim (cases_lt p c) [
      | inl less ↦ ap (λ m. min (m * r) c) (min-eq_left {n = p} {m = c} (omega (arith, less)))
      | inr more ↦ ap (λ m. min (m * r) c) (min-eq_right {n = c} {m = p} more) ∙ full c p r more
    ]

-- One factor more is multiplied in, and the product is kept no greater than the limit.
pub one_factor : (c e x r : ℕ) → min (min (e * x) c * r) c ≡ min (e * (x * r)) c
one_factor c e x r = kept c (e * x) r ∙ ap (λ p. min p c) (mul_assoc e x r)

-- A number that is less than the limit is told from others by what is kept.
pub same_count : (a b n c : ℕ) → min (a * 1) c ≡ min b c → n < c → eqb a n ≡ eqb b n
same_count a b n c same less = grind (arith, same, less)
