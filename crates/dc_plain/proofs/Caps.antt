-- Products that are capped early, and late.
use Rattle.std.proofs.Common.{◌≡◌, ℕ, zero, suc, ◌*◌, ◌≤◌, arith, inl, inr, sym, ap, ◌∙◌}
use Rattle.std.specs.Prelude.{min}
use Rattle.std.proofs.lemmas.Bool.{cases_lt}
use Rattle.std.proofs.Math.Nat.{le-mul_of_pos_right, min-eq_left, min-eq_right}

capped-high : (cap m n : ℕ) → cap ≤ m → min (m * suc n) cap ≡ cap
capped-high cap m n high =
    let more : m ≤ m * suc n = le-mul_of_pos_right m (omega arith) in min-eq_right (omega (arith, high, more))

-- the first factor capped early
capped-left : (cap m n : ℕ) → min (min m cap * n) cap ≡ min (m * n) cap
capped-left cap m zero = let none : min m cap * 0 ≡ m * 0 = omega arith in ap (λ k. min k cap) none
capped-left cap m (suc n) = elim (cases_lt m cap) [
  | inl low ↦ ap (λ k. min (k * suc n) cap) (min-eq_left (omega (arith, low)))
  | inr high ↦ capped-high cap (min m cap) n (omega (arith, high)) ∙ sym (capped-high cap m n high)
]

moved : (a b c : ℕ) → (a * b) * c ≡ b * (a * c)
moved a b c = omega arith

moved_back : (a b c : ℕ) → b * (a * c) ≡ a * (b * c)
moved_back a b c = omega arith

-- one factor more
pub capped-more : (cap size one rest : ℕ) → min (min (size * min one cap) cap * rest) cap ≡ min (size * (one * rest)) cap
capped-more cap size one rest =
    capped-left cap (size * min one cap) rest
    ∙ ap (λ k. min k cap) (moved size (min one cap) rest)
    ∙ capped-left cap one (size * rest)
    ∙ ap (λ k. min k cap) (moved_back size one rest)
