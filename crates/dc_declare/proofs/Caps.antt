-- Numbers that are capped early, and late.
use Rattle.std.proofs.Common.{◌≡◌, ℕ, zero, suc, ◌+◌, ◌*◌, ◌≤◌, ◌<◌, arith, inl, inr, sym, ap, ◌∙◌}
use Rattle.std.proofs.lemmas.Bool.{cases_lt}
use Rattle.std.proofs.Math.Nat.{mul-le-mul_left, mul_comm}
use Rattle.dc_declare.specs.Totals.{capped}

capped-low : (n : ℕ) → n < 4194305 → capped n ≡ n
capped-low n low = grind (arith, low)

capped-high : (n : ℕ) → 4194305 ≤ n → capped n ≡ 4194305
capped-high n high = grind (arith, high)

pub capped-bound : (n : ℕ) → capped n ≤ 4194305
capped-bound n = grind arith

still-high : (m n : ℕ) → 4194305 ≤ m → 4194305 ≤ m * suc n
still-high m n high = let more : m * 1 ≤ m * suc n = mul-le-mul_left m (omega arith) in omega (arith, high, more)

-- the first factor capped early
pub capped-left : (m n : ℕ) → capped (capped m * n) ≡ capped (m * n)
capped-left m zero = let none : capped m * 0 ≡ m * 0 = omega arith in ap capped none
capped-left m (suc n) = elim (cases_lt m 4194305) [
  | inl low ↦ ap (λ k. capped (k * suc n)) (capped-low m low)
  | inr high ↦
      let full : capped m ≡ 4194305 = capped-high m high in
      ap (λ k. capped (k * suc n)) full ∙ capped-high (4194305 * suc n) (omega arith) ∙ sym (capped-high (m * suc n) (still-high m n high))
]

pub capped-product : (m n : ℕ) → capped (capped m * capped n) ≡ capped (m * n)
capped-product m n =
    capped-left m (capped n) ∙ ap capped (mul_comm m (capped n)) ∙ capped-left n m ∙ ap capped (mul_comm n m)

pub capped-sum : (m n : ℕ) → capped (capped m + capped n) ≡ capped (m + n)
capped-sum m n = grind arith

moved : (a b c : ℕ) → (a * b) * c ≡ b * (a * c)
moved a b c = omega arith

moved_back : (a b c : ℕ) → b * (a * c) ≡ a * (b * c)
moved_back a b c = omega arith

-- one factor more
pub capped-more : (size one rest : ℕ) → capped (capped (size * capped one) * rest) ≡ capped (size * (one * rest))
capped-more size one rest =
    capped-left (size * capped one) rest
    ∙ ap capped (moved size (capped one) rest)
    ∙ capped-left one (size * rest)
    ∙ ap capped (moved_back size one rest)
