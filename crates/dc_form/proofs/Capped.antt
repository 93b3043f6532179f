-- Numbers that are capped early, and late; and what is asked of capped ones.
use Rattle.std.proofs.Common.{◌≡◌, ℕ, zero, suc, ◌+◌, ◌*◌, ◌-◌, ◌≤◌, ◌<◌, List, [], ◌∷◌, arith, inl, inr, sym, ap, ◌∙◌}
use Rattle.std.specs.Prelude.{nat_le, nat_eq}
use Rattle.std.proofs.lemmas.Bool.{cases_lt}
use Rattle.std.proofs.lemmas.List.{drop_more}
use Rattle.std.proofs.Math.Nat.{mul-le-mul_left}
use Rattle.dc_tree.specs.Literals.{number_from}
use Rattle.dc_form.specs.Capped.{capped}

-- ---- one more digit

-- capped at a step and at the end
capped-step : (n d : ℕ) → capped (capped n * 10 + d) ≡ capped (n * 10 + d)
capped-step n d = grind arith

capped-from : (n : ℕ) (digits : List ℕ) → capped (number_from (capped n) digits) ≡ capped (number_from n digits)
capped-from n [] = grind arith
capped-from n (digit ∷ digits) =
    sym (capped-from (capped n * 10 + (digit - 48)) digits) ∙ ap (λ m. capped (number_from m digits)) (capped-step n (digit - 48)) ∙ capped-from (n * 10 + (digit - 48)) digits

-- one more digit, where the number that it makes is capped
pub capped-next : (n digit : ℕ) (digits : List ℕ) → capped (number_from (capped (n * 10 + (digit - 48))) digits) ≡ capped (number_from n (digit ∷ digits))
capped-next n digit digits = capped-from (n * 10 + (digit - 48)) digits

pub capped-again : (n : ℕ) → capped (capped n) ≡ capped n
capped-again n = grind arith

pub ruleset capped_digits = (capped-next, capped-again, drop_more)

-- ---- sums and products

capped-low : (n : ℕ) → n < 9223372036854775808 → capped n ≡ n
capped-low n low = grind (arith, low)

capped-high : (n : ℕ) → 9223372036854775808 ≤ n → capped n ≡ 9223372036854775808
capped-high n high = grind (arith, high)

still-high : (m n : ℕ) → 9223372036854775808 ≤ m → 9223372036854775808 ≤ m * suc n
still-high m n high = let more : m * 1 ≤ m * suc n = mul-le-mul_left m (omega arith) in omega (arith, high, more)

-- the first factor capped early
capped-left : (m n : ℕ) → capped (capped m * n) ≡ capped (m * n)
capped-left m zero = let none : capped m * 0 ≡ m * 0 = omega arith in ap capped none
capped-left m (suc n) = elim (cases_lt m 9223372036854775808) [
  | inl low ↦ ap (λ k. capped (k * suc n)) (capped-low m low)
  | inr high ↦
      let full : capped m ≡ 9223372036854775808 = capped-high m high in
      ap (λ k. capped (k * suc n)) full ∙ capped-high (9223372036854775808 * suc n) (omega arith) ∙ sym (capped-high (m * suc n) (still-high m n high))
]

moved : (a b c : ℕ) → (a * b) * c ≡ b * (a * c)
moved a b c = omega arith

moved_back : (a b c : ℕ) → b * (a * c) ≡ a * (b * c)
moved_back a b c = omega arith

-- one factor more
pub capped-more : (size one rest : ℕ) → capped (capped (size * capped one) * rest) ≡ capped (size * (one * rest))
capped-more size one rest =
    capped-left (size * capped one) rest
    ∙ ap capped (moved size (capped one) rest)
    ∙ capped-left one (size * rest)
    ∙ ap capped (moved_back size one rest)

-- one summand more
pub capped-add : (sum one rest : ℕ) → capped (capped (sum + capped one) + rest) ≡ capped (sum + (one + rest))
capped-add sum one rest = grind arith

-- ---- what is asked of a capped number

pub capped-held : (n : ℕ) → nat_le (capped n) 9223372036854775807 ≡ nat_le n 9223372036854775807
capped-held n = grind arith

pub capped-few : (n : ℕ) → nat_le (capped n) 4194304 ≡ nat_le n 4194304
capped-few n = grind arith

pub capped-equal : (n m : ℕ) → n < 9223372036854775808 → nat_eq n (capped m) ≡ nat_eq n m
capped-equal n m low = grind (arith, low)

pub ruleset capping = (capped-held, capped-few)
