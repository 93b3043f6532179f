-- A number of many digits is past all kinds.
use Rattle.std.proofs.Common.{◌≡◌, ℕ, ◌+◌, ◌-◌, ◌*◌, ◌≤◌, false, List, [], ◌∷◌, sym, ap, ◌∙◌, arith, inl, inr}
use Rattle.std.specs.Prelude.{pos, min}
use Rattle.std.proofs.Math.Nat.{min-eq_left, min-eq_right}
use Rattle.std.proofs.lemmas.Bool.{cases_lt}
use Rattle.dc_tree.specs.Literals.{number_from}
use Rattle.dc_uses.specs.Constants.{is_kind}

past_kinds : (n : ℕ) → 9 ≤ n → is_kind (pos n) ≡ false
past_kinds n past = grind (arith, past)

digits_past : (n : ℕ) (digits : List ℕ) → 9 ≤ n → is_kind (pos (number_from n digits)) ≡ false
digits_past n [] past = past_kinds n past
digits_past n (digit ∷ digits) past = digits_past (n * 10 + (digit - 48)) digits (omega (arith, past))

pub kept_kinds : (n : ℕ) (digits : List ℕ) → is_kind (pos (number_from (min n 9) digits)) ≡ is_kind (pos (number_from n digits))
kept_kinds n digits =
    elim (cases_lt n 9) [
      | inl less ↦ ap (λ m. is_kind (pos (number_from m digits))) (min-eq_left {n = n} {m = 9} (omega (arith, less)))
      | inr past ↦
          ap (λ m. is_kind (pos (number_from m digits))) (min-eq_right {n = 9} {m = n} past)
          ∙ digits_past 9 digits (omega arith) ∙ sym (digits_past n digits past)
    ]
