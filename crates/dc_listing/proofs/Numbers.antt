-- Numbers as the library writes them.
use Rattle.std.proofs.Common.{◌≡◌, ℕ, zero, suc, ◌^◌, ◌<◌, List, ◌∷◌, sym, ap, arith, decimal}
use Rattle.std.proofs.lemmas.Fmt.{decimal_digit, decimal-digits_of}
use Rattle.std.specs.Prelude.{pos, negsuc}
use Rattle.std.specs.Fmt.{signed_decimal}
use Rattle.dc_listing.specs.Words.{number, signed}

pub number-decimal : (n : ℕ) → n < 2 ^ 64 → number n ≡ decimal n
unfolding number
number-decimal zero small = sym (decimal_digit 0 (omega arith))
number-decimal (suc n) small = sym (decimal-digits_of (suc n) (omega arith) small)

pub signed-decimal_pos : (n : ℕ) → n < 2 ^ 64 → signed (pos n) ≡ signed_decimal (pos n)
signed-decimal_pos n small = number-decimal n small

pub signed-decimal_neg : (n : ℕ) → suc n < 2 ^ 64 → signed (negsuc n) ≡ signed_decimal (negsuc n)
signed-decimal_neg n small = ap (λ (digits : List ℕ). 45 ∷ digits) (number-decimal (suc n) small)

pub ruleset numbers = (number-decimal, signed-decimal_pos, signed-decimal_neg)
