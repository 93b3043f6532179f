-- How many values there are from a number to another.
use Rattle.std.proofs.Common.{◌≡◌, ℕ, zero, suc, ◌/◌, ◌<◌, ◌≤◌, ◌^◌, refl, arith}
use Rattle.std.proofs.lemmas.Int.{fits_signed_from_abs}
use Rattle.std.proofs.Math.Nat.{div-le_self}
use Rattle.std.specs.Int.{w128}
use Rattle.std.specs.Prelude.{ℤ, pos, negsuc, neg_ℤ, FitsSigned, int_div, unsigned_abs}

abs_neg : (n : ℕ) → unsigned_abs (neg_ℤ (pos n)) ≡ n
abs_neg zero = refl
abs_neg (suc n) = refl

abs-quot : (a d : ℤ) → unsigned_abs (int_div a d) ≤ unsigned_abs a
abs-quot (pos a) (pos b) = div-le_self a b
abs-quot (pos a) (negsuc b) = omega (arith, abs_neg (a / suc b), div-le_self a (suc b))
abs-quot (negsuc a) (pos b) = omega (arith, abs_neg (suc a / b), div-le_self (suc a) b)
abs-quot (negsuc a) (negsuc b) = div-le_self (suc a) (suc b)

pub quot-fits : (a d : ℤ) → unsigned_abs a < 2 ^ 127 → FitsSigned w128 (int_div a d)
quot-fits a d short = fits_signed_from_abs w128 (int_div a d) (let less = abs-quot a d in omega (arith, less, short))
