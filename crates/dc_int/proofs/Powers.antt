-- What the definitions of powers and of MODULO say in the standard's words.
use Rattle.std.proofs.Common.{◌≡◌, ℕ, zero, suc, ◌*◌, ◌/◌, ◌%◌, ◌<◌, ◌≤◌, Bool, true, false, cond, not, refl, sym, ap, ◌∙◌, arith}
use Rattle.std.specs.Prelude.{ℤ, pos, negsuc, neg_ℤ, ◌*ℤ◌, ◌≤ℤ◌, ◌<ℤ◌, ◌==◌, unsigned_abs, int_div, Ok}
use Rattle.std.proofs.lemmas.Int.{ints, unsigned_abs-mul}
use borrow.Author.Differences.{same_in, sum_is_lem, neg_is, product_is}
use Rattle.std.proofs.Math.Nat.{div-add-mod', mod-lt, mul-le-mul, mul_comm, mul-suc, div-eq_of_lt}
use Rattle.std.proofs.lemmas.Bool.Decides.{nat_tests}
use Rattle.dc_int.specs.Operations.{Outcome, by_divisor, modulo, power, one_over_power}

power-zero : (n : ℕ) → power (pos 0) (suc n) ≡ pos 0
power-zero n = by (power (pos 0) n)
  where
    by : (z : ℤ) → pos 0 *ℤ z ≡ pos 0
    by z = same_in _ _ (omega (arith, product_is))

power-one : (n : ℕ) → power (pos 1) n ≡ pos 1
power-one zero = refl
power-one (suc n) = ap (λ z. pos 1 *ℤ z) (power-one n)

parity : (n : ℕ) → (suc n % 2 == 0) ≡ not (n % 2 == 0)
parity n = grind (arith, nat_tests)

other_sign : (even : Bool) → negsuc 0 *ℤ cond even (pos 1) (negsuc 0) ≡ cond (not even) (pos 1) (negsuc 0)
other_sign true = refl
other_sign false = refl

power-minus_one : (n : ℕ) → power (negsuc 0) n ≡ cond (n % 2 == 0) (pos 1) (negsuc 0)
power-minus_one zero = refl
power-minus_one (suc n) = ap (λ z. negsuc 0 *ℤ z) (power-minus_one n) ∙ other_sign (n % 2 == 0) ∙ ap (λ even. cond even (pos 1) (negsuc 0)) (sym (parity n))

power-larger : (a z : ℤ) → 2 ≤ unsigned_abs a → 1 ≤ unsigned_abs z → 2 ≤ unsigned_abs (a *ℤ z)
power-larger a z large some =
    let product = unsigned_abs-mul a z in
    let more : 2 * 1 ≤ unsigned_abs a * unsigned_abs z = mul-le-mul large some in
    omega arith

power-size : (a : ℤ) (n : ℕ) → 2 ≤ unsigned_abs a → 1 ≤ unsigned_abs (power a n)
power-size a zero large = omega arith
power-size a (suc n) large = omega (arith, power-larger a (power a n) large (power-size a n large))

abbrev over : ℤ → Outcome
over z = by_divisor z (int_div (pos 1) z)

over-large : (z : ℤ) → 2 ≤ unsigned_abs z → over z ≡ Ok (pos 0)
over-large (pos zero) large = absurd (omega arith)
over-large (pos (suc k)) large = let none : 1 / suc k ≡ 0 = div-eq_of_lt (omega arith) in let f : ℕ → Outcome = λ q. Ok (pos q) in ap f none
over-large (negsuc k) large = let none : 1 / suc k ≡ 0 = div-eq_of_lt (omega arith) in let f : ℕ → Outcome = λ q. Ok (neg_ℤ (pos q)) in ap f none

over-sign : (even : Bool) → over (cond even (pos 1) (negsuc 0)) ≡ Ok (cond even (pos 1) (negsuc 0))
over-sign true = refl
over-sign false = refl

-- A negative power is one over the power, rounded toward zero, as clause 10.1.5.2 has it.
pub one_over_power-is : (a : ℤ) (n : ℕ) → one_over_power a (suc n) ≡ by_divisor (power a (suc n)) (int_div (pos 1) (power a (suc n)))
one_over_power-is (pos zero) n = sym (ap over (power-zero n))
one_over_power-is (pos (suc zero)) n = sym (ap over (power-one (suc n)))
one_over_power-is (negsuc zero) n = sym (ap over (power-minus_one (suc n)) ∙ over-sign (suc n % 2 == 0))
one_over_power-is (pos (suc (suc k))) n =
    sym (over-large (power (pos (suc (suc k))) (suc n)) (power-larger (pos (suc (suc k))) (power (pos (suc (suc k))) n) (omega arith) (power-size (pos (suc (suc k))) n (omega arith))))
one_over_power-is (negsuc (suc k)) n =
    sym (over-large (power (negsuc (suc k)) (suc n)) (power-larger (negsuc (suc k)) (power (negsuc (suc k)) n) (omega arith) (power-size (negsuc (suc k)) n (omega arith))))

-- MODULO by a positive number is from 0 below it, so the quotient of its definition is the floor.
pub modulo-by_positive : (a : ℤ) (b : ℕ) → 0 < b → (pos 0 ≤ℤ modulo a (pos b)) × (modulo a (pos b) <ℤ pos b)
modulo-by_positive (pos x) b some =
    let split = div-add-mod' x b in
    let small : x % b < b = mod-lt x some in
    let turned = mul_comm b (x / b) in
    (omega (arith, ints), omega (arith, ints))
modulo-by_positive (negsuc x) b some =
    let split = div-add-mod' x b in
    let small : x % b < b = mod-lt x some in
    let turned = mul_comm b (x / b) in
    let more = mul-suc b (x / b) in
    (omega (arith, ints), omega (arith, ints))

-- MODULO by a negative number is that of the opposite numbers, with the other sign.
pub modulo-by_negative : (a : ℤ) (b : ℕ) → modulo a (negsuc b) ≡ neg_ℤ (modulo (neg_ℤ a) (pos (suc b)))
modulo-by_negative a b = same_in _ _ (omega (arith, sum_is_lem, neg_is, product_is))
