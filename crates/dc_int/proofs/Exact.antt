-- What the steps of the code make of the exact operations.
use Rattle.std.proofs.Common.{◌≡◌, ℕ, zero, suc, ◌+◌, ◌-◌, ◌*◌, ◌/◌, ◌%◌, ◌^◌, ◌<◌, ◌≤◌, refl, sym, ap, ap₂, ◌∙◌, subst, arith, to_z, of_z}
use Rattle.std.specs.Prelude.{ℤ, pos, negsuc, neg_ℤ, ◌-ℤ◌, ◌*ℤ◌, ◌<ℤ◌, ◌≤ℤ◌, FitsSigned, unsigned_abs, bit_and, count_ones, Ok}
use Rattle.std.specs.Int.{w64, w128, int_wrap, int_rem_euclid, int_div_euclid}
use Rattle.std.proofs.lemmas.Int.{ints, to_z_pos, to_z-of_z, int_wrap-mul_left, int_wrap-mul_right}
use Rattle.std.proofs.lemmas.Nat.{one_shl, ones_le_self, and_mask, mod-pow-add, field_of}
use borrow.Author.Differences.{same_in, sum_is_lem, neg_is, product_is}
use Rattle.std.proofs.Math.Nat.{div-add-mod', mod-lt, mul-suc, mul_comm, mul-le-mul, pow-suc}
use lib.IntN.{*ℤ_comm}
use lib.Pow.{pow_mono, pow_pos}
use lib.Count.{ones_step}
use Rattle.dc_int.specs.declared.kind.Kind.{Kind}
use Rattle.dc_int.specs.Kinds.{bits_of, wrapped}
use Rattle.dc_int.specs.Operations.{Outcome, by_divisor, modulo, power, raised, wrapped_outcome, pattern, one_bits, count_of_ones}
use mir.Val.{bits}
use Rattle.dc_int.proofs.Threes.{product-assoc}
use Rattle.dc_int.proofs.Wraps.{wrapped-again}

-- ---- MODULO

rest-is : (z : ℤ) (m : ℕ) → 0 < m → int_rem_euclid z (pos m) ≡ z -ℤ (pos m *ℤ int_div_euclid z (pos m))
rest-is (pos a) m some =
    let split = div-add-mod' a m in
    let turned = mul_comm m (a / m) in
    same_in _ _ (omega (arith, sum_is_lem, product_is, ints))
rest-is (negsuc a) m some =
    let split = div-add-mod' a m in
    let small : a % m < m = mod-lt a some in
    let turned = mul_comm m (a / m) in
    let more = mul-suc m (a / m) in
    same_in _ _ (omega (arith, sum_is_lem, product_is, ints))

abbrev pub answer : ℤ → Outcome
answer z = Ok z

-- By a negative divisor MODULO is the opposite of the remainder of the opposite numbers.
pub modulo-below
    : (a b x y rest left : ℤ) → b <ℤ pos 0 → rest ≡ int_rem_euclid x y → x ≡ neg_ℤ a → y ≡ neg_ℤ b → left ≡ neg_ℤ rest
    → answer left ≡ by_divisor b (modulo a b)
modulo-below a (pos n) x y rest left below is first second turned = absurd (omega (arith, ints))
modulo-below a (negsuc n) x y rest left below is first second turned =
    ap answer (turned ∙ ap neg_ℤ (is ∙ ap₂ int_rem_euclid first second ∙ rest-is (neg_ℤ a) (suc n) (omega arith))
    ∙ same_in _ _ (omega (arith, sum_is_lem, neg_is, product_is)))

-- ---- powers

wrapped_power : (a : ℤ) (n : ℕ) → int_wrap w64 (power (int_wrap w64 a) n) ≡ int_wrap w64 (power a n)
wrapped_power a zero = refl
wrapped_power a (suc n) =
    int_wrap-mul_left w64 a (power (int_wrap w64 a) n) ∙ sym (int_wrap-mul_right w64 a (power (int_wrap w64 a) n))
    ∙ ap (λ z. int_wrap w64 (a *ℤ z)) (wrapped_power a n) ∙ int_wrap-mul_right w64 a (power a n)

power-twice : (a : ℤ) (n : ℕ) → power (a *ℤ a) n ≡ power a (n + n)
power-twice a zero = refl
power-twice a (suc n) =
    ap (λ z. (a *ℤ a) *ℤ z) (power-twice a n) ∙ product-assoc a a (power a (n + n)) ∙ ap (power a) (sym more)
  where
    more : suc n + suc n ≡ suc (suc (n + n))
    more = omega arith

power-even : (a : ℤ) (n : ℕ) → n % 2 ≡ 0 → power (a *ℤ a) (n / 2) ≡ power a n
power-even a n even = power-twice a (n / 2) ∙ ap (power a) whole
  where
    whole : n / 2 + n / 2 ≡ n
    whole = omega arith

power-odd : (a : ℤ) (n : ℕ) → n % 2 ≡ 1 → a *ℤ power (a *ℤ a) (n / 2) ≡ power a n
power-odd a n odd = ap (λ z. a *ℤ z) (power-twice a (n / 2)) ∙ ap (power a) whole
  where
    whole : suc (n / 2 + n / 2) ≡ n
    whole = omega arith

-- The power of the square to the half is the power.
pub halves-even : (a : ℤ) (n : ℕ) → n % 2 ≡ 0 → int_wrap w64 (power (int_wrap w64 (a *ℤ a)) (n / 2)) ≡ int_wrap w64 (power a n)
halves-even a n even = wrapped_power (a *ℤ a) (n / 2) ∙ ap (int_wrap w64) (power-even a n even)

pub halves-odd
    : (a : ℤ) (n : ℕ) → n % 2 ≡ 1 → int_wrap w64 (int_wrap w64 (power (int_wrap w64 (a *ℤ a)) (n / 2)) *ℤ a) ≡ int_wrap w64 (power a n)
halves-odd a n odd =
    ap (λ z. int_wrap w64 (z *ℤ a)) (wrapped_power (a *ℤ a) (n / 2)) ∙ int_wrap-mul_left w64 (power (a *ℤ a) (n / 2)) a
    ∙ ap (int_wrap w64) (*ℤ_comm (power (a *ℤ a) (n / 2)) a ∙ power-odd a n odd)

-- A power that is wrapped to 64 bits wraps to the power at every kind.
pub raised-exit
    : (a b x : ℤ) → pos 0 ≤ℤ b → x ≡ wrapped Kind.K8 (power a (unsigned_abs b)) → (kind : Kind) → answer (wrapped kind x) ≡ wrapped_outcome kind (raised a b)
raised-exit a (pos n) x above is kind = ap answer (ap (wrapped kind) is ∙ wrapped-again kind (power a n))
raised-exit a (negsuc n) x above is kind = absurd (omega (arith, ints))

-- ---- bits

-- A shift to the left of a number of 64 bits by 64 places at most fits 128 bits.
pub left-fits : (a : ℤ) (n : ℕ) → FitsSigned w64 a → n ≤ 64 → FitsSigned w128 (a *ℤ pos (2 ^ n))
left-fits (pos a) n fits few =
    let factor : 2 ^ n ≤ 2 ^ 64 = pow_mono few in
    let small : a ≤ 2 ^ 63 - 1 = omega (arith, ints) in
    let product : a * 2 ^ n ≤ (2 ^ 63 - 1) * 2 ^ 64 = mul-le-mul small factor in
    omega (arith, ints)
left-fits (negsuc a) n fits few =
    let factor : 2 ^ n ≤ 2 ^ 64 = pow_mono few in
    let small : suc a ≤ 2 ^ 63 = omega (arith, ints) in
    let product : suc a * 2 ^ n ≤ 2 ^ 63 * 2 ^ 64 = mul-le-mul small factor in
    omega (arith, ints)

-- The factor of a shift.
pub factor-is : (n : ℕ) → n ≤ 64 → to_z w128 (1 * 2 ^ n % 2 ^ 128) ≡ pos (2 ^ n)
factor-is n few =
    let factor : 2 ^ n ≤ 2 ^ 64 = pow_mono few in ap (to_z w128) (one_shl n 128 (omega arith)) ∙ to_z_pos w128 (2 ^ n) (omega arith)

pub product-fits : (a x y : ℤ) (n : ℕ) → FitsSigned w64 a → n ≤ 64 → x ≡ a → y ≡ pos (2 ^ n) → FitsSigned w128 (x *ℤ y)
product-fits a x y n fits few left right = subst (FitsSigned w128) (sym (ap₂ (λ u v. u *ℤ v) left right)) (left-fits a n fits few)

pub product-exit
    : (a x y : ℤ) (n : ℕ) → FitsSigned w64 a → n ≤ 64 → x ≡ a → y ≡ pos (2 ^ n) → to_z w128 (of_z w128 (x *ℤ y)) ≡ a *ℤ pos (2 ^ n)
product-exit a x y n fits few left right =
    to_z-of_z w128 (x *ℤ y) (product-fits a x y n fits few left right) ∙ ap₂ (λ u v. u *ℤ v) left right

-- The bits that are one are counted from the lowest on.
one_bits-is : (bits n : ℕ) → n < 2 ^ bits → one_bits bits n ≡ count_ones n
one_bits-is zero n small =
    let none : n ≡ 0 = omega arith in
    let few = ones_le_self 0 in
    let no_ones : count_ones 0 ≡ 0 = omega arith in
    sym (ap count_ones none ∙ no_ones)
one_bits-is (suc bits) n small =
    let twice = pow-suc 2 bits in
    let half : n / 2 < 2 ^ bits = omega arith in
    ap (λ k. n % 2 + k) (one_bits-is bits (n / 2) half) ∙ sym (ones_step n)

-- only the lowest bits are counted
one_bits-low : (bits n : ℕ) → one_bits bits n ≡ one_bits bits (n % 2 ^ bits)
one_bits-low zero n = refl
one_bits-low (suc bits) n =
    let more : bits + 1 ≡ suc bits = omega arith in
    let whole = mod-pow-add n bits 1 in
    let last : n % 2 ^ (bits + 1) % 2 ≡ n % 2 = omega arith in
    let low : n % 2 ^ suc bits % 2 ≡ n % 2 = subst (λ (k : ℕ). n % 2 ^ k % 2 ≡ n % 2) more last in
    let high : n % 2 ^ suc bits / 2 ≡ n / 2 % 2 ^ bits = subst (λ (k : ℕ). n % 2 ^ k / 2 ≡ n / 2 % 2 ^ bits) more (field_of n bits 1) in
    ap₂ (λ a b. a + b) (sym low) (one_bits-low bits (n / 2) ∙ sym (ap (one_bits bits) high))

pub count-is : (kind : Kind) (a : ℤ) → count_of_ones kind a ≡ pos (count_ones (bit_and (pattern kind a) (2 ^ bits_of kind - 1)))
count-is kind a =
    let small : pattern kind a % 2 ^ bits_of kind < 2 ^ bits_of kind = mod-lt (pattern kind a) (pow_pos (bits_of kind)) in
    ap pos (one_bits-low (bits_of kind) (pattern kind a) ∙ one_bits-is (bits_of kind) (pattern kind a % 2 ^ bits_of kind) small
    ∙ ap count_ones (sym (and_mask (pattern kind a) (bits_of kind))))
