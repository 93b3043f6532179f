-- Of three factors, and of three patterns of bits, it makes no difference which two come first.
use Rattle.std.proofs.Common.{ℕ, zero, suc, ◌*◌, ◌/◌, ◌%◌, ◌≡◌, ◌<◌, refl, sym, ap, ◌∙◌, arith}
use Rattle.std.specs.Prelude.{ℤ, pos, negsuc, neg_ℤ, ◌*ℤ◌, bit_or}
use Rattle.std.proofs.Math.Nat.{mul_assoc, div-add-mod'}
use lib.Arith.{bin_ind}
use lib.Bits.{or_shr, or_mod}
use lib.IntN.{pos-*ℤ-pos, pos-*ℤ-negsuc, negsuc-*ℤ-pos, negsuc-*ℤ-negsuc}

neg-pos : (m n : ℕ) → neg_ℤ (pos m) *ℤ pos n ≡ neg_ℤ (pos (m * n))
neg-pos zero n = let e : zero * n ≡ 0 = omega arith in rw e refl
neg-pos (suc m) n = negsuc-*ℤ-pos m n

neg-negsuc : (m n : ℕ) → neg_ℤ (pos m) *ℤ negsuc n ≡ pos (m * suc n)
neg-negsuc zero n = let e : zero * suc n ≡ 0 = omega arith in rw e refl
neg-negsuc (suc m) n = negsuc-*ℤ-negsuc m n

pos-neg : (m n : ℕ) → pos m *ℤ neg_ℤ (pos n) ≡ neg_ℤ (pos (m * n))
pos-neg m zero = let e : m * zero ≡ 0 = omega arith in pos-*ℤ-pos m 0 ∙ rw e refl
pos-neg m (suc n) = pos-*ℤ-negsuc m n

negsuc-neg : (m n : ℕ) → negsuc m *ℤ neg_ℤ (pos n) ≡ pos (suc m * n)
negsuc-neg m zero = let e : suc m * zero ≡ 0 = omega arith in negsuc-*ℤ-pos m 0 ∙ rw e refl
negsuc-neg m (suc n) = negsuc-*ℤ-negsuc m n

-- Which two of three factors come first makes no difference.
pub product-assoc : (a b c : ℤ) → (a *ℤ b) *ℤ c ≡ a *ℤ (b *ℤ c)
product-assoc (pos a) (pos b) (pos c) =
    ap (λ z. z *ℤ pos c) (pos-*ℤ-pos a b) ∙ pos-*ℤ-pos (a * b) c ∙ ap pos (mul_assoc a b c)
    ∙ sym (ap (λ z. pos a *ℤ z) (pos-*ℤ-pos b c) ∙ pos-*ℤ-pos a (b * c))
product-assoc (pos a) (pos b) (negsuc c) =
    ap (λ z. z *ℤ negsuc c) (pos-*ℤ-pos a b) ∙ pos-*ℤ-negsuc (a * b) c ∙ ap (λ n. neg_ℤ (pos n)) (mul_assoc a b (suc c))
    ∙ sym (ap (λ z. pos a *ℤ z) (pos-*ℤ-negsuc b c) ∙ pos-neg a (b * suc c))
product-assoc (pos a) (negsuc b) (pos c) =
    ap (λ z. z *ℤ pos c) (pos-*ℤ-negsuc a b) ∙ neg-pos (a * suc b) c ∙ ap (λ n. neg_ℤ (pos n)) (mul_assoc a (suc b) c)
    ∙ sym (ap (λ z. pos a *ℤ z) (negsuc-*ℤ-pos b c) ∙ pos-neg a (suc b * c))
product-assoc (pos a) (negsuc b) (negsuc c) =
    ap (λ z. z *ℤ negsuc c) (pos-*ℤ-negsuc a b) ∙ neg-negsuc (a * suc b) c ∙ ap pos (mul_assoc a (suc b) (suc c))
    ∙ sym (ap (λ z. pos a *ℤ z) (negsuc-*ℤ-negsuc b c) ∙ pos-*ℤ-pos a (suc b * suc c))
product-assoc (negsuc a) (pos b) (pos c) =
    ap (λ z. z *ℤ pos c) (negsuc-*ℤ-pos a b) ∙ neg-pos (suc a * b) c ∙ ap (λ n. neg_ℤ (pos n)) (mul_assoc (suc a) b c)
    ∙ sym (ap (λ z. negsuc a *ℤ z) (pos-*ℤ-pos b c) ∙ negsuc-*ℤ-pos a (b * c))
product-assoc (negsuc a) (pos b) (negsuc c) =
    ap (λ z. z *ℤ negsuc c) (negsuc-*ℤ-pos a b) ∙ neg-negsuc (suc a * b) c ∙ ap pos (mul_assoc (suc a) b (suc c))
    ∙ sym (ap (λ z. negsuc a *ℤ z) (pos-*ℤ-negsuc b c) ∙ negsuc-neg a (b * suc c))
product-assoc (negsuc a) (negsuc b) (pos c) =
    ap (λ z. z *ℤ pos c) (negsuc-*ℤ-negsuc a b) ∙ pos-*ℤ-pos (suc a * suc b) c ∙ ap pos (mul_assoc (suc a) (suc b) c)
    ∙ sym (ap (λ z. negsuc a *ℤ z) (negsuc-*ℤ-pos b c) ∙ negsuc-neg a (suc b * c))
product-assoc (negsuc a) (negsuc b) (negsuc c) =
    ap (λ z. z *ℤ negsuc c) (negsuc-*ℤ-negsuc a b) ∙ pos-*ℤ-negsuc (suc a * suc b) c ∙ ap (λ n. neg_ℤ (pos n)) (mul_assoc (suc a) (suc b) (suc c))
    ∙ sym (ap (λ z. negsuc a *ℤ z) (negsuc-*ℤ-negsuc b c) ∙ negsuc-*ℤ-pos a (suc b * suc c))

-- ---- patterns of bits

not_digit : {A : Type 0} {n : ℕ} → suc (suc n) < 2 → A
not_digit h = absurd (omega arith)

digit-assoc : (x y z : ℕ) → x < 2 → y < 2 → z < 2 → bit_or (bit_or x y) z ≡ bit_or x (bit_or y z)
digit-assoc zero y z hx hy hz = refl
digit-assoc (suc zero) zero z hx hy hz = refl
digit-assoc (suc zero) (suc zero) zero hx hy hz = refl
digit-assoc (suc zero) (suc zero) (suc zero) hx hy hz = refl
digit-assoc (suc zero) (suc zero) (suc (suc z)) hx hy hz = not_digit hz
digit-assoc (suc zero) (suc (suc y)) z hx hy hz = not_digit hy
digit-assoc (suc (suc x)) y z hx hy hz = not_digit hx

by_digits : (m n : ℕ) → m / 2 ≡ n / 2 → m % 2 ≡ n % 2 → m ≡ n
by_digits m n half digit = let a = div-add-mod' m 2 in let b = div-add-mod' n 2 in omega arith

-- Which two of three patterns are joined first makes no difference.
pub or-assoc : (a b c : ℕ) → bit_or (bit_or a b) c ≡ bit_or a (bit_or b c)
or-assoc =
    bin_ind (λ (n : ℕ). (b c : ℕ) → bit_or (bit_or n b) c ≡ bit_or n (bit_or b c)) (λ b c. refl)
    (λ n ih b c. by_digits (bit_or (bit_or n b) c) (bit_or n (bit_or b c))
    (or_shr (bit_or n b) c 1 ∙ ap (λ (x : ℕ). bit_or x (c / 2)) (or_shr n b 1) ∙ ih (b / 2) (c / 2)
    ∙ sym (or_shr n (bit_or b c) 1 ∙ ap (bit_or (n / 2)) (or_shr b c 1)))
    (or_mod (bit_or n b) c 1 ∙ ap (λ (x : ℕ). bit_or x (c % 2)) (or_mod n b 1)
    ∙ digit-assoc (n % 2) (b % 2) (c % 2) (omega arith) (omega arith) (omega arith)
    ∙ sym (or_mod n (bit_or b c) 1 ∙ ap (bit_or (n % 2)) (or_mod b c 1))))
