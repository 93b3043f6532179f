-- The kinds of INTEGER as numbers, and wrapping to a kind.
use Rattle.std.specs.Prelude.{◌≡◌, ℕ, ◌-◌, ◌^◌, Bool, not, ◌&&◌, ◌||◌, ◌==◌, if◌then◌else◌, ℤ, pos, neg_ℤ, ◌+ℤ◌, ◌*ℤ◌, ◌≤ℤ◌, int_le}
use Rattle.std.specs.Int.{Width, w8, w16, w32, w64, int_wrap}
use Rattle.dc_int.specs.declared.kind.Kind.{Kind}

-- The width of the two's complement form of a kind. The kinds 1, 2, 4 and 8 are this project's own,
-- of those that ISO/IEC 1539-1:2023, clause 7.4.3.1, leaves to the processor.
abbrev pub width : Kind → Width
width Kind.K1 = w8
width Kind.K2 = w16
width Kind.K4 = w32
width Kind.K8 = w64

-- The number of bits of a kind, as BIT_SIZE gives it. After clause 16.3, the bit model.
abbrev pub bits_of : Kind → ℕ
bits_of Kind.K1 = 8
bits_of Kind.K2 = 16
bits_of Kind.K4 = 32
bits_of Kind.K8 = 64

-- The least and the greatest number of a kind. The greatest is HUGE of clause 16.4, the numeric
-- models; that the least is one further from zero is this project's own.
abbrev pub least_of : Kind → ℤ
least_of kind = neg_ℤ (pos (2 ^ (bits_of kind - 1)))

abbrev pub greatest_of : Kind → ℤ
greatest_of kind = pos (2 ^ (bits_of kind - 1) - 1)

-- A number of the kind, as a fact and as a test. After clause 16.4, with the least number above.
abbrev pub InRange : Kind → ℤ → Type 0
InRange kind z = (least_of kind ≤ℤ z) × (z ≤ℤ greatest_of kind)

abbrev pub is_of_kind : Kind → ℤ → Bool
is_of_kind kind z = int_le (least_of kind) z && int_le z (greatest_of kind)

-- A LOGICAL is 0 or 1. This project's own.
abbrev pub is_truth_value : ℤ → Bool
is_truth_value z = int_le (pos 0) z && int_le z (pos 1)

-- A value of a variable of this kind, which is LOGICAL or not: a number of the kind, and 0 or 1 where it
-- is LOGICAL. After clause 7.4, with the form of a LOGICAL above.
abbrev pub value_fits : Kind → Bool → ℤ → Bool
value_fits kind logical z = is_of_kind kind z && (not logical || is_truth_value z)

-- The numbers differ by a multiple of m. This project's own.
abbrev pub Congruent : ℕ → ℤ → ℤ → Type 0
Congruent m z r = (k : ℤ) × (z ≡ r +ℤ (k *ℤ pos m))

-- A number wrapped to a kind: the one number of the kind's range that is congruent to it modulo 2
-- to the number of bits. This project's own: the standard gives no meaning to a result out of range.
abbrev pub wrapped : Kind → ℤ → ℤ
wrapped kind z = int_wrap (width kind) z

-- The bit counts of the kinds, and the kind of each. This project's own.
abbrev pub is_bit_count : ℕ → Bool
is_bit_count bits = ((bits == 8) || (bits == 16)) || ((bits == 32) || (bits == 64))

abbrev pub kind_with : ℕ → Kind
kind_with bits = if bits == 8 then Kind.K1 else (if bits == 16 then Kind.K2 else (if bits == 32 then Kind.K4 else Kind.K8))
