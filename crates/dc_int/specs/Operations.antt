-- The operations on integers: each is the exact operation, followed by wrapping to the kind.
-- After ISO/IEC 1539-1:2023, clauses 10.1.5.2 and 16.9; the wrapping is this project's own, and so
-- are the faults, where the standard gives the program no meaning.
use Rattle.std.specs.Prelude.{ℕ, zero, suc, ◌+◌, ◌-◌, ◌/◌, ◌%◌, ◌^◌, Bool, true, false, ◌==◌, nat_le, nat_lt, if◌then◌else◌, ℤ, pos, negsuc, neg_ℤ, ◌+ℤ◌, ◌-ℤ◌, ◌*ℤ◌, int_div, int_rem, unsigned_abs, bit_and, bit_or, bit_xor}
use Rattle.std.specs.Prelude.{Result, Ok, Err}
use Rattle.std.specs.Int.{cast_unsigned, int_div_euclid, int_max, int_min, int_shr}
use Rattle.dc_int.specs.declared.kind.Kind.{Kind}
use Rattle.dc_int.specs.declared.operation.Op.{Op}
use Rattle.dc_int.specs.declared.operation.OpFault.{OpFault}
use Rattle.dc_int.specs.Kinds.{width, bits_of, wrapped}

-- A number, or what is wrong with the operands. This project's own.
abbrev pub Outcome : Type 0
Outcome = Result ℤ OpFault

-- The value, where the divisor is not zero. After clause 10.1.5.2; the fault is this project's own.
abbrev pub by_divisor : ℤ → ℤ → Outcome
by_divisor (pos zero) z = Err OpFault.Zero
by_divisor divisor z = Ok z

-- The quotient rounded down, which is FLOOR of clause 16.9 of the exact quotient.
abbrev pub floor_of_quotient : ℤ → ℤ → ℤ
floor_of_quotient a (pos b) = int_div_euclid a (pos b)
floor_of_quotient a (negsuc b) = int_div_euclid (neg_ℤ a) (pos (suc b))

-- MODULO of clause 16.9.
abbrev pub modulo : ℤ → ℤ → ℤ
modulo a b = a -ℤ (b *ℤ floor_of_quotient a b)

-- A power of a whole number that is not negative. After clause 10.1.5.2.
abbrev pub power : ℤ → ℕ → ℤ
power a zero = pos 1
power a (suc n) = a *ℤ power a n

-- One divided by a number to the power n, rounded toward zero, where n is not zero. After clause
-- 10.1.5.2.
abbrev pub one_over_power : ℤ → ℕ → Outcome
one_over_power (pos zero) n = Err OpFault.Zero
one_over_power (pos (suc zero)) n = Ok (pos 1)
one_over_power (negsuc zero) n = Ok (if n % 2 == 0 then pos 1 else negsuc 0)
one_over_power a n = Ok (pos 0)

-- After clause 10.1.5.2: a negative power is one over the power. That zero to the power zero is 1
-- is this project's own.
abbrev pub raised : ℤ → ℤ → Outcome
raised a (pos n) = Ok (power a n)
raised a (negsuc n) = one_over_power a (suc n)

-- The first operand's magnitude with the second one's sign: SIGN of clause 16.9.
abbrev pub with_sign : ℤ → ℤ → ℤ
with_sign a (pos n) = pos (unsigned_abs a)
with_sign a (negsuc n) = neg_ℤ (pos (unsigned_abs a))

-- The number that the bits of a number write without a sign, in two's complement at the kind.
-- The bits are those of clause 16.3, the bit model; a negative number's are this project's own.
abbrev pub pattern : Kind → ℤ → ℕ
pattern kind z = cast_unsigned (width kind) z

-- The numbers whose patterns are got bit by bit, before they are wrapped: IAND, IOR, IEOR and NOT of
-- clause 16.9.
abbrev pub bits_and : Kind → ℤ → ℤ → ℤ
bits_and kind a b = pos (bit_and (pattern kind a) (pattern kind b))

abbrev pub bits_or : Kind → ℤ → ℤ → ℤ
bits_or kind a b = pos (bit_or (pattern kind a) (pattern kind b))

abbrev pub bits_xor : Kind → ℤ → ℤ → ℤ
bits_xor kind a b = pos (bit_xor (pattern kind a) (pattern kind b))

abbrev pub bits_not : Kind → ℤ → ℤ
bits_not kind a = pos (2 ^ bits_of kind - 1 - pattern kind a)

-- Shifts by n places: to the left, to the right with zeros, to the right with the sign's bit.
-- SHIFTL, SHIFTR and SHIFTA of clause 16.9. Bits that leave the kind on the left go by wrapping.
abbrev pub left_by : ℤ → ℕ → ℤ
left_by a n = a *ℤ pos (2 ^ n)

abbrev pub right_by : Kind → ℤ → ℕ → ℤ
right_by kind a n = pos (pattern kind a / 2 ^ n)

abbrev pub right_signed_by : ℤ → ℕ → ℤ
right_signed_by a n = int_shr a n

-- With bit n set and with bit n cleared: IBSET and IBCLR of clause 16.9.
abbrev pub bit_set : Kind → ℤ → ℕ → ℤ
bit_set kind a n = pos (bit_or (pattern kind a) (2 ^ n))

abbrev pub bit_cleared : Kind → ℤ → ℕ → ℤ
bit_cleared kind a n = pos (bit_and (pattern kind a) (2 ^ bits_of kind - 1 - 2 ^ n))

-- How many of the lowest bits of a pattern are one, of so many bits: POPCNT of clause 16.9.
abbrev pub one_bits : ℕ → ℕ → ℕ
one_bits zero n = 0
one_bits (suc bits) n = n % 2 + one_bits bits (n / 2)

abbrev pub count_of_ones : Kind → ℤ → ℤ
count_of_ones kind a = pos (one_bits (bits_of kind) (pattern kind a))

-- The places that a shift is by: from 0 up to the number of bits, as the procedures of clause 16.9 ask it.
-- The fault is this project's own.
abbrev pub places : Kind → ℤ → Result ℕ OpFault
places kind (pos n) = if nat_le n (bits_of kind) then Ok n else Err OpFault.Shift
places kind (negsuc n) = Err OpFault.Shift

-- The position of a bit: from 0 below the number of bits, as the procedures of clause 16.9 ask it.
abbrev pub position : Kind → ℤ → Result ℕ OpFault
position kind (pos n) = if nat_lt n (bits_of kind) then Ok n else Err OpFault.Shift
position kind (negsuc n) = Err OpFault.Shift

-- What comes of a place that is allowed. The value is a function, so that no other place is computed with.
abbrev pub at_place : (ℕ → ℤ) → Result ℕ OpFault → Outcome
at_place value (Ok place) = Ok (value place)
at_place value (Err fault) = Err fault

-- To the left, or to the right with zeros by a negative number of places: ISHFT of clause 16.9.
abbrev pub shifted : Kind → ℤ → ℤ → Outcome
shifted kind a (pos n) = at_place (left_by a) (places kind (pos n))
shifted kind a (negsuc n) = at_place (right_by kind a) (places kind (pos (suc n)))

-- The operations on bits, exact. After clause 16.9. No other operation is asked for here.
abbrev pub exact_on_bits : Op → Kind → ℤ → ℤ → Outcome
exact_on_bits Op.Iand kind a b = Ok (bits_and kind a b)
exact_on_bits Op.Ior kind a b = Ok (bits_or kind a b)
exact_on_bits Op.Ieor kind a b = Ok (bits_xor kind a b)
exact_on_bits Op.Not kind a b = Ok (bits_not kind a)
exact_on_bits Op.Ishft kind a b = shifted kind a b
exact_on_bits Op.Shiftl kind a b = at_place (left_by a) (places kind b)
exact_on_bits Op.Shiftr kind a b = at_place (right_by kind a) (places kind b)
exact_on_bits Op.Shifta kind a b = at_place (right_signed_by a) (places kind b)
exact_on_bits Op.Ibset kind a b = at_place (bit_set kind a) (position kind b)
exact_on_bits Op.Ibclr kind a b = at_place (bit_cleared kind a) (position kind b)
exact_on_bits Op.Popcnt kind a b = Ok (count_of_ones kind a)
exact_on_bits op kind a b = Ok (pos 0)

-- The operations, exact. After clauses 10.1.5.2 and 16.9. DIM is the exact difference where it is
-- positive, also where that is out of the kind.
abbrev pub exact : Op → Kind → ℤ → ℤ → Outcome
exact Op.Add kind a b = Ok (a +ℤ b)
exact Op.Sub kind a b = Ok (a -ℤ b)
exact Op.Mul kind a b = Ok (a *ℤ b)
exact Op.Neg kind a b = Ok (neg_ℤ a)
exact Op.Abs kind a b = Ok (pos (unsigned_abs a))
exact Op.Div kind a b = by_divisor b (int_div a b)
exact Op.Mod kind a b = by_divisor b (int_rem a b)
exact Op.Modulo kind a b = by_divisor b (modulo a b)
exact Op.Pow kind a b = raised a b
exact Op.Min kind a b = Ok (int_min a b)
exact Op.Max kind a b = Ok (int_max a b)
exact Op.Sign kind a b = Ok (with_sign a b)
exact Op.Dim kind a b = Ok (int_max (a -ℤ b) (pos 0))
exact op kind a b = exact_on_bits op kind a b

abbrev pub wrapped_outcome : Kind → Outcome → Outcome
wrapped_outcome kind (Ok z) = Ok (wrapped kind z)
wrapped_outcome kind (Err fault) = Err fault

-- An operation: the exact one, then wrapped, or its fault. This project's own.
abbrev pub applied : Op → Kind → ℤ → ℤ → Outcome
applied op kind a b = wrapped_outcome kind (exact op kind a b)

-- The operations whose second operand is a number of places or the position of a bit, and so may be any
-- number. This project's own.
abbrev pub takes_place : Op → Bool
takes_place Op.Ishft = true
takes_place Op.Shiftl = true
takes_place Op.Shiftr = true
takes_place Op.Shifta = true
takes_place Op.Ibset = true
takes_place Op.Ibclr = true
takes_place op = false
