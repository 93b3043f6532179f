-- Operations on numbers, each computed by the definitions.
use Rattle.std.proofs.Common.{◌≡◌, ℕ, ◌+◌, List, [], ◌∷◌, refl}
use Rattle.std.specs.Prelude.{ℤ, pos, neg_ℤ, Ok, Err, filter}
use Rattle.std.specs.Int.{int_wrap}
use Rattle.dc_int.specs.declared.kind.Kind.{Kind}
use Rattle.dc_int.specs.declared.operation.Op.{Op}
use Rattle.dc_int.specs.declared.operation.OpFault.{OpFault}
use Rattle.dc_int.specs.Kinds.{bits_of, least_of, greatest_of}
use Rattle.dc_int.specs.Operations.{Outcome, applied, takes_place}

-- -2**2 is the negative of a power
pub two_squared : applied Op.Pow Kind.K4 (pos 2) (pos 2) ≡ Ok (pos 4)
unfolding int_wrap
two_squared = refl

pub minus_four : applied Op.Neg Kind.K4 (pos 4) (pos 0) ≡ Ok (neg_ℤ (pos 4))
unfolding int_wrap
minus_four = refl

-- 7/(-2), mod(-7, 3) and modulo(-7, 3)
pub seven_over_minus_two : applied Op.Div Kind.K4 (pos 7) (neg_ℤ (pos 2)) ≡ Ok (neg_ℤ (pos 3))
unfolding int_wrap
seven_over_minus_two = refl

pub remainder_of_minus_seven : applied Op.Mod Kind.K4 (neg_ℤ (pos 7)) (pos 3) ≡ Ok (neg_ℤ (pos 1))
unfolding int_wrap
remainder_of_minus_seven = refl

pub modulo_of_minus_seven : applied Op.Modulo Kind.K4 (neg_ℤ (pos 7)) (pos 3) ≡ Ok (pos 2)
unfolding int_wrap
modulo_of_minus_seven = refl

pub modulo_by_minus_three : applied Op.Modulo Kind.K4 (pos 7) (neg_ℤ (pos 3)) ≡ Ok (neg_ℤ (pos 2))
unfolding int_wrap
modulo_by_minus_three = refl

pub modulo_of_two_negatives : applied Op.Modulo Kind.K4 (neg_ℤ (pos 7)) (neg_ℤ (pos 3)) ≡ Ok (neg_ℤ (pos 1))
unfolding int_wrap
modulo_of_two_negatives = refl

pub modulo_of_a_multiple : applied Op.Modulo Kind.K4 (pos 6) (neg_ℤ (pos 3)) ≡ Ok (pos 0)
unfolding int_wrap
modulo_of_a_multiple = refl

-- 2**(-3), 0**0, 0**(-1), (-1)**(-3) and a power that wraps
pub two_to_minus_three : applied Op.Pow Kind.K4 (pos 2) (neg_ℤ (pos 3)) ≡ Ok (pos 0)
unfolding int_wrap
two_to_minus_three = refl

pub zero_to_zero : applied Op.Pow Kind.K4 (pos 0) (pos 0) ≡ Ok (pos 1)
unfolding int_wrap
zero_to_zero = refl

pub zero_to_minus_one : applied Op.Pow Kind.K4 (pos 0) (neg_ℤ (pos 1)) ≡ Err OpFault.Zero
zero_to_minus_one = refl

pub minus_one_to_minus_three : applied Op.Pow Kind.K4 (neg_ℤ (pos 1)) (neg_ℤ (pos 3)) ≡ Ok (neg_ℤ (pos 1))
unfolding int_wrap
minus_one_to_minus_three = refl

pub minus_one_to_minus_four : applied Op.Pow Kind.K4 (neg_ℤ (pos 1)) (neg_ℤ (pos 4)) ≡ Ok (pos 1)
unfolding int_wrap
minus_one_to_minus_four = refl

pub three_to_five_wraps : applied Op.Pow Kind.K1 (pos 3) (pos 5) ≡ Ok (neg_ℤ (pos 13))
unfolding int_wrap
three_to_five_wraps = refl

-- the least number divided by -1, and its magnitude
pub least_over_minus_one : applied Op.Div Kind.K8 (least_of Kind.K8) (neg_ℤ (pos 1)) ≡ Ok (least_of Kind.K8)
unfolding int_wrap
least_over_minus_one = refl

pub magnitude_of_least : applied Op.Abs Kind.K1 (least_of Kind.K1) (pos 0) ≡ Ok (least_of Kind.K1)
unfolding int_wrap
magnitude_of_least = refl

-- a difference out of the kind: DIM wraps it
pub dim_wraps : applied Op.Dim Kind.K1 (pos 100) (neg_ℤ (pos 100)) ≡ Ok (neg_ℤ (pos 56))
unfolding int_wrap
dim_wraps = refl

pub dim_below : applied Op.Dim Kind.K1 (neg_ℤ (pos 100)) (pos 100) ≡ Ok (pos 0)
unfolding int_wrap
dim_below = refl

pub sign_of_least : applied Op.Sign Kind.K2 (least_of Kind.K2) (pos 0) ≡ Ok (least_of Kind.K2)
unfolding int_wrap
sign_of_least = refl

pub sign_of_five : applied Op.Sign Kind.K2 (pos 5) (neg_ℤ (pos 1)) ≡ Ok (neg_ℤ (pos 5))
unfolding int_wrap
sign_of_five = refl

pub sign_of_minus_five : applied Op.Sign Kind.K2 (neg_ℤ (pos 5)) (pos 0) ≡ Ok (pos 5)
unfolding int_wrap
sign_of_minus_five = refl

-- bits of negative numbers
pub minus_two_and_seven : applied Op.Iand Kind.K1 (neg_ℤ (pos 2)) (pos 7) ≡ Ok (pos 6)
unfolding int_wrap
minus_two_and_seven = refl

pub minus_eight_or_three : applied Op.Ior Kind.K1 (neg_ℤ (pos 8)) (pos 3) ≡ Ok (neg_ℤ (pos 5))
unfolding int_wrap
minus_eight_or_three = refl

pub minus_one_ieor_five : applied Op.Ieor Kind.K8 (neg_ℤ (pos 1)) (pos 5) ≡ Ok (neg_ℤ (pos 6))
unfolding int_wrap
minus_one_ieor_five = refl

pub not_zero : applied Op.Not Kind.K8 (pos 0) (pos 0) ≡ Ok (neg_ℤ (pos 1))
unfolding int_wrap
not_zero = refl

pub minus_one_left_by_seven : applied Op.Ishft Kind.K1 (neg_ℤ (pos 1)) (pos 7) ≡ Ok (neg_ℤ (pos 128))
unfolding int_wrap
minus_one_left_by_seven = refl

pub minus_one_right_by_seven : applied Op.Ishft Kind.K1 (neg_ℤ (pos 1)) (neg_ℤ (pos 7)) ≡ Ok (pos 1)
unfolding int_wrap
minus_one_right_by_seven = refl

pub minus_one_right_by_eight : applied Op.Ishft Kind.K1 (neg_ℤ (pos 1)) (neg_ℤ (pos 8)) ≡ Ok (pos 0)
unfolding int_wrap
minus_one_right_by_eight = refl

pub no_shift_by_nine : applied Op.Ishft Kind.K1 (pos 1) (neg_ℤ (pos 9)) ≡ Err OpFault.Shift
no_shift_by_nine = refl

pub no_shift_by_a_large_number : applied Op.Shiftl Kind.K8 (pos 1) (greatest_of Kind.K8) ≡ Err OpFault.Shift
no_shift_by_a_large_number = refl

pub left_by_all_bits : applied Op.Shiftl Kind.K1 (pos 1) (pos 8) ≡ Ok (pos 0)
unfolding int_wrap
left_by_all_bits = refl

pub minus_two_with_zeros : applied Op.Shiftr Kind.K4 (neg_ℤ (pos 2)) (pos 1) ≡ Ok (greatest_of Kind.K4)
unfolding int_wrap
minus_two_with_zeros = refl

pub right_by_nothing : applied Op.Shiftr Kind.K4 (neg_ℤ (pos 2)) (pos 0) ≡ Ok (neg_ℤ (pos 2))
unfolding int_wrap
right_by_nothing = refl

pub minus_five_with_sign : applied Op.Shifta Kind.K4 (neg_ℤ (pos 5)) (pos 1) ≡ Ok (neg_ℤ (pos 3))
unfolding int_wrap
minus_five_with_sign = refl

pub minus_five_by_all_bits : applied Op.Shifta Kind.K4 (neg_ℤ (pos 5)) (pos 32) ≡ Ok (neg_ℤ (pos 1))
unfolding int_wrap
minus_five_by_all_bits = refl

pub no_negative_places : applied Op.Shifta Kind.K4 (pos 5) (neg_ℤ (pos 1)) ≡ Err OpFault.Shift
no_negative_places = refl

pub last_bit_set : applied Op.Ibset Kind.K1 (pos 0) (pos 7) ≡ Ok (least_of Kind.K1)
unfolding int_wrap
last_bit_set = refl

pub bit_set_again : applied Op.Ibset Kind.K1 (neg_ℤ (pos 1)) (pos 3) ≡ Ok (neg_ℤ (pos 1))
unfolding int_wrap
bit_set_again = refl

pub no_bit_eight : applied Op.Ibset Kind.K1 (pos 0) (pos 8) ≡ Err OpFault.Shift
no_bit_eight = refl

pub last_bit_cleared : applied Op.Ibclr Kind.K1 (neg_ℤ (pos 1)) (pos 7) ≡ Ok (greatest_of Kind.K1)
unfolding int_wrap
last_bit_cleared = refl

pub bit_cleared_again : applied Op.Ibclr Kind.K4 (neg_ℤ (pos 8)) (pos 0) ≡ Ok (neg_ℤ (pos 8))
unfolding int_wrap
bit_cleared_again = refl

pub ones_of_minus_one : applied Op.Popcnt Kind.K8 (neg_ℤ (pos 1)) (pos 0) ≡ Ok (pos 64)
unfolding int_wrap
ones_of_minus_one = refl

pub ones_of_minus_two : applied Op.Popcnt Kind.K1 (neg_ℤ (pos 2)) (pos 0) ≡ Ok (pos 7)
unfolding int_wrap
ones_of_minus_two = refl

pub greatest_plus_one : applied Op.Add Kind.K8 (greatest_of Kind.K8) (pos 1) ≡ Ok (least_of Kind.K8)
unfolding int_wrap
greatest_plus_one = refl

pub product_wraps : applied Op.Mul Kind.K8 (greatest_of Kind.K8) (greatest_of Kind.K8) ≡ Ok (pos 1)
unfolding int_wrap
product_wraps = refl

-- ---- divisors of zero

abbrev by_zero : Op → Outcome
by_zero op = applied op Kind.K2 (pos 7) (pos 0)

pub no_quotient_by_zero : by_zero Op.Div ≡ Err OpFault.Zero
no_quotient_by_zero = refl

pub no_remainder_by_zero : by_zero Op.Mod ≡ Err OpFault.Zero
no_remainder_by_zero = refl

pub no_modulo_by_zero : by_zero Op.Modulo ≡ Err OpFault.Zero
no_modulo_by_zero = refl

-- ---- shifts of -1 at the limit, with B bits: ISHFT by B, -B, B + 1 and -B - 1

abbrev ishft_at_limit : Kind → List Outcome
ishft_at_limit kind =
    applied Op.Ishft kind (neg_ℤ (pos 1)) (pos (bits_of kind)) ∷ applied Op.Ishft kind (neg_ℤ (pos 1)) (neg_ℤ (pos (bits_of kind)))
    ∷ applied Op.Ishft kind (neg_ℤ (pos 1)) (pos (bits_of kind + 1)) ∷ applied Op.Ishft kind (neg_ℤ (pos 1)) (neg_ℤ (pos (bits_of kind + 1)))
    ∷ []

abbrev zero_then_refused : List Outcome
zero_then_refused = Ok (pos 0) ∷ Ok (pos 0) ∷ Err OpFault.Shift ∷ Err OpFault.Shift ∷ []

pub ishft_of_kind_1 : ishft_at_limit Kind.K1 ≡ zero_then_refused
unfolding int_wrap
ishft_of_kind_1 = refl

pub ishft_of_kind_2 : ishft_at_limit Kind.K2 ≡ zero_then_refused
unfolding int_wrap
ishft_of_kind_2 = refl

pub ishft_of_kind_4 : ishft_at_limit Kind.K4 ≡ zero_then_refused
unfolding int_wrap
ishft_of_kind_4 = refl

pub ishft_of_kind_8 : ishft_at_limit Kind.K8 ≡ zero_then_refused
unfolding int_wrap
ishft_of_kind_8 = refl

-- ---- places and positions of kind 2, which has 16 bits

-- an operation on -2 by the greatest number that may be, the next one, and -1
abbrev at_limit : Op → ℕ → List Outcome
at_limit op greatest =
    applied op Kind.K2 (neg_ℤ (pos 2)) (pos greatest) ∷ applied op Kind.K2 (neg_ℤ (pos 2)) (pos (greatest + 1)) ∷ applied op Kind.K2 (neg_ℤ (pos 2)) (neg_ℤ (pos 1))
    ∷ []

abbrev then_refused : ℤ → List Outcome
then_refused z = Ok z ∷ Err OpFault.Shift ∷ Err OpFault.Shift ∷ []

pub shiftl_at_limit : at_limit Op.Shiftl 16 ≡ then_refused (pos 0)
unfolding int_wrap
shiftl_at_limit = refl

pub shiftr_at_limit : at_limit Op.Shiftr 16 ≡ then_refused (pos 0)
unfolding int_wrap
shiftr_at_limit = refl

pub shifta_at_limit : at_limit Op.Shifta 16 ≡ then_refused (neg_ℤ (pos 1))
unfolding int_wrap
shifta_at_limit = refl

pub ibset_at_limit : at_limit Op.Ibset 15 ≡ then_refused (neg_ℤ (pos 2))
unfolding int_wrap
ibset_at_limit = refl

pub ibclr_at_limit : at_limit Op.Ibclr 15 ≡ then_refused (pos 32766)
unfolding int_wrap
ibclr_at_limit = refl

-- the operations whose second operand is a place
abbrev all_operations : List Op
all_operations =
    Op.Add ∷ Op.Sub ∷ Op.Mul ∷ Op.Neg ∷ Op.Abs ∷ Op.Div ∷ Op.Mod ∷ Op.Modulo ∷ Op.Pow ∷ Op.Min ∷ Op.Max ∷ Op.Sign ∷ Op.Dim ∷ Op.Iand ∷ Op.Ior ∷ Op.Ieor ∷ Op.Not
    ∷ Op.Ishft ∷ Op.Shiftl ∷ Op.Shiftr ∷ Op.Shifta ∷ Op.Ibset ∷ Op.Ibclr ∷ Op.Popcnt ∷ []

pub six_take_places : filter takes_place all_operations ≡ Op.Ishft ∷ Op.Shiftl ∷ Op.Shiftr ∷ Op.Shifta ∷ Op.Ibset ∷ Op.Ibclr ∷ []
six_take_places = refl
