-- Lines that are written, and what is taken from lines.
use Rattle.std.proofs.Common.{◌≡◌, ℕ, true, false, List, [], ◌∷◌, ◌++◌, refl, codes}
use Rattle.std.specs.Prelude.{Ok, Err, pos, negsuc}
use Rattle.std.specs.Fmt.{digits}
use Rattle.dc_int.specs.declared.fault.FaultKind.{FaultKind}
use Rattle.dc_int.specs.declared.kind.Kind.{Kind}
use Rattle.dc_int.specs.Sorts.{Sort, whole, logical}
use Rattle.dc_lists.specs.Input.{take_number, take_truth, end_reading, whole_read}
use Rattle.dc_lists.specs.Output.{written, line_of, behind_blank}

-- a text, and a line feed behind it
abbrev line : List ℕ → List ℕ
line text = text ++ 10 ∷ []

-- ---- what values write

minus_four : written (whole Kind.K4) (negsuc 3) ≡ codes "-4"
unfolding digits
minus_four = refl

least_of_kind_1 : written (whole Kind.K1) (negsuc 127) ≡ codes "-128"
unfolding digits
least_of_kind_1 = refl

zero_is_written : written (whole Kind.K8) (pos 0) ≡ codes "0"
unfolding digits
zero_is_written = refl

true_is_written : written logical (pos 1) ≡ codes "T"
true_is_written = refl

false_is_written : written logical (pos 0) ≡ codes "F"
false_is_written = refl

-- ---- lines

no_text : line_of [] ≡ 10 ∷ []
no_text = refl

numbers_and_a_truth
    : line_of (written (whole Kind.K4) (negsuc 3) ∷ written (whole Kind.K4) (pos 20) ∷ written logical (pos 1) ∷ []) ≡ line (codes "-4 20 T")
unfolding digits
numbers_and_a_truth = refl

number_and_text : line_of (written (whole Kind.K4) (pos 42) ∷ codes "it's" ∷ []) ≡ line (codes "42 it's")
unfolding digits
number_and_text = refl

-- an empty text stands between two blanks
empty_text : line_of (codes "a" ∷ [] ∷ codes "b" ∷ []) ≡ line (codes "a  b")
empty_text = refl

first_of_a_line : behind_blank true (codes "42") ≡ codes "42"
first_of_a_line = refl

behind_another : behind_blank false (codes "42") ≡ codes " 42"
behind_another = refl

-- ---- taking numbers

-- of `2, 10 20` the comma and the blank behind it
up_to_the_comma : take_number Kind.K4 (line (codes "2, 10 20")) ≡ Ok (pos 2, line (codes " 10 20"))
up_to_the_comma = refl

past_the_blank : take_number Kind.K4 (line (codes " 10 20")) ≡ Ok (pos 10, line (codes "20"))
past_the_blank = refl

-- the line feed is left
last_of_a_line : take_number Kind.K4 (line (codes "20")) ≡ Ok (pos 20, line [])
last_of_a_line = refl

-- a value may stand on the next line
on_the_next_line : take_number Kind.K4 (10 ∷ 13 ∷ 10 ∷ 9 ∷ line (codes "30 99")) ≡ Ok (pos 30, line (codes "99"))
on_the_next_line = refl

-- the last line may lack its line feed
last_of_all : take_number Kind.K4 (codes "99") ≡ Ok (pos 99, [])
last_of_all = refl

-- a blank may stand in front of the comma, and one comma is taken
comma_behind_blanks : take_number Kind.K4 (codes "7 ,,8") ≡ Ok (pos 7, codes ",8")
comma_behind_blanks = refl

with_a_plus : take_number Kind.K4 (codes "+7") ≡ Ok (pos 7, [])
with_a_plus = refl

with_a_minus : take_number Kind.K4 (codes "-007 1") ≡ Ok (negsuc 6, codes "1")
with_a_minus = refl

minus_zero : take_number Kind.K4 (codes "-0") ≡ Ok (pos 0, [])
minus_zero = refl

greatest_of_kind_1 : take_number Kind.K1 (codes "127") ≡ Ok (pos 127, [])
greatest_of_kind_1 = refl

too_great : take_number Kind.K1 (codes "300") ≡ Err FaultKind.BadInput
too_great = refl

sign_alone : take_number Kind.K4 (codes "-") ≡ Err FaultKind.BadInput
sign_alone = refl

two_signs : take_number Kind.K4 (codes "+-1") ≡ Err FaultKind.BadInput
two_signs = refl

letter_in_a_number : take_number Kind.K4 (codes "12a") ≡ Err FaultKind.BadInput
letter_in_a_number = refl

null_value : take_number Kind.K4 (codes " , 3") ≡ Err FaultKind.BadInput
null_value = refl

repeat_count : take_number Kind.K4 (codes "3*1") ≡ Err FaultKind.BadInput
repeat_count = refl

slash : take_number Kind.K4 (codes "/") ≡ Err FaultKind.BadInput
slash = refl

nothing_left : take_number Kind.K4 [] ≡ Err FaultKind.EndOfInput
nothing_left = refl

only_blanks_left : take_number Kind.K4 (line (codes "  ")) ≡ Err FaultKind.EndOfInput
only_blanks_left = refl

-- ---- taking truths

false_with_periods : take_truth (line (codes ".false.")) ≡ Ok (pos 0, line [])
false_with_periods = refl

true_in_capitals : take_truth (codes "TRUE, f") ≡ Ok (pos 1, codes " f")
true_in_capitals = refl

truth_is_its_first_letter : take_truth (codes "tomorrow 1") ≡ Ok (pos 1, codes "1")
truth_is_its_first_letter = refl

period_alone : take_truth (codes ".") ≡ Err FaultKind.BadInput
period_alone = refl

number_for_a_truth : take_truth (codes "1") ≡ Err FaultKind.BadInput
number_for_a_truth = refl

no_truth_left : take_truth [] ≡ Err FaultKind.EndOfInput
no_truth_left = refl

-- ---- the end of a READ

rest_of_the_line : end_reading 1 (line (codes "99") ++ codes "next") ≡ Ok (codes "next")
rest_of_the_line = refl

-- a line feed that is left behind the last item ends the line
line_feed_alone : end_reading 3 (line [] ++ codes "next") ≡ Ok (codes "next")
line_feed_alone = refl

no_line_feed : end_reading 1 (codes "99") ≡ Ok []
no_line_feed = refl

at_the_end : end_reading 1 [] ≡ Ok []
at_the_end = refl

line_without_items : end_reading 0 (line (codes "2 10") ++ codes "next") ≡ Ok (codes "next")
line_without_items = refl

last_line_without_items : end_reading 0 (codes "2 10") ≡ Ok []
last_line_without_items = refl

no_line_without_items : end_reading 0 [] ≡ Err FaultKind.EndOfInput
no_line_without_items = refl

-- ---- whole statements

abbrev numbers : List Sort
numbers = whole Kind.K4 ∷ whole Kind.K4 ∷ whole Kind.K4 ∷ whole Kind.K4 ∷ []

-- from two lines; what stands behind the last of them on its line is passed
four_numbers
    : whole_read numbers (line (codes "2, 10 20") ++ line (codes "30 99") ++ line (codes ".false."))
    ≡ Ok (pos 2 ∷ pos 10 ∷ pos 20 ∷ pos 30 ∷ [], line (codes ".false."))
four_numbers = refl

too_few : whole_read numbers (line (codes "2 10")) ≡ Err FaultKind.EndOfInput
too_few = refl

no_items : whole_read [] (line (codes "2 10")) ≡ Ok ([], [])
no_items = refl
