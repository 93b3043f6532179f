-- What names and constant expressions break, at small places.
use Rattle.std.proofs.Common.{◌≡◌, true, false, List, [], ◌∷◌, Some, None, refl}
use Rattle.std.specs.Prelude.{codes, pos}
use Rattle.std.specs.Int.{int_wrap}
use Rattle.dc_int.specs.declared.kind.Kind.{Kind}
use Rattle.dc_tree.specs.declared.symbols.Role as roles
use Rattle.dc_tree.specs.declared.symbols.Symbol.{Symbol}
use Rattle.dc_tree.specs.declared.token.Mark.{Mark}
use Rattle.dc_tree.specs.declared.token.Suffix.{Suffix}
use Rattle.dc_tree.specs.Findings.{finding}
use Rattle.dc_tree.specs.Statements.{Name}
use Rattle.dc_tree.specs.Syntax.{Tree, number, truth, name, refer, binary, no_args, arg}
use Rattle.dc_sorts.specs.declared.form.Form.{Form}
use Rattle.dc_sorts.specs.Standing.{Standing}
use Rattle.dc_uses.specs.Constants.{constant_with, constant_of, whole_constant, is_kind}
use Rattle.dc_uses.specs.Uses.{use_findings}

-- a scalar `n`, an array `a` of rank 2, a constant `k` of value 8, an array `sum`, and a function `f`
abbrev symbols : List Symbol
symbols =
    record { scope = 0; name = codes "n"; role = roles.Role.Variable false Kind.K4 [] [] }
    ∷ record { scope = 0; name = codes "a"; role = roles.Role.Variable false Kind.K4 ((pos 1, pos 2) ∷ (pos 1, pos 3) ∷ []) [] }
    ∷ record { scope = 0; name = codes "k"; role = roles.Role.Constant false Kind.K4 (pos 8) }
    ∷ record { scope = 0; name = codes "sum"; role = roles.Role.Variable false Kind.K4 ((pos 1, pos 2) ∷ []) [] }
    ∷ record { scope = 0; name = codes "f"; role = roles.Role.Function 1 }
    ∷ []

abbrev here : Standing
here = record { symbols = symbols; unit = 0; indexes = []; counted = []; callees = [] }

abbrev digits : Name → Tree
digits text = number text Suffix.Absent

abbrev call_of : Name → Tree → Tree
call_of text value = refer text (arg false value no_args)

abbrev call_of_two : Name → Tree → Tree → Tree
call_of_two text first second = refer text (arg false first (arg false second no_args))

-- ---- names

declared_scalar : use_findings here 5 (name (codes "n")) ≡ []
declared_scalar = refl

nothing_declared : use_findings here 5 (name (codes "m")) ≡ finding 20 5 ∷ []
nothing_declared = refl

function_alone : use_findings here 5 (name (codes "abs")) ≡ finding 21 5 ∷ []
function_alone = refl

array_alone : use_findings here 5 (name (codes "a")) ≡ finding 21 5 ∷ []
array_alone = refl

procedure_alone : use_findings here 5 (name (codes "f")) ≡ finding 21 5 ∷ []
procedure_alone = refl

-- ---- references

right_rank : use_findings here 5 (call_of_two (codes "a") (digits (codes "1")) (name (codes "n"))) ≡ []
right_rank = refl

other_rank : use_findings here 5 (call_of (codes "a") (digits (codes "1"))) ≡ finding 21 5 ∷ []
other_rank = refl

scalar_in_front : use_findings here 5 (call_of (codes "n") (digits (codes "1"))) ≡ finding 21 5 ∷ []
scalar_in_front = refl

nothing_in_front : use_findings here 5 (call_of (codes "m") (name (codes "l"))) ≡ finding 20 5 ∷ finding 20 5 ∷ []
nothing_in_front = refl

language_function : use_findings here 5 (call_of (codes "abs") (name (codes "n"))) ≡ []
language_function = refl

-- SUM takes an array, but not where an array of that name is declared.
whole_array : use_findings here 5 (call_of (codes "any") (name (codes "a"))) ≡ []
whole_array = refl

hidden_function : use_findings here 5 (call_of (codes "sum") (name (codes "a"))) ≡ finding 21 5 ∷ []
hidden_function = refl

element_of_hidden : use_findings here 5 (call_of (codes "sum") (name (codes "n"))) ≡ []
element_of_hidden = refl

-- ---- inquiries and kinds

last_dimension : use_findings here 5 (call_of_two (codes "size") (name (codes "a")) (digits (codes "2"))) ≡ []
last_dimension = refl

past_dimensions : use_findings here 5 (call_of_two (codes "size") (name (codes "a")) (digits (codes "3"))) ≡ finding 23 5 ∷ []
past_dimensions = refl

no_dimension : use_findings here 5 (call_of_two (codes "size") (name (codes "a")) (digits (codes "0"))) ≡ finding 23 5 ∷ []
no_dimension = refl

varying_dimension : use_findings here 5 (call_of_two (codes "lbound") (name (codes "a")) (name (codes "n"))) ≡ finding 23 5 ∷ []
varying_dimension = refl

scalar_asked : use_findings here 5 (call_of (codes "size") (name (codes "n"))) ≡ finding 21 5 ∷ []
scalar_asked = refl

converted_to : use_findings here 5 (call_of_two (codes "int") (name (codes "n")) (name (codes "k"))) ≡ []
converted_to = refl

converted_to_none : use_findings here 5 (call_of_two (codes "int") (name (codes "n")) (digits (codes "3"))) ≡ finding 22 5 ∷ []
converted_to_none = refl

varying_kind : use_findings here 5 (call_of_two (codes "int") (name (codes "n")) (name (codes "n"))) ≡ finding 23 5 ∷ []
varying_kind = refl

kinds : is_kind (pos 1) ≡ true
kinds = refl

kind_two : is_kind (pos 2) ≡ true
kind_two = refl

kind_four : is_kind (pos 4) ≡ true
kind_four = refl

kind_eight : is_kind (pos 8) ≡ true
kind_eight = refl

no_kind : is_kind (pos 3) ≡ false
no_kind = refl

long_suffix : use_findings here 5 (number (codes "1") (Suffix.Digits (codes "0000000000000000000000000008"))) ≡ []
long_suffix = refl

other_suffix : use_findings here 5 (number (codes "1") (Suffix.Digits (codes "10000000000000000000008"))) ≡ finding 22 5 ∷ []
other_suffix = refl

named_suffix : use_findings here 5 (number (codes "1") (Suffix.Named (codes "k"))) ≡ []
named_suffix = refl

varying_suffix : use_findings here 5 (number (codes "1") (Suffix.Named (codes "n"))) ≡ finding 23 5 ∷ []
varying_suffix = refl

-- ---- constants

sum_of_two : whole_constant here (binary Mark.Plus (name (codes "k")) (digits (codes "2"))) ≡ Some (pos 10)
unfolding int_wrap
sum_of_two = refl

no_number : whole_constant here (truth true) ≡ None
no_number = refl

a_truth : constant_of here (truth true) ≡ Some (constant_with Form.Logical (pos 1))
a_truth = refl

wrong_operand : constant_of here (binary Mark.Plus (name (codes "k")) (truth true)) ≡ None
wrong_operand = refl

divided_by_zero : constant_of here (binary Mark.Slash (name (codes "k")) (digits (codes "0"))) ≡ None
divided_by_zero = refl

varying : constant_of here (name (codes "n")) ≡ None
varying = refl
