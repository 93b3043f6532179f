-- Numbers, operands and arguments, each written in full. The main program declares the variables n of kind 4,
-- m of kind 2 and b, LOGICAL, the array v of 3, the constant c = 1, the function f of one dummy of INTENT(IN),
-- and the subroutine p with a dummy of INTENT(IN) and one of INTENT(INOUT), both of kind 4. n is the variable of
-- a counted DO around, and i the index of a DO CONCURRENT.
use Rattle.std.proofs.Common.{◌≡◌, true, false, List, [], ◌∷◌, refl}
use Rattle.std.specs.Prelude.{ℕ, Bool, pos, codes}
use Rattle.dc_int.specs.declared.kind.Kind.{Kind}
use Rattle.dc_tree.specs.declared.fail.Refusal.{Refusal}
use Rattle.dc_tree.specs.declared.stmt.Intent.{Intent}
use Rattle.dc_tree.specs.declared.symbols.Role as roles
use Rattle.dc_tree.specs.declared.symbols.Symbol.{Symbol}
use Rattle.dc_tree.specs.declared.token.Mark.{Mark}
use Rattle.dc_tree.specs.declared.token.Suffix.{Suffix}
use Rattle.dc_tree.specs.Findings.{finding}
use Rattle.dc_tree.specs.Statements.{Name}
use Rattle.dc_tree.specs.Syntax.{Tree, Args, number, name, refer, unary, binary, no_args, arg}
use Rattle.dc_sorts.specs.declared.form.Form.{Form}
use Rattle.dc_sorts.specs.declared.meaning.Meaning.{Meaning}
use Rattle.dc_sorts.specs.Standing.{Standing}
use Rattle.dc_operands.specs.Operands.{dummies_of, call_findings, number_findings, operand_findings, plain_arguments}

abbrev symbol : ℕ → Name → roles.Role → Symbol
symbol scope its_name role = record { scope = scope; name = its_name; role = role }

abbrev variable : Name → Bool → Kind → Symbol
variable its_name logical kind = symbol 0 its_name (roles.Role.Variable logical kind [] [])

abbrev here : Standing
here = record {
  symbols =
      variable (codes "n") false Kind.K4 ∷ variable (codes "m") false Kind.K2 ∷ variable (codes "b") true Kind.K4
      ∷ symbol 0 (codes "v") (roles.Role.Variable false Kind.K4 ((pos 1, pos 3) ∷ []) []) ∷ symbol 0 (codes "c") (roles.Role.Constant false Kind.K4 (pos 1))
      ∷ symbol 0 (codes "f") (roles.Role.Function 1) ∷ symbol 0 (codes "p") (roles.Role.Subroutine 2) ∷ symbol 1 (codes "f") (roles.Role.Result false Kind.K4) ∷ [];
  unit = 0;
  indexes = record { name = codes "i"; kind = Kind.K4 } ∷ [];
  counted = codes "n" ∷ [];
  callees =
      (Meaning.Dummy (Form.Whole Kind.K4) Intent.Into ∷ [])
      ∷ (Meaning.Dummy (Form.Whole Kind.K4) Intent.Into ∷ Meaning.Dummy (Form.Whole Kind.K4) Intent.InOut ∷ []) ∷ [];
}

abbrev n : Tree
n = name (codes "n")

abbrev m : Tree
m = name (codes "m")

abbrev b : Tree
b = name (codes "b")

abbrev v : Tree
v = name (codes "v")

abbrev c : Tree
c = name (codes "c")

abbrev i : Tree
i = name (codes "i")

abbrev one : Tree
one = number (codes "1") Suffix.Absent

abbrev calls : Name → List Tree → Tree
calls text trees = refer text (given trees)
  where
    given : List Tree → Args
    given [] = no_args
    given (first ∷ rest) = arg false first (given rest)

abbrev element : Tree → Tree
element subscript = calls (codes "v") (subscript ∷ [])

-- what a CALL of p with these arguments breaks
abbrev calling : List Tree → List Refusal
calling trees = call_findings 5 (dummies_of here 2) (plain_arguments here trees)

-- ---- numbers

in_its_kind : number_findings here 5 (number (codes "127") (Suffix.Digits (codes "1"))) ≡ []
in_its_kind = refl

out_of_its_kind : number_findings here 5 (number (codes "128") (Suffix.Digits (codes "1"))) ≡ finding 29 5 ∷ []
out_of_its_kind = refl

out_of_kind_4 : number_findings here 5 (element (binary Mark.Plus one (number (codes "2147483648") Suffix.Absent))) ≡ finding 29 5 ∷ []
out_of_kind_4 = refl

-- ---- operands

kinds_may_differ : operand_findings here 5 (binary Mark.Plus n m) ≡ []
kinds_may_differ = refl

a_truth_is_no_number : operand_findings here 5 (binary Mark.Plus n b) ≡ finding 28 5 ∷ []
a_truth_is_no_number = refl

a_number_is_no_truth : operand_findings here 5 (binary Mark.And (binary Mark.Lt n one) n) ≡ finding 28 5 ∷ []
a_number_is_no_truth = refl

truths_have_no_order : operand_findings here 5 (binary Mark.Eq b b) ≡ finding 28 5 ∷ []
truths_have_no_order = refl

not_a_number : operand_findings here 5 (unary Mark.Not n) ≡ finding 28 5 ∷ []
not_a_number = refl

a_logical_subscript : operand_findings here 5 (element b) ≡ finding 28 5 ∷ []
a_logical_subscript = refl

a_keyed_subscript : operand_findings here 5 (refer (codes "v") (arg true one no_args)) ≡ finding 30 5 ∷ []
a_keyed_subscript = refl

-- ---- the functions of the language

of_one_kind : operand_findings here 5 (calls (codes "mod") (n ∷ one ∷ [])) ≡ []
of_one_kind = refl

of_two_kinds : operand_findings here 5 (calls (codes "max") (n ∷ one ∷ m ∷ [])) ≡ finding 30 5 ∷ []
of_two_kinds = refl

places_of_any_kind : operand_findings here 5 (calls (codes "ishft") (n ∷ m ∷ [])) ≡ []
places_of_any_kind = refl

abs_of_two : operand_findings here 5 (calls (codes "abs") (n ∷ n ∷ [])) ≡ finding 30 5 ∷ []
abs_of_two = refl

a_mask : operand_findings here 5 (calls (codes "merge") (b ∷ b ∷ b ∷ [])) ≡ []
a_mask = refl

no_mask : operand_findings here 5 (calls (codes "merge") (n ∷ n ∷ n ∷ [])) ≡ finding 30 5 ∷ []
no_mask = refl

int_of_a_kind : operand_findings here 5 (refer (codes "int") (arg false n (arg true one no_args))) ≡ []
int_of_a_kind = refl

a_kind_of_abs : operand_findings here 5 (refer (codes "abs") (arg true n no_args)) ≡ finding 30 5 ∷ []
a_kind_of_abs = refl

size_of_an_array : operand_findings here 5 (calls (codes "size") (v ∷ [])) ≡ []
size_of_an_array = refl

size_of_a_sum : operand_findings here 5 (calls (codes "size") (binary Mark.Plus v one ∷ [])) ≡ finding 30 5 ∷ []
size_of_a_sum = refl

count_of_numbers : operand_findings here 5 (calls (codes "count") (v ∷ [])) ≡ finding 30 5 ∷ []
count_of_numbers = refl

-- ---- procedures

of_its_kind : operand_findings here 5 (calls (codes "f") (n ∷ [])) ≡ []
of_its_kind = refl

of_another_kind : operand_findings here 5 (calls (codes "f") (m ∷ [])) ≡ finding 30 5 ∷ []
of_another_kind = refl

one_too_many : operand_findings here 5 (calls (codes "f") (n ∷ n ∷ [])) ≡ finding 30 5 ∷ []
one_too_many = refl

one_too_few : calling (n ∷ []) ≡ finding 30 5 ∷ []
one_too_few = refl

an_element_is_defined : calling (one ∷ element one ∷ []) ≡ []
an_element_is_defined = refl

an_expression_is_not_defined : calling (one ∷ one ∷ []) ≡ finding 30 5 ∷ []
an_expression_is_not_defined = refl

a_counted_variable_is_not_defined : calling (n ∷ n ∷ []) ≡ finding 31 5 ∷ []
a_counted_variable_is_not_defined = refl

an_index_is_not_defined : calling (one ∷ i ∷ []) ≡ finding 31 5 ∷ []
an_index_is_not_defined = refl

a_constant_is_no_variable : calling (one ∷ c ∷ []) ≡ finding 30 5 ∷ finding 31 5 ∷ []
a_constant_is_no_variable = refl
