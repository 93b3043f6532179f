-- Constant expressions and their values, each written in full. The scope has a variable x of kind 4, the
-- constants n = 7 of kind 4 and k = 1, and a variable whose name is that of a function of the language, `abs`.
use Rattle.std.proofs.Common.{◌≡◌, true, false, List, [], ◌∷◌, Some, None, refl}
use Rattle.std.specs.Prelude.{ℕ, ℤ, pos, negsuc, codes}
use Rattle.std.specs.Int.{int_wrap}
use Rattle.dc_int.specs.declared.kind.Kind.{Kind}
use Rattle.dc_int.specs.Sorts.{whole}
use Rattle.dc_tree.specs.declared.token.Mark.{Mark}
use Rattle.dc_tree.specs.declared.token.Suffix.{Suffix}
use Rattle.dc_tree.specs.Entities.{Scope, outside, constant}
use Rattle.dc_tree.specs.Syntax.{Tree, number, truth, chars, name, refer, paren, unary, binary, no_args, arg}
use Rattle.dc_tree.specs.Typing.{is_constant, constant_value}

abbrev scope : Scope
scope = record {
  names =
      (codes "x", outside 0 (whole Kind.K4) []) ∷ (codes "n", constant (whole Kind.K4) (pos 7)) ∷ (codes "k", constant (whole Kind.K4) (pos 1))
      ∷ (codes "abs", outside 1 (whole Kind.K4) []) ∷ [];
  groups = 0;
}

abbrev plain : List ℕ → Tree
plain digits = number digits Suffix.Absent

abbrev of_kind : List ℕ → List ℕ → Tree
of_kind digits form = number digits (Suffix.Digits form)

abbrev named : List ℕ → List ℕ → Tree
named digits form = number digits (Suffix.Named form)

abbrev one : Tree
one = plain (codes "1")

abbrev x : Tree
x = name (codes "x")

abbrev n : Tree
n = name (codes "n")

abbrev of_one : List ℕ → Tree → Tree
of_one text a = refer text (arg false a no_args)

abbrev of_two : List ℕ → Tree → Tree → Tree
of_two text a b = refer text (arg false a (arg false b no_args))

abbrev of_three : List ℕ → Tree → Tree → Tree → Tree
of_three text a b c = refer text (arg false a (arg false b (arg false c no_args)))

abbrev by_zero : Tree
by_zero = binary Mark.Slash one (plain (codes "0"))

-- a constant expression with this value
abbrev Has : Tree → ℤ → Type 0
Has e z = (is_constant scope e ≡ true) × (constant_value scope e ≡ Some z)

-- a constant expression whose evaluation fails
abbrev Fails : Tree → Type 0
Fails e = (is_constant scope e ≡ true) × (constant_value scope e ≡ None)

-- no constant expression, and so without a value
abbrev IsNone : Tree → Type 0
IsNone e = (is_constant scope e ≡ false) × (constant_value scope e ≡ None)

-- ---- literals

seven_digits : Has (plain (codes "12")) (pos 12)
seven_digits = (refl, refl)

greatest_of_kind_1 : Has (of_kind (codes "127") (codes "1")) (pos 127)
greatest_of_kind_1 = (refl, refl)

over_kind_1 : Fails (of_kind (codes "300") (codes "1"))
over_kind_1 = (refl, refl)

over_the_default_kind : Fails (plain (codes "2147483648"))
over_the_default_kind = (refl, refl)

in_kind_8 : Has (of_kind (codes "2147483648") (codes "8")) (pos 2147483648)
in_kind_8 = (refl, refl)

over_a_named_kind : Fails (named (codes "128") (codes "k"))
over_a_named_kind = (refl, refl)

in_a_named_kind : Has (named (codes "127") (codes "k")) (pos 127)
in_a_named_kind = (refl, refl)

of_a_variable_kind : IsNone (named (codes "1") (codes "x"))
of_a_variable_kind = (refl, refl)

a_truth : Has (truth true) (pos 1)
a_truth = (refl, refl)

characters : IsNone (chars (codes "a"))
characters = (refl, refl)

-- ---- names and operators

a_named_constant : Has n (pos 7)
a_named_constant = (refl, refl)

a_variable : IsNone x
a_variable = (refl, refl)

an_unknown_name : IsNone (name (codes "y"))
an_unknown_name = (refl, refl)

in_brackets : Has (paren n) (pos 7)
in_brackets = (refl, refl)

variable_in_brackets : IsNone (paren x)
variable_in_brackets = (refl, refl)

a_negative : Has (unary Mark.Minus n) (negsuc 6)
unfolding int_wrap
a_negative = (refl, refl)

negative_variable : IsNone (unary Mark.Minus x)
negative_variable = (refl, refl)

a_sum : Has (binary Mark.Plus n one) (pos 8)
unfolding int_wrap
a_sum = (refl, refl)

variable_on_the_left : IsNone (binary Mark.Plus x one)
variable_on_the_left = (refl, refl)

variable_on_the_right : IsNone (binary Mark.Plus one x)
variable_on_the_right = (refl, refl)

a_division_by_zero : Fails by_zero
a_division_by_zero = (refl, refl)

negative_over_kind_1 : Fails (unary Mark.Minus (of_kind (codes "128") (codes "1")))
negative_over_kind_1 = (refl, refl)

-- ---- functions of the language

huge_of_a_constant : Has (of_one (codes "huge") (of_kind (codes "1") (codes "1"))) (pos 127)
huge_of_a_constant = (refl, refl)

huge_of_a_variable : IsNone (of_one (codes "huge") x)
huge_of_a_variable = (refl, refl)

huge_of_a_fault : Has (of_one (codes "huge") by_zero) (pos 2147483647)
huge_of_a_fault = (refl, refl)

huge_of_a_literal_over_its_kind : Has (of_one (codes "huge") (of_kind (codes "300") (codes "1"))) (pos 127)
huge_of_a_literal_over_its_kind = (refl, refl)

bit_size_of_a_constant : Has (of_one (codes "bit_size") (of_kind (codes "1") (codes "2"))) (pos 16)
bit_size_of_a_constant = (refl, refl)

bit_size_of_a_variable : IsNone (of_one (codes "bit_size") x)
bit_size_of_a_variable = (refl, refl)

kind_of_a_truth : Has (of_one (codes "kind") (truth false)) (pos 4)
kind_of_a_truth = (refl, refl)

kind_of_a_variable : IsNone (of_one (codes "kind") x)
kind_of_a_variable = (refl, refl)

int_wraps : Has (of_two (codes "int") (plain (codes "300")) one) (pos 44)
unfolding int_wrap
int_wraps = (refl, refl)

int_of_the_kind_of_a_variable : IsNone (of_two (codes "int") (plain (codes "5")) (of_one (codes "kind") x))
int_of_the_kind_of_a_variable = (refl, refl)

int_of_a_variable : IsNone (of_one (codes "int") x)
int_of_a_variable = (refl, refl)

int_of_no_kind : Fails (of_two (codes "int") (plain (codes "5")) by_zero)
int_of_no_kind = (refl, refl)

int_of_a_fault : Fails (of_one (codes "int") by_zero)
int_of_a_fault = (refl, refl)

a_remainder : Has (of_two (codes "mod") n (plain (codes "4"))) (pos 3)
unfolding int_wrap
a_remainder = (refl, refl)

remainder_of_a_variable : IsNone (of_two (codes "mod") n x)
remainder_of_a_variable = (refl, refl)

remainder_by_zero : Fails (of_two (codes "mod") n (plain (codes "0")))
remainder_by_zero = (refl, refl)

a_greatest : Has (of_three (codes "max") one n (plain (codes "5"))) (pos 7)
unfolding int_wrap
a_greatest = (refl, refl)

greatest_with_a_variable : IsNone (of_three (codes "max") one n x)
greatest_with_a_variable = (refl, refl)

a_merge : Has (of_three (codes "merge") one n (truth false)) (pos 7)
a_merge = (refl, refl)

merge_with_a_variable : IsNone (of_three (codes "merge") one x (truth true))
merge_with_a_variable = (refl, refl)

size_of_a_constant : IsNone (of_one (codes "size") n)
size_of_a_constant = (refl, refl)

sum_of_a_constant : IsNone (of_one (codes "sum") n)
sum_of_a_constant = (refl, refl)

any_of_a_constant : IsNone (of_one (codes "any") (truth true))
any_of_a_constant = (refl, refl)

hidden_by_a_variable : IsNone (of_one (codes "abs") one)
hidden_by_a_variable = (refl, refl)

an_unknown_function : IsNone (of_one (codes "f") one)
an_unknown_function = (refl, refl)
