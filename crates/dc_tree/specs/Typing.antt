-- The sorts of expressions, and the values of constant expressions. After ISO/IEC 1539-1:2023, clauses
-- 10.1.9 and 10.1.12.
use Rattle.std.specs.Prelude.{ℕ, Bool, true, false, ◌&&◌, nat_lt, List, [], ◌∷◌, Option, Some, None, is_some, option_map, option_and_then, Ok, Err, if◌then◌else◌, ℤ, pos, int_le}
use Rattle.dc_int.specs.declared.kind.Kind.{Kind}
use Rattle.dc_int.specs.declared.operation.Op.{Op}
use Rattle.dc_int.specs.Kinds.{bits_of, greatest_of}
use Rattle.dc_int.specs.Operations.{Outcome}
use Rattle.dc_int.specs.Reductions.{number_of_truth}
use Rattle.dc_int.specs.Sorts.{Sort, whole, logical, kind_of, fitted}
use Rattle.dc_tree.specs.declared.token.Mark.{Mark}
use Rattle.dc_tree.specs.declared.token.Suffix.{Suffix}
use Rattle.dc_tree.specs.Entities.{Entity, outside, slots, dummy, constant, function, reduction, nothing, Scope, entity}
use Rattle.dc_tree.specs.Intrinsics.{Intrinsic, operation, chosen, merge, converted, huge, bit_size, kind, total, any, all, intrinsic}
use Rattle.dc_tree.specs.Literals.{number_of, kind_numbered}
use Rattle.dc_tree.specs.Operating.{joined_by, led_by, called, about_kind}
use Rattle.dc_tree.specs.Syntax.{Tree, Args, number, truth, chars, name, refer, paren, unary, binary, no_args, arg}

-- The wider of two kinds, and the sort to which two operands are brought.
abbrev pub wider : Kind → Kind → Kind
wider a b = if nat_lt (bits_of a) (bits_of b) then b else a

abbrev pub joined : Sort → Sort → Sort
joined (whole a) (whole b) = whole (wider a b)
joined a b = logical

abbrev pub is_arithmetic : Mark → Bool
is_arithmetic Mark.Plus = true
is_arithmetic Mark.Minus = true
is_arithmetic Mark.Times = true
is_arithmetic Mark.Slash = true
is_arithmetic Mark.Power = true
is_arithmetic mark = false

abbrev pub sort_joined_by : Mark → Sort → Sort → Sort
sort_joined_by mark a b = if is_arithmetic mark then joined a b else logical

abbrev pub sort_led_by : Mark → Sort → Sort
sort_led_by Mark.Not sort = logical
sort_led_by mark sort = sort

-- The sort of what a name stands for; that of no variable, constant or function is never asked.
abbrev pub sort_of_entity : Entity → Sort
sort_of_entity (outside variable sort bounds) = sort
sort_of_entity (slots group sort bounds) = sort
sort_of_entity (dummy place sort) = sort
sort_of_entity (constant sort value) = sort
sort_of_entity (function procedure sort) = sort
sort_of_entity (reduction variable op sort bounds) = sort
sort_of_entity other = logical

abbrev pub constant_of_entity : Entity → Option ℤ
constant_of_entity (constant sort value) = Some value
constant_of_entity other = None

-- The kind of a number: 4, or that which its suffix names.
abbrev pub kind_with_suffix : Scope → Suffix → Kind
kind_with_suffix scope Suffix.Absent = Kind.K4
kind_with_suffix scope (Suffix.Digits digits) = kind_numbered (pos (number_of digits))
kind_with_suffix scope (Suffix.Named text) = by (constant_of_entity (entity scope text))
  where
    by : Option ℤ → Kind
    by (Some value) = kind_numbered value
    by None = Kind.K4

-- The kind to which INT converts: 4, or that of its second argument.
abbrev pub kind_converted : List (Option ℤ) → Kind
kind_converted (first ∷ Some value ∷ []) = kind_numbered value
kind_converted values = Kind.K4

-- The sort of a function of the language, by that of its first argument and the constants among the
-- arguments. One that takes INTEGERs alone gives an INTEGER, also where its argument is none.
abbrev pub sort_called : Intrinsic → Sort → List (Option ℤ) → Sort
sort_called (operation Op.Popcnt) sort values = whole Kind.K4
sort_called (operation op) sort values = whole (kind_of sort)
sort_called (chosen op) sort values = whole (kind_of sort)
sort_called merge sort values = sort
sort_called converted sort values = whole (kind_converted values)
sort_called huge sort values = whole (kind_of sort)
sort_called bit_size sort values = whole (kind_of sort)
sort_called total sort values = whole (kind_of sort)
sort_called any sort values = logical
sort_called all sort values = logical
sort_called other sort values = whole Kind.K4

abbrev pub first_sort : List Sort → Sort
first_sort [] = logical
first_sort (sort ∷ rest) = sort

-- A reference's sort: that of the declared name, or else of the function of the language.
abbrev pub sort_referred : Entity → Option Intrinsic → List Sort → List (Option ℤ) → Sort
sort_referred nothing (Some function_of) sorts values = sort_called function_of (first_sort sorts) values
sort_referred entity function_of sorts values = sort_of_entity entity

-- ---- constants

-- Whether a function of the language may stand in a constant expression: not one that asks about an array, or
-- that goes over one. This project's own.
abbrev pub may_be_constant : Intrinsic → Bool
may_be_constant (operation op) = true
may_be_constant (chosen op) = true
may_be_constant merge = true
may_be_constant converted = true
may_be_constant huge = true
may_be_constant bit_size = true
may_be_constant kind = true
may_be_constant other = false

abbrev pub is_constant_name : Scope → List ℕ → Bool
is_constant_name scope text = is_some (constant_of_entity (entity scope text))

-- The kind of a literal is none, digits, or a named constant.
abbrev pub is_constant_suffix : Scope → Suffix → Bool
is_constant_suffix scope (Suffix.Named text) = is_constant_name scope text
is_constant_suffix scope suffix = true

-- A name that isn't declared, and that is such a function.
abbrev pub is_constant_function : Entity → Option Intrinsic → Bool
is_constant_function nothing (Some function_of) = may_be_constant function_of
is_constant_function entity function_of = false

abbrev mutual
  -- Whether an expression is a constant expression: a literal, a named constant, a reference to such a function
  -- of the language whose arguments are constant expressions, brackets round a constant expression, or an
  -- operation whose operands are. Its value isn't asked: `1 / 0` is one, and `huge(x)` of a variable is none.
  pub is_constant : Scope → Tree → Bool
  is_constant scope (number digits suffix) = is_constant_suffix scope suffix
  is_constant scope (truth value) = true
  is_constant scope (chars text) = false
  is_constant scope (name text) = is_constant_name scope text
  is_constant scope (refer text args) = is_constant_function (entity scope text) (intrinsic text) && are_constant scope args
  is_constant scope (paren inside) = is_constant scope inside
  is_constant scope (unary mark right) = is_constant scope right
  is_constant scope (binary mark left right) = is_constant scope left && is_constant scope right

  pub are_constant : Scope → Args → Bool
  are_constant scope no_args = true
  are_constant scope (arg keyed value rest) = is_constant scope value && are_constant scope rest

abbrev pub value_of : Outcome → Option ℤ
value_of (Ok z) = Some z
value_of (Err fault) = None

-- A number as a literal of this kind, within the kind's range.
abbrev pub literal_value : Kind → ℕ → Option ℤ
literal_value its_kind n = if int_le (pos n) (greatest_of its_kind) then Some (pos n) else None

-- The values, where each is there.
abbrev pub where_each : List (Option ℤ) → Option (List ℤ)
where_each [] = Some []
where_each (value ∷ rest) = option_and_then (λ z. option_map (λ zs. z ∷ zs) (where_each rest)) value

abbrev pub first_of : List ℤ → Option ℤ
first_of [] = None
first_of (z ∷ rest) = Some z

-- A function of the language at constant arguments. INT wraps to the kind of its result. HUGE, BIT_SIZE and
-- KIND ask about the sort of their argument, which isn't evaluated.
abbrev pub constant_called : Intrinsic → Sort → Sort → List (Option ℤ) → Option ℤ
constant_called converted sort result values = option_map (fitted result) (option_and_then first_of (where_each values))
constant_called function_of sort result values = by (about_kind function_of sort)
  where
    by : Option ℤ → Option ℤ
    by (Some value) = Some value
    by None = option_and_then (λ zs. value_of (called function_of sort zs)) (where_each values)

-- A reference at its arguments, where it is a constant expression.
abbrev pub constant_referred : Bool → Option Intrinsic → List Sort → Sort → List (Option ℤ) → Option ℤ
constant_referred true (Some function_of) sorts result values = constant_called function_of (first_sort sorts) result values
constant_referred allowed function_of sorts result values = None

abbrev mutual
  -- The sort of an expression.
  pub sort_of : Scope → Tree → Sort
  sort_of scope (number digits suffix) = whole (kind_with_suffix scope suffix)
  sort_of scope (truth value) = logical
  sort_of scope (chars text) = logical
  sort_of scope (name text) = sort_of_entity (entity scope text)
  sort_of scope (refer text args) = sort_referred (entity scope text) (intrinsic text) (sorts_of scope args) (constants_of scope args)
  sort_of scope (paren inside) = sort_of scope inside
  sort_of scope (unary mark right) = sort_led_by mark (sort_of scope right)
  sort_of scope (binary mark left right) = sort_joined_by mark (sort_of scope left) (sort_of scope right)

  pub sorts_of : Scope → Args → List Sort
  sorts_of scope no_args = []
  sorts_of scope (arg keyed value rest) = sort_of scope value ∷ sorts_of scope rest

  -- The value of a constant expression. There is none where the expression isn't a constant expression, where
  -- a literal that is evaluated is out of the range of its kind, or where the evaluation meets a fault.
  pub constant_value : Scope → Tree → Option ℤ
  constant_value scope (number digits suffix) =
      if is_constant_suffix scope suffix then literal_value (kind_with_suffix scope suffix) (number_of digits) else None
  constant_value scope (truth value) = Some (number_of_truth value)
  constant_value scope (chars text) = None
  constant_value scope (name text) = constant_of_entity (entity scope text)
  constant_value scope (refer text args) =
      let sort = sort_referred (entity scope text) (intrinsic text) (sorts_of scope args) (constants_of scope args) in
      let allowed = is_constant_function (entity scope text) (intrinsic text) && are_constant scope args in
      constant_referred allowed (intrinsic text) (sorts_of scope args) sort (constants_of scope args)
  constant_value scope (paren inside) = constant_value scope inside
  constant_value scope (unary mark right) = option_and_then (λ a. value_of (led_by mark (sort_of scope right) a)) (constant_value scope right)
  constant_value scope (binary mark left right) =
      option_and_then (λ a. option_and_then (λ b. value_of (joined_by mark (joined (sort_of scope left) (sort_of scope right)) a b)) (constant_value scope right))
      (constant_value scope left)

  pub constants_of : Scope → Args → List (Option ℤ)
  constants_of scope no_args = []
  constants_of scope (arg keyed value rest) = constant_value scope value ∷ constants_of scope rest
