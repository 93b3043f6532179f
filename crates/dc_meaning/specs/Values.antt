-- The value of an expression, with the accesses that its evaluation makes. After ISO/IEC 1539-1:2023,
-- clauses 10.1 and 16.9; the order of evaluation, from left to right, is this project's own.
use Rattle.std.specs.Prelude.{ℕ, ◌-◌, List, [], ◌∷◌, map, length, filter, slice_get, Option, Some, None, Ok, Err, ℤ, pos}
use Rattle.std.specs.List.{list_all, list_any}
use Rattle.dc_int.specs.declared.fault.FaultKind.{FaultKind}
use Rattle.dc_int.specs.declared.kind.Kind.{Kind}
use Rattle.dc_int.specs.declared.operation.OpFault.{OpFault}
use Rattle.dc_int.specs.declared.operation.ReduceOp.{ReduceOp}
use Rattle.dc_int.specs.Kinds.{wrapped}
use Rattle.dc_int.specs.Operations.{Outcome}
use Rattle.dc_int.specs.Reductions.{truth, number_of_truth}
use Rattle.dc_int.specs.Sorts.{Sort, kind_of}
use Rattle.dc_int.specs.Store.{Bounds}
use Rattle.dc_code.specs.declared.frame.Passed.{Passed}
use Rattle.dc_code.specs.Closing.{combined_with}
use Rattle.dc_tree.specs.Entities.{Entity, function, nothing, Scope, entity}
use Rattle.dc_tree.specs.Intrinsics.{Intrinsic, operation, chosen, merge, converted, huge, bit_size, kind, size, lower_bound, upper_bound, total, count, any, all, intrinsic}
use Rattle.dc_tree.specs.Literals.{number_of}
use Rattle.dc_tree.specs.Operating.{joined_by, led_by, called, about_kind}
use Rattle.dc_tree.specs.Syntax as syntax
use Rattle.dc_tree.specs.Syntax.{Tree, Args, number, chars, name, refer, paren, unary, binary, no_args, arg}
use Rattle.dc_tree.specs.Typing.{joined, kind_converted, sort_of, sorts_of, first_sort, constants_of}
use Rattle.dc_meaning.specs.Acts.{Act, ◌>>=◌, just, wrong, required, for_each}
use Rattle.dc_meaning.specs.Places.{bounds_of_entity, value_at_entity, whole_values, size_of, low_of, high_of, extent_of}

-- What a call of a procedure does, by its number, the line of the statement that calls, and what its
-- dummies are associated with. It gives the result of a function, if that is defined.
abbrev pub Callee : Type 0
Callee = ℕ → ℕ → List Passed → Act (Option ℤ)

-- What an operation gives, at the line of its statement.
abbrev pub settled : ℕ → Outcome → Act ℤ
settled line (Ok value) = just value
settled line (Err OpFault.Zero) = wrong FaultKind.DivideByZero line
settled line (Err OpFault.Shift) = wrong FaultKind.ShiftRange line

-- ---- references to a declared name

-- By the values of the subscripts or arguments.
abbrev pub refer_value : Callee → ℕ → Entity → List ℤ → Act ℤ
refer_value call line (function procedure sort) values = call procedure line (map Passed.ByValue values) >>= required line
refer_value call line entity values = value_at_entity line entity values

-- ---- functions of the language

-- SUM, COUNT, ANY and ALL of the values of an array.
abbrev pub folded : Intrinsic → Sort → List ℤ → ℤ
folded count sort values = wrapped Kind.K4 (pos (length (filter truth values)))
folded any sort values = number_of_truth (list_any truth values)
folded all sort values = number_of_truth (list_all truth values)
folded other sort values = combined_with ReduceOp.Add (kind_of sort) (pos 0) values

-- The dimension that the second argument names.
abbrev pub dimension_named : Bounds → List (Option ℤ) → Option (ℤ × ℤ)
dimension_named bounds (first ∷ Some (pos n) ∷ []) = slice_get bounds (n - 1)
dimension_named bounds values = None

-- SIZE, LBOUND and UBOUND of an array, along a dimension where one is named.
abbrev pub about_array : Intrinsic → Bounds → Option (ℤ × ℤ) → ℤ
about_array size bounds (Some dimension) = extent_of dimension
about_array lower_bound bounds (Some dimension) = low_of dimension
about_array upper_bound bounds (Some dimension) = high_of dimension
about_array other bounds dimension = size_of bounds

-- What the first argument names.
abbrev pub array_named : Scope → Args → Entity
array_named scope (arg keyed (name text) rest) = entity scope text
array_named scope args = nothing

-- A function of the language. INT evaluates its first argument alone, HUGE, BIT_SIZE and KIND evaluate
-- none, and the inquiries and reductions of an array take it as a whole.
abbrev pub intrinsic_value : Scope → ℕ → Intrinsic → Args → Act ℤ → Act (List ℤ) → Act ℤ
intrinsic_value scope line function_of args first others = by function_of (first_sort (sorts_of scope args))
  where
    about : ℤ → Option ℤ → ℤ
    about other (Some value) = value
    about other None = other

    by : Intrinsic → Sort → Act ℤ
    by converted sort = first >>= (λ value. just (wrapped (kind_converted (constants_of scope args)) value))
    by (operation op) sort = others >>= (λ values. settled line (called (operation op) sort values))
    by (chosen op) sort = others >>= (λ values. settled line (called (chosen op) sort values))
    by merge sort = others >>= (λ values. settled line (called merge sort values))
    by huge sort = just (about (pos 0) (about_kind huge sort))
    by bit_size sort = just (about (pos 0) (about_kind bit_size sort))
    by kind sort = just (about (pos 0) (about_kind kind sort))
    by total sort = whole_values line (array_named scope args) >>= (λ values. just (folded total sort values))
    by count sort = whole_values line (array_named scope args) >>= (λ values. just (folded count sort values))
    by any sort = whole_values line (array_named scope args) >>= (λ values. just (folded any sort values))
    by all sort = whole_values line (array_named scope args) >>= (λ values. just (folded all sort values))
    by inquiry sort =
        let bounds = bounds_of_entity (array_named scope args) in just (about_array inquiry bounds (dimension_named bounds (constants_of scope args)))

-- A reference with arguments or subscripts: to a declared name, or else to a function of the language.
abbrev pub referred : Scope → Callee → ℕ → Entity → Option Intrinsic → Args → Act ℤ → Act (List ℤ) → Act ℤ
referred scope call line nothing (Some function_of) args first values = intrinsic_value scope line function_of args first values
referred scope call line entity function_of args first values = values >>= refer_value call line entity

-- ---- expressions

abbrev mutual
  -- The value of an expression in a scope, at the line of its statement.
  pub value : Scope → Callee → ℕ → Tree → Act ℤ
  value scope call line (number digits suffix) = just (pos (number_of digits))
  value scope call line (syntax.truth given) = just (number_of_truth given)
  value scope call line (chars text) = just (pos 0)
  value scope call line (name text) = refer_value call line (entity scope text) []
  value scope call line (refer text args) =
      referred scope call line (entity scope text) (intrinsic text) args (first_value scope call line args) (values scope call line args)
  value scope call line (paren inside) = value scope call line inside
  value scope call line (unary mark right) = do
    a ← value scope call line right
    settled line (led_by mark (sort_of scope right) a)
  value scope call line (binary mark left right) = do
    a ← value scope call line left
    b ← value scope call line right
    settled line (joined_by mark (joined (sort_of scope left) (sort_of scope right)) a b)

  -- The values of arguments or subscripts, from left to right, and of the first alone.
  pub values : Scope → Callee → ℕ → Args → Act (List ℤ)
  values scope call line no_args = just []
  values scope call line (arg keyed given rest) = do
    a ← value scope call line given
    others ← values scope call line rest
    just (a ∷ others)

  pub first_value : Scope → Callee → ℕ → Args → Act ℤ
  first_value scope call line no_args = just (pos 0)
  first_value scope call line (arg keyed given rest) = value scope call line given

-- The values of a list of expressions, from left to right.
abbrev pub all_values : Scope → Callee → ℕ → List Tree → Act (List ℤ)
all_values scope call line trees = for_each (value scope call line) trees
