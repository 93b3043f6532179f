-- What the rules of types leave of a program: that the sorts of operands are those which the instructions take. This
-- project's own, after ISO/IEC 1539-1:2023, clauses 10.1.5 and 16.9.
use Rattle.std.specs.Prelude.{◌≡◌, ℕ, Bool, true, false, ◌&&◌, ◌||◌, nat_eq, nat_le, List, [], ◌∷◌, Option, Some, None, slice_get, if◌then◌else◌, ℤ, pos, int_le, IsTrue}
use Rattle.std.specs.List.{list_all}
use Rattle.dc_int.specs.declared.operation.Op.{Op}
use Rattle.dc_int.specs.declared.variable.Shape.{Shape}
use Rattle.dc_int.specs.Kinds.{bits_of, greatest_of, is_of_kind}
use Rattle.dc_int.specs.Operations.{takes_place}
use Rattle.dc_int.specs.Sorts.{Sort, whole, logical, sort_with}
use Rattle.dc_int.specs.Store.{Bounds}
use Rattle.dc_code.specs.declared.plan.Group.{Group}
use Rattle.dc_code.specs.declared.plan.Plan.{Plan}
use Rattle.dc_code.specs.Codes.{CodeLists}
use Rattle.dc_code.specs.StackSorts.{ItemSort, a_truth}
use Rattle.dc_code.specs.StackSorts as items
use Rattle.dc_tree.specs.declared.token.Mark.{Mark}
use Rattle.dc_tree.specs.Entities.{Entity, outside, slots, constant, nothing, Scope, entity}
use Rattle.dc_tree.specs.Intrinsics.{Intrinsic, operation, chosen, merge, converted, count, any, all, intrinsic}
use Rattle.dc_tree.specs.Literals.{number_of}
use Rattle.dc_tree.specs.Statements.{Name, Ranging, Deed, assign, fill, print}
use Rattle.dc_tree.specs.Syntax.{Tree, Args, number, name, refer, paren, unary, binary, no_args, arg}
use Rattle.dc_tree.specs.Typing.{is_arithmetic, kind_with_suffix, sort_of, sorts_of, first_sort, sort_of_entity}
use Rattle.dc_meaning.specs.Values.{array_named}
use Rattle.dc_actions.specs.Expressions.{is_number}
use Rattle.dc_int.specs.declared.kind.Kind.{Kind}
use Rattle.dc_tree.specs.declared.symbols.Role as roles

-- ---- sorts

-- The sort of a value on the stack.
abbrev pub item_of : Sort → ItemSort
item_of (whole its_kind) = items.number its_kind
item_of logical = a_truth

abbrev pub is_logical : Sort → Bool
is_logical (whole its_kind) = false
is_logical logical = true

abbrev pub is_no_wider : Sort → Sort → Bool
is_no_wider (whole a) (whole b) = nat_le (bits_of b) (bits_of a)
is_no_wider a b = false

abbrev pub is_same : Sort → Sort → Bool
is_same (whole a) (whole b) = nat_eq (bits_of a) (bits_of b)
is_same logical logical = true
is_same a b = false

-- Two numbers, of any kinds, or two truths.
abbrev pub is_same_type : Sort → Sort → Bool
is_same_type (whole a) (whole b) = true
is_same_type logical logical = true
is_same_type a b = false

-- ---- operators

abbrev pub leads : Mark → Sort → Bool
leads Mark.Not sort = is_logical sort
leads mark sort = is_number sort

abbrev pub joins_truths : Mark → Bool
joins_truths Mark.And = true
joins_truths Mark.Or = true
joins_truths Mark.Eqv = true
joins_truths Mark.Neqv = true
joins_truths mark = false

abbrev pub joins_numbers : Mark → Bool
joins_numbers Mark.Eq = true
joins_numbers Mark.Ne = true
joins_numbers Mark.Lt = true
joins_numbers Mark.Le = true
joins_numbers Mark.Gt = true
joins_numbers Mark.Ge = true
joins_numbers mark = is_arithmetic mark

abbrev pub joins : Mark → Sort → Sort → Bool
joins mark a b =
    if joins_truths mark then is_logical a && is_logical b else (joins_numbers mark && (is_number a && is_number b))

-- ---- functions of the language

-- The kind of an operation is that of its first operand. The second is no wider, but for a shift and a bit's number.
abbrev pub operates_on : Op → List Sort → Bool
operates_on op (a ∷ []) = is_number a
operates_on op (a ∷ b ∷ []) = is_number a && (is_number b && (takes_place op || is_no_wider a b))
operates_on op sorts = false

abbrev pub chooses_among : List Sort → Bool
chooses_among [] = false
chooses_among (first ∷ rest) = is_number first && list_all (is_no_wider first) rest

abbrev pub merges : List Sort → Bool
merges (a ∷ b ∷ mask ∷ []) = is_same a b && is_logical mask
merges sorts = false

abbrev pub takes_sorts : Scope → Intrinsic → Args → (typed first : Bool) → Bool
takes_sorts scope (operation op) args typed first = typed && operates_on op (sorts_of scope args)
takes_sorts scope (chosen op) args typed first = typed && chooses_among (sorts_of scope args)
takes_sorts scope merge args typed first = typed && merges (sorts_of scope args)
takes_sorts scope converted args typed first = first && is_number (first_sort (sorts_of scope args))
takes_sorts scope count args typed first = is_logical (sort_of_entity (array_named scope args))
takes_sorts scope any args typed first = is_logical (sort_of_entity (array_named scope args))
takes_sorts scope all args typed first = is_logical (sort_of_entity (array_named scope args))
takes_sorts scope other args typed first = true

abbrev pub refers_typed : Scope → Entity → Option Intrinsic → Args → (typed first : Bool) → Bool
refers_typed scope nothing (Some function) args typed first = takes_sorts scope function args typed first
refers_typed scope entity function args typed first = typed && list_all is_number (sorts_of scope args)

-- ---- expressions

abbrev mutual
  -- Each operator and each function has operands of the sorts that it takes, and each literal is in the range of its
  -- kind. Arguments that aren't evaluated are left out.
  pub is_typed : Scope → Tree → Bool
  is_typed scope (number digits suffix) = int_le (pos (number_of digits)) (greatest_of (kind_with_suffix scope suffix))
  is_typed scope (refer text args) = refers_typed scope (entity scope text) (intrinsic text) args (are_typed scope args) (first_typed scope args)
  is_typed scope (paren inside) = is_typed scope inside
  is_typed scope (unary mark right) = is_typed scope right && leads mark (sort_of scope right)
  is_typed scope (binary mark left right) =
      is_typed scope left && (is_typed scope right && joins mark (sort_of scope left) (sort_of scope right))
  is_typed scope other = true

  pub are_typed : Scope → Args → Bool
  are_typed scope no_args = true
  are_typed scope (arg keyed given rest) = is_typed scope given && are_typed scope rest

  pub first_typed : Scope → Args → Bool
  first_typed scope no_args = true
  first_typed scope (arg keyed given rest) = is_typed scope given

abbrev pub all_typed : Scope → List Tree → Bool
all_typed scope trees = list_all (is_typed scope) trees

abbrev pub is_typed_number : Scope → Tree → Bool
is_typed_number scope tree = is_typed scope tree && is_number (sort_of scope tree)

abbrev pub subscripts_typed : Scope → Option (List Tree) → Bool
subscripts_typed scope None = true
subscripts_typed scope (Some trees) = list_all (is_typed_number scope) trees

-- A value that a variable of this sort takes.
abbrev pub is_typed_value : Scope → Sort → Tree → Bool
is_typed_value scope sort tree = is_typed scope tree && is_same_type sort (sort_of scope tree)

-- ---- statements and blocks

-- An item of output that isn't a whole array is an expression.
abbrev pub item_is_typed : Scope → Tree → Bool
item_is_typed scope (name text) = true
item_is_typed scope tree = is_typed scope tree

abbrev pub deed_is_typed : Scope → Deed → Bool
deed_is_typed scope (assign target tree) =
    is_typed_value scope (sort_of_entity (entity scope target.name)) tree && subscripts_typed scope target.subscripts
deed_is_typed scope (fill text trees) = list_all (is_typed_value scope (sort_of_entity (entity scope text))) trees
deed_is_typed scope (print written trees) = list_all (item_is_typed scope) trees
deed_is_typed scope other = true

abbrev pub step_is_typed : Scope → Option Tree → Bool
step_is_typed scope None = true
step_is_typed scope (Some tree) = is_typed_number scope tree

abbrev pub limits_are_typed : Scope → Ranging → Bool
limits_are_typed scope ranging =
    is_typed_number scope ranging.first && (is_typed_number scope ranging.last && step_is_typed scope ranging.step)

-- ---- names

-- A named number is in the range of its kind.
abbrev pub fits_sort : Sort → ℤ → Bool
fits_sort (whole its_kind) z = is_of_kind its_kind z
fits_sort logical z = true

-- A code and the plan of a part have the variables, groups and constants that the names of a scope stand for.
pub record FitNames (code : CodeLists) (plan : Plan) (scope : Scope) : Type 0 where
  pub outer
      : (text : Name) (variable : ℕ) (sort : Sort) (bounds : Bounds) → entity scope text ≡ outside variable sort bounds
      → (shape : Shape) × ((slice_get code.shapes variable ≡ Some shape) × ((sort_with shape.logical shape.kind ≡ sort) × (slice_get code.bounds variable ≡ Some bounds)))
  pub inner
      : (text : Name) (group : ℕ) (sort : Sort) (bounds : Bounds) → entity scope text ≡ slots group sort bounds
      → (found : Group) × ((slice_get plan.groups group ≡ Some found) × ((sort_with found.logical found.kind ≡ sort) × (found.bounds ≡ bounds)))
  pub constants : (text : Name) (sort : Sort) (z : ℤ) → entity scope text ≡ constant sort z → IsTrue (fits_sort sort z)

abbrev pub are_held_bounds : Bounds → Bool
are_held_bounds bounds = list_all (λ dimension. is_of_kind Kind.K8 dimension.0 && is_of_kind Kind.K8 dimension.1) bounds
