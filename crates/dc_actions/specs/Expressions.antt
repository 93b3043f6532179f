-- The instructions for expressions. This project's own.
use Rattle.std.specs.Prelude.{ℕ, suc, Bool, true, false, ◌&&◌, nat_eq, nat_lt, List, [], ◌∷◌, ◌++◌, length, Option, Some, None, if◌then◌else◌, ℤ, pos}
use Rattle.dc_int.specs.declared.kind.Kind.{Kind}
use Rattle.dc_int.specs.declared.operation.Op.{Op}
use Rattle.dc_int.specs.Reductions.{truth}
use Rattle.dc_int.specs.Sorts.{Sort, whole, logical, kind_of}
use Rattle.dc_int.specs.Store.{Bounds}
use Rattle.dc_code.specs.declared.instr.Folding.{Folding}
use Rattle.dc_code.specs.declared.instr.Relation.{Relation}
use Rattle.dc_code.specs.declared.instr.What.{What}
use Rattle.dc_code.specs.Instructions.{takes_one}
use Rattle.dc_tree.specs.declared.token.Mark.{Mark}
use Rattle.dc_tree.specs.Entities.{Entity, outside, slots, constant, nothing, Scope, entity}
use Rattle.dc_tree.specs.Intrinsics.{Intrinsic, operation, chosen, merge, converted, huge, bit_size, kind, total, count, any, all, intrinsic}
use Rattle.dc_tree.specs.Literals.{number_of}
use Rattle.dc_tree.specs.Operating.{about_kind}
use Rattle.dc_tree.specs.Syntax as syntax
use Rattle.dc_tree.specs.Syntax.{Tree, Args, number, chars, name, refer, paren, unary, binary, no_args, arg}
use Rattle.dc_tree.specs.Typing.{joined, sort_of_entity, kind_with_suffix, kind_converted, sort_of, sorts_of, first_sort, constants_of}
use Rattle.dc_meaning.specs.Places.{bounds_of_entity}
use Rattle.dc_meaning.specs.Values.{array_named, about_array, dimension_named}

-- ---- names

abbrev pub constant_code : Sort → ℤ → List What
constant_code (whole its_kind) z = What.Const its_kind z ∷ []
constant_code logical z = What.Truth (truth z) ∷ []

-- The value of what a name stands for, where its subscripts are on the stack.
abbrev pub entity_code : Entity → List What
entity_code (outside variable sort bounds) = What.Subscript variable ∷ What.Load variable ∷ []
entity_code (slots group sort bounds) = What.SubscriptSlot group ∷ What.LoadSlot group ∷ []
entity_code (constant sort z) = constant_code sort z
entity_code other = []

-- ---- operators

abbrev pub led_code : Mark → Sort → List What
led_code Mark.Minus sort = What.Arith Op.Neg (kind_of sort) ∷ []
led_code Mark.Not sort = What.Not ∷ []
led_code mark sort = []

abbrev pub joined_code : Mark → Sort → List What
joined_code Mark.Plus sort = What.Arith Op.Add (kind_of sort) ∷ []
joined_code Mark.Minus sort = What.Arith Op.Sub (kind_of sort) ∷ []
joined_code Mark.Times sort = What.Arith Op.Mul (kind_of sort) ∷ []
joined_code Mark.Slash sort = What.Arith Op.Div (kind_of sort) ∷ []
joined_code Mark.Power sort = What.Arith Op.Pow (kind_of sort) ∷ []
joined_code Mark.Eq sort = What.Compare Relation.Eq ∷ []
joined_code Mark.Ne sort = What.Compare Relation.Ne ∷ []
joined_code Mark.Lt sort = What.Compare Relation.Lt ∷ []
joined_code Mark.Le sort = What.Compare Relation.Le ∷ []
joined_code Mark.Gt sort = What.Compare Relation.Gt ∷ []
joined_code Mark.Ge sort = What.Compare Relation.Ge ∷ []
joined_code Mark.And sort = What.And ∷ []
joined_code Mark.Or sort = What.Or ∷ []
joined_code Mark.Eqv sort = What.Eqv ∷ []
joined_code Mark.Neqv sort = What.Neqv ∷ []
joined_code mark sort = What.Drop ∷ []

-- ---- functions of the language

abbrev pub folding_code : Folding → Entity → List What
folding_code folding (outside variable sort bounds) = What.Fold folding variable ∷ []
folding_code folding (slots group sort bounds) = What.FoldSlot folding group ∷ []
folding_code folding other = []

abbrev pub about : Option ℤ → ℤ
about (Some z) = z
about None = pos 0

-- POPCNT has kind 4 whatever the kind of its argument.
abbrev pub operation_code : Op → Kind → List What
operation_code Op.Popcnt its_kind = What.Arith Op.Popcnt its_kind ∷ What.Wrap Kind.K4 ∷ []
operation_code op its_kind = What.Arith op its_kind ∷ []

-- By the sort of the first argument. `given` has the instructions of all arguments, `first` of the first alone, and
-- `each` those of the first, and of each other with the operation behind it.
abbrev pub function_code : Scope → Intrinsic → Args → Sort → (given first : List What) → (Op → Kind → List What) → List What
function_code scope (operation op) args sort given first each = given ++ operation_code op (kind_of sort)
function_code scope (chosen op) args sort given first each = each op (kind_of sort)
function_code scope merge args sort given first each = given ++ What.Merge ∷ []
function_code scope converted args sort given first each = first ++ What.Wrap (kind_converted (constants_of scope args)) ∷ []
function_code scope huge args sort given first each = What.Const (kind_of sort) (about (about_kind huge sort)) ∷ []
function_code scope bit_size args sort given first each = What.Const (kind_of sort) (about (about_kind bit_size sort)) ∷ []
function_code scope kind args sort given first each = What.Const Kind.K4 (about (about_kind kind sort)) ∷ []
function_code scope total args sort given first each = folding_code Folding.Sum (array_named scope args)
function_code scope count args sort given first each = folding_code Folding.Count (array_named scope args)
function_code scope any args sort given first each = folding_code Folding.Any (array_named scope args)
function_code scope all args sort given first each = folding_code Folding.All (array_named scope args)
function_code scope inquiry args sort given first each =
    let bounds = bounds_of_entity (array_named scope args) in
    What.Const Kind.K4 (about_array inquiry bounds (dimension_named bounds (constants_of scope args))) ∷ []

abbrev pub referred_code : Scope → Entity → Option Intrinsic → Args → (given first : List What) → (Op → Kind → List What) → List What
referred_code scope nothing (Some function) args given first each = function_code scope function args (first_sort (sorts_of scope args)) given first each
referred_code scope entity function args given first each = given ++ entity_code entity

-- ---- expressions

abbrev mutual
  -- The instructions for the value of an expression, which they leave on top of the stack.
  pub value_code : Scope → Tree → List What
  value_code scope (number digits suffix) = What.Const (kind_with_suffix scope suffix) (pos (number_of digits)) ∷ []
  value_code scope (syntax.truth given) = What.Truth given ∷ []
  value_code scope (chars text) = What.Truth false ∷ []
  value_code scope (name text) = entity_code (entity scope text)
  value_code scope (refer text args) =
      referred_code scope (entity scope text) (intrinsic text) args (values_code scope args) (first_code scope args) (λ op its_kind. chosen_code scope op its_kind args)
  value_code scope (paren inside) = value_code scope inside
  value_code scope (unary mark right) = value_code scope right ++ led_code mark (sort_of scope right)
  value_code scope (binary mark left right) = value_code scope left ++ (value_code scope right ++ joined_code mark (joined (sort_of scope left) (sort_of scope right)))

  -- The values of arguments or subscripts, from left to right, the last on top.
  pub values_code : Scope → Args → List What
  values_code scope no_args = []
  values_code scope (arg keyed given rest) = value_code scope given ++ values_code scope rest

  pub first_code : Scope → Args → List What
  first_code scope no_args = What.Const Kind.K4 (pos 0) ∷ []
  first_code scope (arg keyed given rest) = value_code scope given

  -- MIN or MAX of the first value and the others, from the left.
  pub chosen_code : Scope → Op → Kind → Args → List What
  chosen_code scope op its_kind no_args = What.Const Kind.K4 (pos 0) ∷ []
  chosen_code scope op its_kind (arg keyed given rest) = value_code scope given ++ further_code scope op its_kind rest

  pub further_code : Scope → Op → Kind → Args → List What
  further_code scope op its_kind no_args = []
  further_code scope op its_kind (arg keyed given rest) = value_code scope given ++ (What.Arith op its_kind ∷ further_code scope op its_kind rest)

-- ---- what the rules of names and types leave of a program: that its names and functions are used rightly

abbrev pub has_rank : Bounds → ℕ → Bool
has_rank bounds subscripts = nat_eq (length bounds) subscripts

-- A name with so many subscripts gives a value.
abbrev pub gives_value : Entity → ℕ → Bool
gives_value (outside variable sort bounds) subscripts = has_rank bounds subscripts
gives_value (slots group sort bounds) subscripts = has_rank bounds subscripts
gives_value (constant sort z) subscripts = nat_eq subscripts 0
gives_value other subscripts = false

abbrev pub is_whole_variable : Entity → Bool
is_whole_variable (outside variable sort bounds) = true
is_whole_variable (slots group sort bounds) = true
is_whole_variable other = false

abbrev pub is_number : Sort → Bool
is_number (whole its_kind) = true
is_number logical = false

abbrev pub count_of : Args → ℕ
count_of no_args = 0
count_of (arg keyed given rest) = suc (count_of rest)

-- MIN and MAX meet no fault.
abbrev pub chooses : Op → Bool
chooses Op.Min = true
chooses Op.Max = true
chooses op = false

abbrev pub has_one_or_two : Op → ℕ → Bool
has_one_or_two op arguments = nat_eq arguments (if takes_one op then 1 else 2)

abbrev pub takes_so : Scope → Intrinsic → Args → (usable first : Bool) → Bool
takes_so scope (operation op) args usable first = has_one_or_two op (count_of args) && usable
takes_so scope (chosen op) args usable first = chooses op && (nat_lt 0 (count_of args) && usable)
takes_so scope merge args usable first = nat_eq (count_of args) 3 && usable
takes_so scope converted args usable first = nat_lt 0 (count_of args) && first
takes_so scope total args usable first = is_whole_variable (array_named scope args) && is_number (sort_of_entity (array_named scope args))
takes_so scope count args usable first = is_whole_variable (array_named scope args)
takes_so scope any args usable first = is_whole_variable (array_named scope args)
takes_so scope all args usable first = is_whole_variable (array_named scope args)
takes_so scope other args usable first = true

abbrev pub refers_so : Scope → Entity → Option Intrinsic → Args → (usable first : Bool) → Bool
refers_so scope nothing (Some function) args usable first = takes_so scope function args usable first
refers_so scope entity function args usable first = gives_value entity (count_of args) && usable

abbrev mutual
  pub is_usable : Scope → Tree → Bool
  is_usable scope (name text) = gives_value (entity scope text) 0
  is_usable scope (refer text args) = refers_so scope (entity scope text) (intrinsic text) args (are_usable scope args) (first_usable scope args)
  is_usable scope (paren inside) = is_usable scope inside
  is_usable scope (unary mark right) = is_usable scope right
  is_usable scope (binary mark left right) = is_usable scope left && is_usable scope right
  is_usable scope other = true

  pub are_usable : Scope → Args → Bool
  are_usable scope no_args = true
  are_usable scope (arg keyed given rest) = is_usable scope given && are_usable scope rest

  pub first_usable : Scope → Args → Bool
  first_usable scope no_args = true
  first_usable scope (arg keyed given rest) = is_usable scope given
