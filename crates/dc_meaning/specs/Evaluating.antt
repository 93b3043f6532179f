-- The parts of a reference with arguments, as the walker goes about it. This project's own.
use Rattle.std.specs.Prelude.{ℕ, List, Option, Some, None, ℤ, pos}
use Rattle.dc_int.specs.Kinds.{wrapped}
use Rattle.dc_int.specs.Sorts.{Sort}
use Rattle.dc_tree.specs.declared.token.Mark.{Mark}
use Rattle.dc_tree.specs.Entities.{Entity, nothing, Scope}
use Rattle.dc_tree.specs.Intrinsics.{Intrinsic, operation, chosen, merge, converted, huge, bit_size, kind, total, count, any, all}
use Rattle.dc_tree.specs.Operating as operating
use Rattle.dc_tree.specs.Operating.{joined_by, led_by, about_kind}
use Rattle.dc_tree.specs.Syntax.{Tree, Args}
use Rattle.dc_tree.specs.Typing.{joined, kind_converted, sort_of, constants_of, first_sort, sorts_of}
use Rattle.dc_meaning.specs.declared.reference.Asks.{Asks}
use Rattle.dc_meaning.specs.declared.reference.Evaluates.{Evaluates}
use Rattle.dc_meaning.specs.Acts.{Act, ◌>>=◌, just}
use Rattle.dc_meaning.specs.Places.{bounds_of_entity, value_at_entity, whole_values}
use Rattle.dc_meaning.specs.Values.{settled, folded, array_named, about_array, dimension_named}

-- A declared name hides a function of the language.
abbrev pub hidden_by : Entity → Option Intrinsic → Option Intrinsic
hidden_by nothing function = function
hidden_by entity function = None

-- What of its arguments a reference evaluates.
abbrev pub evaluates : Option Intrinsic → Evaluates
evaluates None = Evaluates.All
evaluates (Some (operation op)) = Evaluates.All
evaluates (Some (chosen op)) = Evaluates.All
evaluates (Some merge) = Evaluates.All
evaluates (Some converted) = Evaluates.First
evaluates (Some other) = Evaluates.Nothing

-- ---- behind the values of operands and arguments

abbrev pub joined_at : Scope → ℕ → Mark → Tree → Tree → ℤ → ℤ → Act ℤ
joined_at scope line mark left right a b = settled line (joined_by mark (joined (sort_of scope left) (sort_of scope right)) a b)

abbrev pub led_at : Scope → ℕ → Mark → Tree → ℤ → Act ℤ
led_at scope line mark right a = settled line (led_by mark (sort_of scope right) a)

-- an element, an operation, MIN, MAX or MERGE
abbrev pub referred_at : Scope → ℕ → Entity → Option Intrinsic → Args → List ℤ → Act ℤ
referred_at scope line entity None args given = value_at_entity line entity given
referred_at scope line entity (Some function) args given = settled line (operating.called function (first_sort (sorts_of scope args)) given)

-- INT
abbrev pub converted_to : Scope → Args → ℤ → ℤ
converted_to scope args given = wrapped (kind_converted (constants_of scope args)) given

-- what is told of an inquiry that asks for nothing else
abbrev pub asked_about : Option ℤ → ℤ
asked_about (Some value) = value
asked_about None = pos 0

-- what is asked about an array, which isn't read
abbrev pub asked_of_array : Scope → Intrinsic → Args → ℤ
asked_of_array scope function args =
    let bounds = bounds_of_entity (array_named scope args) in about_array function bounds (dimension_named bounds (constants_of scope args))

-- SUM, COUNT, ANY and ALL
abbrev pub folded_at : Scope → ℕ → Intrinsic → Sort → Args → Act ℤ
folded_at scope line function sort args = whole_values line (array_named scope args) >>= (λ given. just (folded function sort given))

-- what such a function asks
abbrev pub asks : Intrinsic → Asks
asks huge = Asks.Kind
asks bit_size = Asks.Kind
asks kind = Asks.Kind
asks total = Asks.Elements
asks count = Asks.Elements
asks any = Asks.Elements
asks all = Asks.Elements
asks other = Asks.Bounds

-- a function that evaluates none of its arguments
abbrev pub unevaluated_at : Scope → ℕ → Intrinsic → Args → Act ℤ
unevaluated_at scope line function args = by (asks function)
  where
    by : Asks → Act ℤ
    by Asks.Kind = just (asked_about (about_kind function (first_sort (sorts_of scope args))))
    by Asks.Elements = folded_at scope line function (first_sort (sorts_of scope args)) args
    by Asks.Bounds = just (asked_of_array scope function args)
