-- The instructions of a reference in two parts: those of its arguments, and those behind them. This project's own.
use Rattle.std.specs.Prelude.{List, [], Option, Some, None}
use Rattle.dc_int.specs.Sorts.{Sort, kind_of}
use Rattle.dc_code.specs.declared.instr.What.{What}
use Rattle.dc_tree.specs.Entities.{Entity, Scope}
use Rattle.dc_tree.specs.Intrinsics.{Intrinsic, operation, chosen, merge, converted}
use Rattle.dc_tree.specs.Syntax.{Args}
use Rattle.dc_tree.specs.Typing.{first_sort, sorts_of}
use Rattle.dc_actions.specs.Expressions.{entity_code, function_code, values_code, first_code, chosen_code}

-- Those of the arguments, as far as what is referred to evaluates them: a declared name and an operation evaluate
-- all, INT the first, and inquiries none.
abbrev pub arguments_code : Scope → Option Intrinsic → Args → List What
arguments_code scope None args = values_code scope args
arguments_code scope (Some (operation op)) args = values_code scope args
arguments_code scope (Some (chosen op)) args = chosen_code scope op (kind_of (first_sort (sorts_of scope args))) args
arguments_code scope (Some merge) args = values_code scope args
arguments_code scope (Some converted) args = first_code scope args
arguments_code scope (Some other) args = []

-- A function where the instructions of its arguments stand already.
abbrev pub called_code : Scope → Intrinsic → Args → Sort → List What
called_code scope function args sort = function_code scope function args sort [] [] (λ op its_kind. [])

abbrev pub behind_code : Scope → Entity → Option Intrinsic → Args → List What
behind_code scope entity None args = entity_code entity
behind_code scope entity (Some function) args = called_code scope function args (first_sort (sorts_of scope args))
