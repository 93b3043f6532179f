-- The instructions of single statements: assignments and output. This project's own.
use Rattle.std.specs.Prelude.{◌≡◌, ℕ, ◌+◌, Bool, false, ◌&&◌, List, [], ◌∷◌, ◌++◌, length, map, slice_get, Some}
use Rattle.dc_code.specs.declared.instr.Instr.{Instr}
use Rattle.dc_code.specs.declared.instr.What.{What}
use Rattle.dc_code.specs.declared.plan.Group.{Group}
use Rattle.dc_code.specs.Codes.{CodeLists}
use Rattle.dc_tree.specs.Entities.{Scope, entity}
use Rattle.dc_tree.specs.Statements.{Deed, assign, fill, print}
use Rattle.dc_tree.specs.Typing.{sort_of_entity}
use Rattle.dc_actions.specs.Assigning.{assignment_code, filling_code, kept_group, all_usable, takes_values, takes_list}
use Rattle.dc_actions.specs.Expressions.{is_usable}
use Rattle.dc_actions.specs.Printing.{printing_code, texts_of_items, give_items}
use Rattle.std.specs.List.{list_all}
use Rattle.dc_form.specs.BuiltPrograms.{is_held, is_held_target}

-- instructions of one line
abbrev pub lined : ℕ → List What → List Instr
lined line whats = map (λ what. record { line = line; what = what }) whats

-- These instructions stand in a code from a place on.
pub record InstrsStand (code : CodeLists) (at : ℕ) (instrs : List Instr) : Type 0 where
  pub each : (i : ℕ) (instr : Instr) → slice_get instrs i ≡ Some instr → slice_get code.instructions (at + i) ≡ Some instr

abbrev pub deed_code : Scope → (next free : ℕ) → Deed → List What
deed_code scope next free (assign target tree) = assignment_code scope target tree
deed_code scope next free (fill text trees) = filling_code scope free trees (entity scope text)
deed_code scope next free (print written trees) = printing_code scope next trees
deed_code scope next free other = []

abbrev pub texts_of_deed : Deed → List (List ℕ)
texts_of_deed (print written trees) = texts_of_items trees
texts_of_deed other = []

-- The groups that are added for a statement.
abbrev pub groups_of_deed : Scope → Deed → List Group
groups_of_deed scope (fill text trees) = kept_group (sort_of_entity (entity scope text)) (length trees) ∷ []
groups_of_deed scope other = []

abbrev pub deed_is_lowered : Scope → Deed → Bool
deed_is_lowered scope (assign target tree) = is_usable scope tree && takes_values scope (entity scope target.name) target.subscripts
deed_is_lowered scope (fill text trees) = all_usable scope trees && takes_list (entity scope text) (length trees)
deed_is_lowered scope (print written trees) = give_items scope trees
deed_is_lowered scope other = false

abbrev pub deed_has_code : Scope → Deed → Bool
deed_has_code scope (assign target tree) = is_held_target target && is_held tree
deed_has_code scope (fill text trees) = list_all is_held trees && takes_list (entity scope text) (length trees)
deed_has_code scope (print written trees) = list_all is_held trees
deed_has_code scope other = false
