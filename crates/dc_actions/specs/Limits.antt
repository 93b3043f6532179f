-- The instructions of limits and steps, and what the rules leave of them. This project's own.
use Rattle.std.specs.Prelude.{◌+◌, Bool, true, List, [], ◌∷◌, ◌++◌, Option, Some, None, pos, ◌≡◌, ◌&&◌}
use Rattle.dc_int.specs.declared.kind.Kind.{Kind}
use Rattle.dc_code.specs.declared.instr.What.{What}
use Rattle.dc_tree.specs.Entities.{Scope}
use Rattle.dc_tree.specs.Statements.{Ranging}
use Rattle.dc_tree.specs.Syntax.{Tree}
use Rattle.dc_actions.specs.Expressions.{value_code, is_usable}
use Rattle.dc_tree.specs.declared.symbols.Role as roles
use Rattle.dc_form.specs.BuiltPrograms.{is_held}
use Rattle.dc_actions.specs.Typed.{limits_are_typed}

-- The step of an index, which is 1 where none is written, in the kind of the index.
abbrev pub step_code : Scope → Kind → Option Tree → List What
step_code scope its_kind None = What.Const its_kind (pos 1) ∷ []
step_code scope its_kind (Some tree) = value_code scope tree ++ What.Wrap its_kind ∷ []

-- The limits and the step, each wrapped to the kind of the index before the next is evaluated.
abbrev pub limits_code : Scope → Kind → Ranging → List What
limits_code scope its_kind ranging =
    value_code scope ranging.first ++ (What.Wrap its_kind ∷ (value_code scope ranging.last ++ (What.Wrap its_kind ∷ step_code scope its_kind ranging.step)))

abbrev pub step_is_usable : Scope → Option Tree → Bool
step_is_usable scope None = true
step_is_usable scope (Some tree) = is_usable scope tree

abbrev pub limits_are_lowered : Scope → Ranging → Bool
limits_are_lowered scope ranging =
    is_usable scope ranging.first && (is_usable scope ranging.last && (step_is_usable scope ranging.step && limits_are_typed scope ranging))

abbrev pub is_held_step : Option Tree → Bool
is_held_step None = true
is_held_step (Some tree) = is_held tree

abbrev pub is_held_index : Ranging → Bool
is_held_index ranging = is_held ranging.first && (is_held ranging.last && is_held_step ranging.step)
