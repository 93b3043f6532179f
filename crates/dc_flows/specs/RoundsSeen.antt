-- What a loop does in rounds, as the code holds it. This project's own.
use Rattle.std.specs.Prelude.{Bool, true, List, [], ◌∷◌, Option, Some, None, option_map}
use Rattle.dc_code.specs.declared.instr.What.{What}
use Rattle.dc_tree.specs.Entities.{Scope}
use Rattle.dc_tree.specs.Syntax.{Tree}
use Rattle.dc_actions.specs.Expressions.{value_code}
use Rattle.dc_flows.specs.declared.rounds.Rounds as declared
use Rattle.dc_flows.specs.Flows.{Rounds}

abbrev pub rounds_seen : declared.Rounds → Rounds
rounds_seen rounds = record { label = option_map (λ name. name.now) rounds.label; head = rounds.head; test = rounds.test; step = rounds.step; groups = rounds.groups }

-- The test of a loop without limits always holds.
abbrev pub round_test_code : Scope → Option Tree → List What
round_test_code scope (Some tree) = value_code scope tree
round_test_code scope None = What.Truth true ∷ []
