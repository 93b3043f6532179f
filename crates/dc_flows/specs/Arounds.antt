-- The loops around a statement, as the code holds them. This project's own.
use Rattle.std.specs.Prelude.{ℕ, option_map}
use Rattle.dc_flows.specs.declared.around.Around.{Around}
use Rattle.dc_flows.specs.declared.around.Leaving.{Leaving}
use Rattle.dc_flows.specs.Flows.{LoopAround}

abbrev pub around_of : Around → LoopAround
around_of around = record { label = option_map (λ name. name.now) around.label; next = around.next; behind = around.behind }

-- Where a loop that is left so goes on.
abbrev pub place_at : Leaving → LoopAround → ℕ
place_at Leaving.Cycle around = around.next
place_at Leaving.Exit around = around.behind
