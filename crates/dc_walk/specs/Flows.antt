-- How a block goes on, and the turns that are left, as the walker answers. This project's own.
use Rattle.std.specs.Prelude.{ℕ, Option, Some, None, Result}
use Rattle.dc_code.specs.Troubles.{Slots}
use Rattle.dc_plain.specs.Views.{View}
use Rattle.dc_meaning.specs.declared.stop.Stop.{Stop}
use Rattle.dc_meaning.specs.Acts.{Act, just}
use Rattle.dc_meaning.specs.Actions.{Flow, on, cycles, exits}
use Rattle.dc_meaning.specs.Values.{Callee}
use Rattle.dc_meaning.specs.Walking.{state_in, Walks}
use Rattle.dc_walk.specs.declared.flow.Flow as code

abbrev pub flow_of : code.Flow → Flow
flow_of code.Flow.On = on
flow_of (code.Flow.Cycle label) = cycles label.now
flow_of (code.Flow.Exit label) = exits label.now

-- A loop is left so, or goes on with what comes next.
abbrev pub leaving : Act Flow → Option code.Flow → Act Flow
leaving next None = next
leaving next (Some flow) = just (flow_of flow)

-- What the walker answers for an act of a block that may spend turns, given so many: how it goes on, and the turns that it
-- leaves. The block's entities are as they were.
pub record Spends (own : Slots) (turns : ℕ) (before : View) (act : Callee → Act Flow) (left : ℕ) (after : View) (result : Result code.Flow Stop) : Type 0 where
  pub walks : Walks flow_of (state_in own turns) before act (state_in own left) after result

-- The same of a whole block, where it isn't told how it goes on, and what turns are left.
pub record Finishes (own : Slots) (turns : ℕ) (before : View) (act : Callee → Act Flow) (after : View) (result : Result (Unit {0}) Stop) : Type 0 where
  pub flow : Flow
  pub left : ℕ
  pub walks : Walks (λ (done : Unit {0}). flow) (state_in own turns) before act (state_in own left) after result
