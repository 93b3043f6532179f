-- That instructions do what a part of a tree means, wherever they stand. This project's own.
use Rattle.std.specs.Prelude.{◌≡◌, ℕ, ◌+◌, List, [], ◌∷◌, length, ℤ}
use Rattle.dc_code.specs.declared.frame.Item.{Item}
use Rattle.dc_code.specs.declared.instr.What.{What}
use Rattle.dc_code.specs.declared.plan.Group.{Group}
use Rattle.dc_code.specs.Codes.{CodeLists}
use Rattle.dc_code.specs.Computation.{give, sequence}
use Rattle.dc_code.specs.Frames.{Frame, pushed}
use Rattle.dc_code.specs.Machine.{machine}
use Rattle.dc_code.specs.Troubles.{Computing, Slots}
use Rattle.dc_tree.specs.Entities.{Scope}
use Rattle.dc_meaning.specs.Actions.{Flow, on}
use Rattle.dc_meaning.specs.Acts.{State, Act}
use Rattle.dc_actions.specs.Placed.{StandAt, HaveNames, HaveKept, Alike, IsLineless}

-- A run of the machine from a place is what is meant, and then what goes on behind the instructions, where the value
-- is on top of the stack: the same accesses in the same order, and the same faults.
abbrev pub LeaveValue : CodeLists → Scope → ℕ → List What → Act ℤ → Type 0
LeaveValue code scope line whats meant =
    (at : ℕ) (frame : Frame) (state : State) → HaveNames code scope frame state → StandAt code line at whats
    → (rest : ℤ × State → Computing (Frame × ℕ))
    → ((z : ℤ) → machine code (at + length whats) (pushed (Item.Value z) frame) state.turns ≡ rest (z, state))
    → machine code at frame state.turns ≡ sequence (meant state) rest

-- The same of a statement behind which the run goes on, between two output lines.
abbrev pub CarryOut : CodeLists → Scope → ℕ → List What → Act Flow → Type 0
CarryOut code scope line whats meant =
    (at : ℕ) (frame : Frame) (state : State) → HaveNames code scope frame state → IsLineless frame → StandAt code line at whats
    → (rest : Flow × State → Computing (Frame × ℕ))
    → machine code (at + length whats) frame state.turns ≡ rest (on, state)
    → machine code at frame state.turns ≡ sequence (meant state) rest

-- The same of a statement that keeps values in groups that are added for it, and of the turns alone: the frame that it
-- leaves may differ in these groups.
abbrev pub CarryOutKeeping : CodeLists → Scope → (free : ℕ) → List Group → ℕ → List What → Act Flow → Type 0
CarryOutKeeping code scope free groups line whats meant =
    (at : ℕ) (frame : Frame) (state : State) → HaveNames code scope frame state → HaveKept code scope frame free groups → StandAt code line at whats
    → (rest : Flow × State → Computing ℕ)
    → ((left : Frame) → Alike free frame left → sequence (machine code (at + length whats) left state.turns) (λ w. give w.1) ≡ rest (on, state))
    → sequence (machine code at frame state.turns) (λ w. give w.1) ≡ sequence (meant state) rest

-- The state of a block inside these entities, with so many turns left.
abbrev pub inside : Slots → ℕ → State
inside own turns = record { frames = record { slots = own; dummies = [] } ∷ []; turns = turns }
