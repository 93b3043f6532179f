-- That the instructions of blocks with branches and loops do what the blocks mean. This project's own.
use Rattle.std.specs.Prelude.{◌≡◌, ◌≤◌, ◌+◌, ℕ, Bool, true, List, [], Some}
use Rattle.dc_code.specs.declared.instr.Instr.{Instr}
use Rattle.dc_code.specs.declared.plan.Group.{Group}
use Rattle.dc_code.specs.Codes.{CodeLists}
use Rattle.dc_code.specs.Computation.{give, sequence}
use Rattle.dc_code.specs.Frames.{Frame}
use Rattle.dc_code.specs.Machine.{machine}
use Rattle.dc_code.specs.Troubles.{Computing, Slots}
use Rattle.dc_tree.specs.Entities.{Scope}
use Rattle.dc_meaning.specs.Actions.{Flow}
use Rattle.dc_meaning.specs.Acts.{Act, State, innermost}
use Rattle.dc_actions.specs.Deeds.{InstrsStand}
use Rattle.dc_actions.specs.Carrying.{inside}
use Rattle.dc_actions.specs.Placed.{HaveNames, HaveKept, IsLineless, Alike}
use Rattle.dc_flows.specs.Flows.{Before, LoopAround}
use Rattle.dc_flows.specs.FlowsLowered.{place_of, greatest_turns}

-- A run of the machine from a part's first instruction on does what its block means, and leaves the turns: the same
-- accesses in the same order, and the same faults. What it leaves in its frame isn't asked for. It may use the groups
-- that are added for it from a number on. Where it is the main program's, nothing is around its loops.
abbrev pub RunFlows : CodeLists → Scope → (main : Bool) → (at free : ℕ) → List Group → List Instr → Act Flow → Type 0
RunFlows code scope main at free groups instrs meant =
    (frame : Frame) (own : Slots) (turns : ℕ) → ((left : ℕ) → HaveNames code scope frame (inside own left))
    → HaveKept code scope frame free groups → IsLineless frame → InstrsStand code at instrs
    → (main ≡ true → own ≡ []) → turns ≤ greatest_turns
    → sequence (machine code at frame turns) (λ w. give w.1) ≡ sequence (meant (inside own turns)) (λ w. give (w.1).turns)

-- The same of a block of a part, behind which the run goes on where it was left for: at its end, or at a loop around. The
-- frame may differ then in the groups that are added for it.
abbrev pub RunBlock : CodeLists → Scope → (main : Bool) → Before → List LoopAround → List Group → (size : ℕ) → List Instr → Act Flow → Type 0
RunBlock code scope main before around groups size instrs meant =
    (frame : Frame) (state : State) → HaveNames code scope frame state → HaveKept code scope frame before.groups groups → IsLineless frame → InstrsStand code before.at instrs
    → (main ≡ true → (innermost state).slots ≡ []) → state.turns ≤ greatest_turns
    → (rest : Flow × State → Computing (Frame × ℕ))
    → ((flow : Flow) (place : ℕ) (left : Frame) (turns : ℕ) → place_of (before.at + size) around flow ≡ Some place → Alike before.groups frame left → turns ≤ state.turns
    → machine code place left turns ≡ rest (flow, record { frames = state.frames; turns = turns }))
    → machine code before.at frame state.turns ≡ sequence (meant state) rest
