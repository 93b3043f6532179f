-- That instructions do what a part of a tree means, wherever they stand. This project's own.
use Rattle.std.specs.Prelude.{◌≡◌, ℕ, ◌+◌, Bool, true, List, [], ◌∷◌}
use Rattle.dc_code.specs.declared.instr.Instr.{Instr}
use Rattle.dc_code.specs.declared.plan.Group.{Group}
use Rattle.dc_code.specs.Codes.{CodeLists}
use Rattle.dc_code.specs.Computation.{give, sequence}
use Rattle.dc_code.specs.Frames.{Frame}
use Rattle.dc_code.specs.Machine.{machine}
use Rattle.dc_code.specs.Troubles.{Slots}
use Rattle.dc_tree.specs.Entities.{Scope}
use Rattle.dc_meaning.specs.Actions.{Flow}
use Rattle.dc_meaning.specs.Acts.{State, Act}
use Rattle.dc_actions.specs.Carrying.{inside}
use Rattle.dc_actions.specs.Deeds.{InstrsStand}
use Rattle.dc_actions.specs.Placed.{HaveNames, HaveKept, IsLineless}

-- A run of the machine from the beginning of a part is what the part means, and leaves the turns; what it leaves in
-- its frame isn't asked for. It may use the groups
-- that are added for it from a number on. Where loops stand in it nothing is around them.
abbrev pub RunPart : CodeLists → Scope → (loops : Bool) → (free : ℕ) → List Group → List Instr → Act Flow → Type 0
RunPart code scope loops free groups instrs meant =
    (at : ℕ) (frame : Frame) (own : Slots) (turns : ℕ) → ((left : ℕ) → HaveNames code scope frame (inside own left))
    → HaveKept code scope frame free groups → IsLineless frame → InstrsStand code at instrs
    → (loops ≡ true → own ≡ [])
    → sequence (machine code at frame turns) (λ w. give w.1) ≡ sequence (meant (inside own turns)) (λ w. give (w.1).turns)
