-- The work of instructions that have no name below. This project's own.
use Rattle.std.specs.Prelude.{ℕ, [], ◌∷◌, ◌++◌, not, is_some, if◌then◌else◌, ℤ}
use Rattle.dc_int.specs.declared.access.ElementId.{ElementId}
use Rattle.dc_int.specs.Reductions.{truth, number_of_truth}
use Rattle.dc_code.specs.declared.frame.Item.{Item}
use Rattle.dc_code.specs.declared.instr.Relation.{Relation}
use Rattle.dc_code.specs.Codes.{CodeLists}
use Rattle.dc_code.specs.Computation.{give, undefine, ◌>>=◌}
use Rattle.dc_code.specs.Frames.{Frame, pushed, with_line}
use Rattle.dc_code.specs.Instructions.{compares}
use Rattle.dc_code.specs.Operands.{stuck, item_off}
use Rattle.dc_code.specs.Reaching.{element_sort}
use Rattle.dc_code.specs.Troubles.{Computing}

abbrev pub value_pushed : ℤ → Frame → Computing Frame
value_pushed z frame = give (pushed (Item.Value z) frame)

abbrev pub dropped : ℕ → Frame → Computing Frame
dropped line frame = item_off line frame >>= (λ w. give w.1)

abbrev pub truth_compared : Relation → ℤ → ℤ → ℤ
truth_compared relation a b = number_of_truth (compares relation a b)

abbrev pub truth_turned : ℤ → ℤ
truth_turned a = number_of_truth (not (truth a))

abbrev pub element_forgotten : CodeLists → ℕ → ElementId → Computing Unit
element_forgotten code line x = if is_some (element_sort code x) then undefine x line (give tt) else stuck line

abbrev pub line_ended : Frame → Computing Frame
line_ended frame = give (with_line (frame.line ++ 10 ∷ []) frame.begun frame)
