-- The machine: a run of a code from a place, as a computation. This project's own.
use Rattle.std.specs.Prelude.{ℕ, zero, suc, ◌+◌, ◌-◌, ◌*◌, false, [], ◌∷◌, length, slice_get, Option, Some, None}
use Rattle.dc_code.specs.declared.instr.Instr.{Instr}
use Rattle.dc_code.specs.Codes.{CodeLists, plan_at}
use Rattle.dc_code.specs.Frames.{Frame, fresh_unit}
use Rattle.dc_code.specs.Instructions.{Going, act}
use Rattle.dc_code.specs.Operands.{stuck}

-- The instruction at a place is carried out, and what goes on behind it.
abbrev pub fetched : CodeLists → Going → Option Instr → Going
fetched code go (Some instr) at frame turns = act code go instr.line instr.what at frame turns
fetched code go None at frame turns = stuck 0

-- At most so many instructions, one after another.
abbrev pub steps : CodeLists → ℕ → Going
steps code zero at frame turns = stuck 0
steps code (suc most) at frame turns = fetched code (steps code most) (slice_get code.instructions at) at frame turns

-- More instructions than this can't be carried out: a jump back and a call spend a turn, a return leaves a unit,
-- and all others go ahead.
abbrev pub bound : CodeLists → ℕ → Frame → ℕ → ℕ
bound code at frame turns =
    let size = length code.instructions in (2 * turns + length frame.units) * suc size + (size - at)

-- The run from a place, with so many turns left.
unfoldable pub machine : CodeLists → Going
machine code at frame turns = steps code (suc (bound code at frame turns)) at frame turns

-- A frame at the start of the part that begins at a place.
abbrev pub new_frame : CodeLists → ℕ → Frame
new_frame code entry = record { stack = []; units = fresh_unit code (plan_at code entry) [] 0 ∷ []; line = []; begun = false }
