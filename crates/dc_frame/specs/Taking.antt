-- What is taken off the stack of a frame, as the code answers it. This project's own.
use Rattle.std.specs.Prelude.{ℕ, Bool, true, false, List, ◌∷◌, length, Option, Some, None}
use Rattle.dc_int.specs.declared.fault.FaultKind.{FaultKind}
use Rattle.dc_int.specs.Store.{Bounds, position_in}
use Rattle.dc_code.specs.declared.frame.Item.{Item}
use Rattle.dc_code.specs.Computation.{give, ◌>>=◌}
use Rattle.dc_code.specs.Frames.{Frame}
use Rattle.dc_code.specs.Operands.{faulty, stuck, values_off}
use Rattle.dc_code.specs.Reaching.{within_bounds}
use Rattle.dc_code.specs.Troubles.{Computing}
use Rattle.dc_frame.specs.declared.subscripts.Subscripted.{Subscripted}

-- What was taken off, with the frame that is left; where it was missing the run is stuck.
abbrev pub taken : {A : Type 0} → ℕ → Option A → Frame → Computing (A × Frame)
taken line (Some a) left = give (a, left)
taken line None left = stuck line

-- The position of the element whose subscripts are taken off.
abbrev pub subscripts_off : ℕ → Bounds → Frame → Computing (ℕ × Frame)
subscripts_off line bounds frame = do
  (subscripts, left) ← values_off line (length bounds) frame
  at ← within_bounds line (position_in bounds subscripts)
  give (at, left)

-- What subscripts name, with the frame that is left; where they name no element that is a fault, and where one is
-- missing the run is stuck.
abbrev pub subscripted : ℕ → Subscripted → Frame → Computing (ℕ × Frame)
subscripted line (Subscripted.At position) left = give (position, left)
subscripted line Subscripted.Out left = faulty FaultKind.Subscript line
subscripted line Subscripted.Missing left = stuck line

-- A value is on the top of the stack.
abbrev pub has_value_on_top : Frame → Bool
has_value_on_top frame = is_value frame.stack
  where
    is_value : List Item → Bool
    is_value (Item.Value z ∷ items) = true
    is_value items = false
