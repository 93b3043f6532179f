-- The frames of program units that are being executed. This project's own, on ISO/IEC 1539-1:2023, clauses
-- 15.5.2 and 15.6.
use Rattle.std.specs.Prelude.{ℕ, ◌-◌, Bool, true, not, List, [], ◌∷◌, ◌++◌, length, take, slice_get, slice_set, Option, Some, None, option_and_then, ℤ}
use Rattle.dc_int.specs.Store.{changed_at, number_in}
use Rattle.dc_code.specs.declared.frame.Item.{Item}
use Rattle.dc_code.specs.declared.frame.Passed.{Passed}
use Rattle.dc_code.specs.Codes.{CodeLists, plan_numbered, blank_slots}
use Rattle.dc_code.specs.Troubles.{Slots}
use Rattle.dc_lists.specs.Output.{behind_blank}

-- What is kept of a unit while it is executed: the number of its plan, its slots and dummies, the place in the
-- code to which it returns, and the result of the procedure that it called last.
pub record UnitFrame : Type 0 where
  pub plan : ℕ
  pub slots : Slots
  pub dummies : List Passed
  pub back : ℕ
  pub returned : Option ℤ

-- What the machine holds beside the store: its stack, the top first, the units that are being executed, the
-- innermost last, the bytes of the output line so far, and whether an item stands there.
pub record Frame : Type 0 where
  pub stack : List Item
  pub units : List UnitFrame
  pub line : List ℕ
  pub begun : Bool

-- ---- the stack

abbrev pub with_stack : List Item → Frame → Frame
with_stack stack frame = record { stack = stack; units = frame.units; line = frame.line; begun = frame.begun }

abbrev pub pushed : Item → Frame → Frame
pushed item frame = with_stack (item ∷ frame.stack) frame

-- ---- the units

abbrev pub with_units : List UnitFrame → Frame → Frame
with_units units frame = record { stack = frame.stack; units = units; line = frame.line; begun = frame.begun }

-- A unit with this plan at its start: its slots are undefined.
abbrev pub fresh_unit : CodeLists → ℕ → List Passed → ℕ → UnitFrame
fresh_unit code plan dummies back =
    record { plan = plan; slots = blank_slots (plan_numbered code plan); dummies = dummies; back = back; returned = None }

-- The innermost unit, counted from the outermost.
abbrev pub level : Frame → ℕ
level frame = length frame.units - 1

abbrev pub innermost : Frame → UnitFrame
innermost frame = or_none (slice_get frame.units (level frame))
  where
    or_none : Option UnitFrame → UnitFrame
    or_none (Some unit) = unit
    or_none None = record { plan = 0; slots = []; dummies = []; back = 0; returned = None }

abbrev pub entered : UnitFrame → Frame → Frame
entered unit frame = with_units (frame.units ++ unit ∷ []) frame

abbrev pub with_slots : Slots → UnitFrame → UnitFrame
with_slots slots unit = record { plan = unit.plan; slots = slots; dummies = unit.dummies; back = unit.back; returned = unit.returned }

abbrev pub with_dummies : List Passed → UnitFrame → UnitFrame
with_dummies dummies unit = record { plan = unit.plan; slots = unit.slots; dummies = dummies; back = unit.back; returned = unit.returned }

abbrev pub with_returned : Option ℤ → UnitFrame → UnitFrame
with_returned result unit = record { plan = unit.plan; slots = unit.slots; dummies = unit.dummies; back = unit.back; returned = result }

abbrev pub innermost_changed : (UnitFrame → UnitFrame) → Frame → Frame
innermost_changed change frame = with_units (changed_at change frame.units (level frame)) frame

-- The innermost unit is left, and the one around it gets its result.
abbrev pub left_unit : Frame → Frame
left_unit frame =
    innermost_changed (with_returned (slot_in (innermost frame).slots 0 0)) (with_units (take (level frame) frame.units) frame)
  where
    slot_in : Slots → ℕ → ℕ → Option ℤ
    slot_in slots group position = number_in (option_and_then (λ cells. slice_get cells position) (slice_get slots group))

-- ---- slots

-- The state of a slot, undefined where there is none.
abbrev pub slot_of : List UnitFrame → ℕ → ℕ → ℕ → Option ℤ
slot_of units number group position =
    number_in (option_and_then (λ unit. option_and_then (λ cells. slice_get cells position) (slice_get unit.slots group)) (slice_get units number))

-- The units with that one slot in this state.
abbrev pub slot_put : ℕ → ℕ → ℕ → Option ℤ → List UnitFrame → List UnitFrame
slot_put number group position state units = changed_at in_unit units number
  where
    in_unit : UnitFrame → UnitFrame
    in_unit unit = with_slots (changed_at (λ cells. slice_set cells position state) unit.slots group) unit

-- ---- the output line

abbrev pub with_line : List ℕ → Bool → Frame → Frame
with_line bytes begun frame = record { stack = frame.stack; units = frame.units; line = bytes; begun = begun }

-- The text of an item is added, behind a blank unless it is the first.
abbrev pub put : List ℕ → Frame → Frame
put text frame = with_line (frame.line ++ behind_blank (not frame.begun) text) true frame

abbrev pub put_each : List (List ℕ) → Frame → Frame
put_each [] frame = frame
put_each (text ∷ texts) frame = put_each texts (put text frame)
