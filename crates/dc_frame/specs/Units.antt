-- What is done to a unit that is being executed. This project's own.
use Rattle.std.specs.Prelude.{◌≡◌, ℕ, ◌-◌, List, [], ◌∷◌, map, take, length, nat_lt, slice_get, slice_set, Option, Some, None, option_and_then, false, if◌then◌else◌, ℤ}
use Rattle.dc_int.specs.Store.{changed_at, elements_in, number_in}
use Rattle.dc_code.specs.declared.frame.Passed.{Passed}
use Rattle.dc_code.specs.declared.plan.Group.{Group}
use Rattle.dc_code.specs.Codes.{CodeLists, plan_at, plan_numbered}
use Rattle.dc_code.specs.Frames.{UnitFrame, Frame, with_slots, with_dummies}
use Rattle.dc_code.specs.Troubles.{Slots}

-- ---- slots

-- The states of the slots of a group, none where there is no such group.
abbrev pub row_in : Slots → ℕ → List (Option ℤ)
row_in slots group = by (slice_get slots group)
  where
    by : Option (List (Option ℤ)) → List (Option ℤ)
    by (Some cells) = cells
    by None = []

-- The state of a slot, undefined where there is none.
abbrev pub state_in : Slots → ℕ → ℕ → Option ℤ
state_in slots group position = number_in (option_and_then (λ cells. slice_get cells position) (slice_get slots group))

-- The unit with that one slot in this state.
abbrev pub with_state : ℕ → ℕ → Option ℤ → UnitFrame → UnitFrame
with_state group position state unit = with_slots (changed_at (λ cells. slice_set cells position state) unit.slots group) unit

-- The slots with one of them in this state. They are numbered group after group.
abbrev pub slot_set : ℕ → Option ℤ → Slots → Slots
slot_set number state [] = []
slot_set number state (cells ∷ slots) =
    if nat_lt number (length cells) then slice_set cells number state ∷ slots else cells ∷ slot_set (number - length cells) state slots

abbrev pub with_slot : ℕ → Option ℤ → UnitFrame → UnitFrame
with_slot number state unit = with_slots (slot_set number state unit.slots) unit

-- ---- dummies

-- A dummy gets a value.
abbrev pub dummy_set : ℕ → ℤ → UnitFrame → UnitFrame
dummy_set number z unit = with_dummies (slice_set unit.dummies number (Passed.ByValue z)) unit

-- ---- beginning anew

abbrev pub size_of_group : Group → ℕ
size_of_group group = elements_in group.bounds

-- All slots become undefined, and what was returned is forgotten.
abbrev pub restarted_unit : UnitFrame → UnitFrame
restarted_unit unit =
    record { plan = unit.plan; slots = map (λ cells. map (λ cell. None) cells) unit.slots; dummies = unit.dummies; back = unit.back; returned = None }

-- The outermost unit alone is left, at its start, with nothing on the stack and nothing on the line.
abbrev pub restarted : Frame → Frame
restarted frame = record { stack = []; units = map restarted_unit (take 1 frame.units); line = []; begun = false }

-- The outermost unit is one of the part that begins at a place: it has that plan, with as many slots in each group, no
-- dummies, and nothing to return to.
pub record BeganAt (code : CodeLists) (entry : ℕ) (frame : Frame) : Type 0 where
  pub outermost : UnitFrame
  pub others : List UnitFrame
  pub units : frame.units ≡ outermost ∷ others
  pub plan : outermost.plan ≡ plan_at code entry
  pub slots : map length outermost.slots ≡ map size_of_group (plan_numbered code (plan_at code entry)).groups
  pub dummies : outermost.dummies ≡ []
  pub back : outermost.back ≡ 0
