-- What instructions do to variables, slots and dummies. After ISO/IEC 1539-1:2023, clauses 9.5.3, 10.2.1 and
-- 15.5.2; the order of what is taken off is this project's own.
use Rattle.std.specs.Prelude.{ℕ, nat_lt, List, [], ◌∷◌, map, length, slice_get, slice_set, is_some, Option, Some, None, if◌then◌else◌, ℤ}
use Rattle.dc_int.specs.declared.access.ElementId.{ElementId}
use Rattle.dc_int.specs.declared.fault.FaultKind.{FaultKind}
use Rattle.dc_int.specs.declared.variable.Shape.{Shape}
use Rattle.dc_int.specs.Sorts.{Sort, fitted, sort_with}
use Rattle.dc_int.specs.Store.{Bounds, position_in, changed_at}
use Rattle.dc_code.specs.declared.frame.Item.{Item}
use Rattle.dc_code.specs.declared.frame.Passed.{Passed}
use Rattle.dc_code.specs.declared.frame.Place.{Place}
use Rattle.dc_code.specs.declared.plan.DummyPlan.{DummyPlan}
use Rattle.dc_code.specs.declared.plan.Group.{Group}
use Rattle.dc_code.specs.Codes.{CodeLists, element, elements_of_variable, plan_numbered}
use Rattle.dc_code.specs.Computation.{give, read, define, undefine, ◌>>=◌}
use Rattle.dc_code.specs.Frames.{UnitFrame, Frame, pushed, with_units, with_slots, with_dummies, level, innermost, innermost_changed, slot_of, slot_put}
use Rattle.dc_code.specs.Operands.{faulty, stuck, required, value_off, values_off, position_off}
use Rattle.dc_code.specs.Troubles.{Computing}

-- ---- positions

abbrev pub within_bounds : ℕ → Option ℕ → Computing ℕ
within_bounds line (Some at) = give at
within_bounds line None = faulty FaultKind.Subscript line

-- The position of the element with these subscripts.
abbrev pub positioned : ℕ → Option Bounds → Frame → Computing Frame
positioned line None frame = stuck line
positioned line (Some bounds) frame = do
  (subscripts, left) ← values_off line (length bounds) frame
  at ← within_bounds line (position_in bounds subscripts)
  give (pushed (Item.Position at) left)

-- A group of the innermost unit, as its plan has it.
abbrev pub group_planned : CodeLists → Frame → ℕ → Option Group
group_planned code frame group = slice_get (plan_numbered code (innermost frame).plan).groups group

abbrev pub group_bounds : Option Group → Option Bounds
group_bounds (Some group) = Some group.bounds
group_bounds None = None

-- ---- reading and defining

-- What a variable, a group or a dummy takes is fitted to its sort; in well-formed code it is of that sort.
abbrev pub fitted_to : Option Sort → ℤ → ℤ
fitted_to (Some sort) z = fitted sort z
fitted_to None z = z

abbrev pub sort_of_shape : Shape → Sort
sort_of_shape shape = sort_with shape.logical shape.kind

-- The sort of an element, where there is such an element.
abbrev pub element_sort : CodeLists → ElementId → Option Sort
element_sort code x = by (slice_get code.shapes x.variable)
  where
    by : Option Shape → Option Sort
    by (Some shape) = if nat_lt x.position shape.elements then Some (sort_of_shape shape) else None
    by None = None

abbrev pub group_sort : Option Group → Option Sort
group_sort (Some group) = Some (sort_with group.logical group.kind)
group_sort None = None

abbrev pub dummy_sort : Option DummyPlan → Option Sort
dummy_sort (Some dummy) = Some (sort_with dummy.logical dummy.kind)
dummy_sort None = None

-- The sort of a group of slots of a unit, by the unit's number from the outermost.
abbrev pub slot_sort : CodeLists → Frame → ℕ → ℕ → Option Sort
slot_sort code frame number group = by (slice_get frame.units number)
  where
    by : Option UnitFrame → Option Sort
    by (Some unit) = group_sort (slice_get (plan_numbered code unit.plan).groups group)
    by None = None

abbrev pub element_read : CodeLists → ℕ → ElementId → Computing ℤ
element_read code line x = if is_some (element_sort code x) then read x line (required line) else stuck line

abbrev pub defined_as : ℕ → ElementId → ℤ → Option Sort → Computing Unit
defined_as line x z (Some sort) = define x (fitted sort z) line (give tt)
defined_as line x z None = stuck line

abbrev pub element_defined : CodeLists → ℕ → ElementId → ℤ → Computing Unit
element_defined code line x z = defined_as line x z (element_sort code x)

-- A reference to a place, which has to be defined.
abbrev pub place_read : CodeLists → ℕ → Frame → Place → Computing ℤ
place_read code line frame (Place.Outer x) = element_read code line x
place_read code line frame (Place.InFrame number group at) = required line (slot_of frame.units number group at)

abbrev pub place_defined : CodeLists → ℕ → Place → ℤ → Frame → Computing Frame
place_defined code line (Place.Outer x) z frame = element_defined code line x z >>= (λ done. give frame)
place_defined code line (Place.InFrame number group at) z frame =
    give (with_units (slot_put number group at (Some (fitted_to (slot_sort code frame number group) z)) frame.units) frame)

abbrev pub place_forgotten : CodeLists → ℕ → Place → Frame → Computing Frame
place_forgotten code line (Place.Outer x) frame = if is_some (element_sort code x) then undefine x line (give frame) else stuck line
place_forgotten code line (Place.InFrame number group at) frame = give (with_units (slot_put number group at None frame.units) frame)

-- The place at a position that is taken off, of an outside variable or of a group of the innermost unit.
abbrev pub outer_place : ℕ → ℕ → Frame → Computing (Place × Frame)
outer_place line variable frame = do
  (at, left) ← position_off line frame
  give (Place.Outer (element variable at), left)

abbrev pub slot_place : ℕ → ℕ → Frame → Computing (Place × Frame)
slot_place line group frame = do
  (at, left) ← position_off line frame
  give (Place.InFrame (level frame) group at, left)

abbrev pub loaded : CodeLists → ℕ → Computing (Place × Frame) → Computing Frame
loaded code line found = do
  (at, left) ← found
  z ← place_read code line left at
  give (pushed (Item.Value z) left)

abbrev pub stored : CodeLists → ℕ → Computing (Place × Frame) → Computing Frame
stored code line found = do
  (at, below) ← found
  (z, left) ← value_off line below
  place_defined code line at z left

abbrev pub forgotten : CodeLists → ℕ → Computing (Place × Frame) → Computing Frame
forgotten code line found = do
  (at, left) ← found
  place_forgotten code line at left

abbrev pub place_pushed : Computing (Place × Frame) → Computing Frame
place_pushed found = do
  (at, left) ← found
  give (pushed (Item.Place at) left)

-- ---- dummies

abbrev pub dummy : Frame → ℕ → Option Passed
dummy frame number = slice_get (innermost frame).dummies number

abbrev pub dummy_place : ℕ → Frame → Option Passed → Computing (Place × Frame)
dummy_place line frame (Some (Passed.AtPlace at)) = give (at, frame)
dummy_place line frame other = stuck line

abbrev pub dummy_loaded : CodeLists → ℕ → Frame → Option Passed → Computing Frame
dummy_loaded code line frame (Some (Passed.ByValue z)) = give (pushed (Item.Value z) frame)
dummy_loaded code line frame other = loaded code line (dummy_place line frame other)

abbrev pub dummy_stored : CodeLists → ℕ → ℕ → Frame → Option Passed → Computing Frame
dummy_stored code line number frame (Some (Passed.ByValue before)) = do
  (z, left) ← value_off line frame
  let sort = dummy_sort (slice_get (plan_numbered code (innermost left).plan).dummies number)
  give (innermost_changed (λ unit. with_dummies (slice_set unit.dummies number (Passed.ByValue (fitted_to sort z))) unit) left)
dummy_stored code line number frame other = stored code line (dummy_place line frame other)

-- ---- whole arrays

-- Each element is defined with the value, in store order.
abbrev pub all_defined : CodeLists → ℕ → List ElementId → ℤ → Computing Unit
all_defined code line [] z = give tt
all_defined code line (x ∷ elements) z = do
  first ← element_defined code line x z
  all_defined code line elements z

-- The values of elements, each of which has to be defined.
abbrev pub all_read : CodeLists → ℕ → List ElementId → Computing (List ℤ)
all_read code line [] = give []
all_read code line (x ∷ elements) = do
  z ← element_read code line x
  others ← all_read code line elements
  give (z ∷ others)

abbrev pub all_required : ℕ → List (Option ℤ) → Computing (List ℤ)
all_required line [] = give []
all_required line (state ∷ states) = do
  z ← required line state
  others ← all_required line states
  give (z ∷ others)

abbrev pub group_slots : Frame → ℕ → List (Option ℤ)
group_slots frame group = by (slice_get (innermost frame).slots group)
  where
    by : Option (List (Option ℤ)) → List (Option ℤ)
    by (Some cells) = cells
    by None = []

abbrev pub filled : CodeLists → ℕ → ℕ → Frame → Computing Frame
filled code line variable frame = do
  (z, left) ← value_off line frame
  done ← all_defined code line (elements_of_variable code variable) z
  give left

-- All slots of a group take the value.
abbrev pub group_set : ℕ → ℤ → UnitFrame → UnitFrame
group_set group z unit = with_slots (changed_at (λ cells. map (λ cell. Some z) cells) unit.slots group) unit

abbrev pub slots_filled : CodeLists → ℕ → ℕ → Frame → Computing Frame
slots_filled code line group frame = do
  (z, left) ← value_off line frame
  give (innermost_changed (group_set group (fitted_to (group_sort (group_planned code left group)) z)) left)
