-- What each instruction does. This project's own; the faults are where ISO/IEC 1539-1:2023 gives a program no
-- meaning.
use Rattle.std.specs.Prelude.{ℕ, zero, suc, ◌-◌, Bool, true, false, ◌&&◌, not, nat_lt, List, [], ◌∷◌, ◌++◌, map, min, length, filter, slice_get, Option, Some, None, Ok, Err, if◌then◌else◌, ℤ, pos, int_le}
use Rattle.std.specs.List.{list_any, list_all}
use Rattle.dc_int.specs.declared.access.ElementId.{ElementId}
use Rattle.dc_int.specs.declared.fault.FaultKind.{FaultKind}
use Rattle.dc_int.specs.declared.fault.Why.{Why}
use Rattle.dc_int.specs.declared.kind.Kind.{Kind}
use Rattle.dc_int.specs.declared.operation.Op.{Op}
use Rattle.dc_int.specs.declared.operation.OpFault.{OpFault}
use Rattle.dc_int.specs.declared.operation.ReduceOp.{ReduceOp}
use Rattle.dc_int.specs.declared.variable.Shape.{Shape}
use Rattle.dc_int.specs.Kinds.{wrapped}
use Rattle.dc_int.specs.Operations.{Outcome, applied}
use Rattle.dc_int.specs.Reductions.{truth, number_of_truth, conjunction, disjunction, equivalence, non_equivalence}
use Rattle.dc_int.specs.Sorts.{Sort, whole, logical, fitted}
use Rattle.dc_code.specs.declared.frame.Item.{Item}
use Rattle.dc_code.specs.declared.frame.Passed.{Passed}
use Rattle.dc_code.specs.declared.instr.Folding.{Folding}
use Rattle.dc_code.specs.declared.instr.Relation.{Relation}
use Rattle.dc_code.specs.declared.instr.What.{What}
use Rattle.dc_code.specs.declared.plan.DummyPlan.{DummyPlan}
use Rattle.dc_code.specs.declared.plan.Group.{Group}
use Rattle.dc_code.specs.declared.plan.Passing.{Passing}
use Rattle.dc_code.specs.Closing.{combined_with}
use Rattle.dc_code.specs.Codes.{CodeLists, element, elements_of_variable, plan_numbered}
use Rattle.dc_code.specs.Combinations.{Span, natural, has_zero_step, value_count}
use Rattle.dc_code.specs.Computation.{give, fail, contribute, pause, ◌>>=◌}
use Rattle.dc_code.specs.Frames.{Frame, pushed, with_line, put, put_each, fresh_unit, innermost, entered, left_unit}
use Rattle.dc_code.specs.Operands.{faulty, stuck, required, item_off, value_off, position_off, items_off}
use Rattle.dc_code.specs.Reaching.{positioned, group_planned, group_bounds, sort_of_shape, element_sort, outer_place, slot_place, loaded, stored, forgotten, place_forgotten, place_pushed, dummy, dummy_place, dummy_loaded, dummy_stored, filled, slots_filled, all_read, all_required, group_slots}
use Rattle.dc_code.specs.Troubles.{Computing, write_line, take_value, take_elements, end_reading, enter_loop, stop}
use Rattle.dc_lists.specs.Output.{written}

-- ---- values of values

abbrev pub settled : ℕ → Outcome → Computing ℤ
settled line (Ok z) = give z
settled line (Err OpFault.Zero) = faulty FaultKind.DivideByZero line
settled line (Err OpFault.Shift) = faulty FaultKind.ShiftRange line

abbrev pub takes_one : Op → Bool
takes_one Op.Neg = true
takes_one Op.Abs = true
takes_one Op.Not = true
takes_one Op.Popcnt = true
takes_one op = false

-- what an operation of one operand, or of two, makes of the operands
abbrev pub computed : Bool → ℕ → Op → Kind → Frame → Computing Frame
computed true line op kind frame = do
  (a, left) ← value_off line frame
  z ← settled line (applied op kind a (pos 0))
  give (pushed (Item.Value z) left)
computed false line op kind frame = do
  (b, below) ← value_off line frame
  (a, left) ← value_off line below
  z ← settled line (applied op kind a b)
  give (pushed (Item.Value z) left)

abbrev pub arithmetic : ℕ → Op → Kind → Frame → Computing Frame
arithmetic line op kind frame = computed (takes_one op) line op kind frame

abbrev pub compares : Relation → ℤ → ℤ → Bool
compares Relation.Eq a b = int_le a b && int_le b a
compares Relation.Ne a b = not (int_le a b && int_le b a)
compares Relation.Lt a b = not (int_le b a)
compares Relation.Le a b = int_le a b
compares Relation.Gt a b = not (int_le a b)
compares Relation.Ge a b = int_le b a

-- Two values are taken off, and what is made of them is pushed.
abbrev pub of_two : ℕ → (ℤ → ℤ → ℤ) → Frame → Computing Frame
of_two line make frame = do
  (b, below) ← value_off line frame
  (a, left) ← value_off line below
  give (pushed (Item.Value (make a b)) left)

abbrev pub of_one : ℕ → (ℤ → ℤ) → Frame → Computing Frame
of_one line make frame = do
  (a, left) ← value_off line frame
  give (pushed (Item.Value (make a)) left)

abbrev pub merged : ℕ → Frame → Computing Frame
merged line frame = do
  (mask, below) ← value_off line frame
  (otherwise, under) ← value_off line below
  (chosen, left) ← value_off line under
  give (pushed (Item.Value (if truth mask then chosen else otherwise)) left)

-- SUM, COUNT, ANY and ALL of values, of clause 16.9.
abbrev pub folded : Folding → Kind → List ℤ → ℤ
folded Folding.Sum kind zs = combined_with ReduceOp.Add kind (pos 0) zs
folded Folding.Count kind zs = wrapped Kind.K4 (pos (length (filter truth zs)))
folded Folding.Any kind zs = number_of_truth (list_any truth zs)
folded Folding.All kind zs = number_of_truth (list_all truth zs)

abbrev pub folding_pushed : CodeLists → ℕ → Folding → ℕ → Option Shape → Frame → Computing Frame
folding_pushed code line folding variable (Some shape) frame = do
  zs ← all_read code line (elements_of_variable code variable)
  give (pushed (Item.Value (folded folding shape.kind zs)) frame)
folding_pushed code line folding variable None frame = stuck line

abbrev pub slot_folding_pushed : ℕ → Folding → ℕ → Option Group → Frame → Computing Frame
slot_folding_pushed line folding group (Some found) frame = do
  zs ← all_required line (group_slots frame group)
  give (pushed (Item.Value (folded folding found.kind zs)) frame)
slot_folding_pushed line folding group None frame = stuck line

abbrev pub contributed_as : ℕ → ElementId → ReduceOp → ℤ → Option Sort → Computing Unit
contributed_as line x op z (Some sort) = contribute x op (fitted sort z) (give tt)
contributed_as line x op z None = stuck line

-- A position and then a value are taken off; the value is contributed to the element.
abbrev pub contributed : CodeLists → ℕ → ReduceOp → ℕ → Frame → Computing Frame
contributed code line op variable frame = do
  (at, below) ← position_off line frame
  (z, left) ← value_off line below
  done ← contributed_as line (element variable at) op z (element_sort code (element variable at))
  give left

-- ---- turns and loops

abbrev pub spent : ℕ → ℕ → Computing ℕ
spent line zero = fail (record { why = Why.Spent; line = line })
spent line (suc turns) = give turns

-- How often a counted DO goes round, as far as turns can tell.
abbrev pub greatest_rounds : ℕ
greatest_rounds = 1000000001

abbrev pub rounds_of : ℕ → Span → Computing ℤ
rounds_of line span = if has_zero_step span then faulty FaultKind.StepZero line else give (pos (min (value_count span) greatest_rounds))

abbrev pub counted : ℕ → Frame → Computing Frame
counted line frame = do
  (step, below) ← value_off line frame
  (last, under) ← value_off line below
  (first, left) ← value_off line under
  rounds ← rounds_of line (record { first = first; last = last; step = step })
  give (pushed (Item.Value rounds) left)

-- ---- calls

-- A value for INTENT(IN), and a place for the others.
abbrev pub passed_as : ℕ → Passing → Item → Computing Passed
passed_as line Passing.Value (Item.Value z) = give (Passed.ByValue z)
passed_as line Passing.Place (Item.Place at) = give (Passed.AtPlace at)
passed_as line Passing.OutPlace (Item.Place at) = give (Passed.AtPlace at)
passed_as line passing item = stuck line

abbrev pub passed_to : ℕ → List DummyPlan → List Item → Computing (List Passed)
passed_to line [] [] = give []
passed_to line (dummy ∷ dummies) (item ∷ items) = do
  first ← passed_as line dummy.passing item
  others ← passed_to line dummies items
  give (first ∷ others)
passed_to line dummies items = stuck line

-- The places of INTENT(OUT) dummies become undefined, in order.
abbrev pub forgotten_out : CodeLists → ℕ → Passing → Passed → Frame → Computing Frame
forgotten_out code line Passing.OutPlace (Passed.AtPlace at) frame = place_forgotten code line at frame
forgotten_out code line passing given frame = give frame

abbrev pub all_forgotten_out : CodeLists → ℕ → List DummyPlan → List Passed → Frame → Computing Frame
all_forgotten_out code line (dummy ∷ dummies) (first ∷ others) frame = do
  left ← forgotten_out code line dummy.passing first frame
  all_forgotten_out code line dummies others left
all_forgotten_out code line dummies others frame = give frame

abbrev pub greatest_calls : ℕ
greatest_calls = 100

-- No more calls than the greatest number of them stand open.
abbrev pub deepened : ℕ → Frame → Computing Unit
deepened line frame = if nat_lt greatest_calls (length frame.units) then faulty FaultKind.TooDeep line else give tt

-- What goes on from a place, with a frame and the turns left.
abbrev pub Going : Type 0
Going = ℕ → Frame → ℕ → Computing (Frame × ℕ)

-- A call: the arguments are taken off, a turn is spent, INTENT(OUT) places become undefined, and the procedure
-- is entered.
abbrev pub called : CodeLists → Going → ℕ → Option ℕ → ℕ → ℕ → Going
called code go line None procedure count at frame turns = stuck line
called code go line (Some entry) procedure count at frame turns = do
  (items, below) ← items_off line count frame
  passed ← passed_to line (plan_numbered code procedure).dummies items
  allowed ← deepened line below
  left ← spent line turns
  cleared ← all_forgotten_out code line (plan_numbered code procedure).dummies passed below
  go entry (entered (fresh_unit code procedure passed (suc at)) cleared) left

-- A unit is left, and the one around it goes on behind the call.
abbrev pub returned : Going → ℕ → Frame → ℕ → Computing (Frame × ℕ)
returned go line frame turns =
    if nat_lt 1 (length frame.units) then go (innermost frame).back (left_unit frame) turns else stuck line

abbrev pub result_pushed : ℕ → Frame → Computing Frame
result_pushed line frame = do
  z ← required line (innermost frame).returned
  give (pushed (Item.Value z) frame)

-- ---- output

-- A number is written without regard to its kind.
abbrev pub value_put : ℕ → Sort → Frame → Computing Frame
value_put line sort frame = do
  (z, left) ← value_off line frame
  give (put (written sort z) left)

abbrev pub text_put : ℕ → Option (List ℕ) → Frame → Computing Frame
text_put line (Some bytes) frame = give (put bytes frame)
text_put line None frame = stuck line

abbrev pub all_put : CodeLists → ℕ → ℕ → Option Shape → Frame → Computing Frame
all_put code line variable (Some shape) frame = do
  zs ← all_read code line (elements_of_variable code variable)
  give (put_each (map (written (sort_of_shape shape)) zs) frame)
all_put code line variable None frame = stuck line

-- ---- input

abbrev pub sort_of_variable : CodeLists → ℕ → Sort
sort_of_variable code variable = by (slice_get code.shapes variable)
  where
    by : Option Shape → Sort
    by (Some shape) = sort_of_shape shape
    by None = logical

-- ---- jumps

-- Only Back goes to an earlier place, and spends a turn.
abbrev pub ahead : Going → ℕ → ℕ → Going
ahead go line target at frame turns = if nat_lt at target then go target frame turns else stuck line

-- ---- each instruction, with what goes on behind it

abbrev pub behind : Going → ℕ → ℕ → Computing Frame → Computing (Frame × ℕ)
behind go at turns work = work >>= (λ frame. go (suc at) frame turns)

abbrev pub act : CodeLists → Going → ℕ → What → Going
act code go line (What.Const kind n) at frame turns = go (suc at) (pushed (Item.Value n) frame) turns
act code go line (What.Truth n) at frame turns = go (suc at) (pushed (Item.Value (number_of_truth n)) frame) turns
act code go line What.Drop at frame turns = item_off line frame >>= (λ w. go (suc at) w.1 turns)
act code go line (What.Arith op kind) at frame turns = behind go at turns (arithmetic line op kind frame)
act code go line (What.Wrap kind) at frame turns = behind go at turns (of_one line (wrapped kind) frame)
act code go line (What.Compare r) at frame turns = behind go at turns (of_two line (λ a b. number_of_truth (compares r a b)) frame)
act code go line What.And at frame turns = behind go at turns (of_two line conjunction frame)
act code go line What.Or at frame turns = behind go at turns (of_two line disjunction frame)
act code go line What.Eqv at frame turns = behind go at turns (of_two line equivalence frame)
act code go line What.Neqv at frame turns = behind go at turns (of_two line non_equivalence frame)
act code go line What.Not at frame turns = behind go at turns (of_one line (λ a. number_of_truth (not (truth a))) frame)
act code go line What.Merge at frame turns = behind go at turns (merged line frame)
act code go line (What.Subscript v) at frame turns = behind go at turns (positioned line (slice_get code.bounds v) frame)
act code go line (What.SubscriptSlot s) at frame turns = behind go at turns (positioned line (group_bounds (group_planned code frame s)) frame)
act code go line (What.Load v) at frame turns = behind go at turns (loaded code line (outer_place line v frame))
act code go line (What.LoadSlot s) at frame turns = behind go at turns (loaded code line (slot_place line s frame))
act code go line (What.Store v) at frame turns = behind go at turns (stored code line (outer_place line v frame))
act code go line (What.StoreSlot s) at frame turns = behind go at turns (stored code line (slot_place line s frame))
act code go line (What.Forget v) at frame turns = behind go at turns (forgotten code line (outer_place line v frame))
act code go line (What.ForgetSlot s) at frame turns = behind go at turns (forgotten code line (slot_place line s frame))
act code go line (What.PlaceOf v) at frame turns = behind go at turns (place_pushed (outer_place line v frame))
act code go line (What.PlaceOfSlot s) at frame turns = behind go at turns (place_pushed (slot_place line s frame))
act code go line (What.PlaceOfDummy d) at frame turns = behind go at turns (place_pushed (dummy_place line frame (dummy frame d)))
act code go line (What.LoadDummy d) at frame turns = behind go at turns (dummy_loaded code line frame (dummy frame d))
act code go line (What.StoreDummy d) at frame turns = behind go at turns (dummy_stored code line d frame (dummy frame d))
act code go line (What.Fill v) at frame turns = behind go at turns (filled code line v frame)
act code go line (What.FillSlot s) at frame turns = behind go at turns (slots_filled code line s frame)
act code go line (What.Fold f v) at frame turns = behind go at turns (folding_pushed code line f v (slice_get code.shapes v) frame)
act code go line (What.FoldSlot f s) at frame turns = behind go at turns (slot_folding_pushed line f s (group_planned code frame s) frame)
act code go line (What.Contribute op v) at frame turns = behind go at turns (contributed code line op v frame)
act code go line (What.Jump t) at frame turns = ahead go line t at frame turns
act code go line (What.JumpFalse t) at frame turns = do
  (z, left) ← value_off line frame
  if truth z then go (suc at) left turns else ahead go line t at left turns
act code go line What.Turn at frame turns = spent line turns >>= (λ left. go (suc at) frame left)
act code go line (What.Back t) at frame turns = spent line turns >>= (λ left. go t frame left)
act code go line (What.Count kind) at frame turns = behind go at turns (counted line frame)
act code go line (What.Call p n) at frame turns = called code go line (slice_get code.entries (p - 1)) p n at frame turns
act code go line What.Return at frame turns = returned go line frame turns
act code go line What.LoadResult at frame turns = behind go at turns (result_pushed line frame)
act code go line What.PutNumber at frame turns = behind go at turns (value_put line (whole Kind.K8) frame)
act code go line What.PutTruth at frame turns = behind go at turns (value_put line logical frame)
act code go line (What.PutChars x) at frame turns = behind go at turns (text_put line (slice_get code.texts x) frame)
act code go line (What.PutAll v) at frame turns = behind go at turns (all_put code line v (slice_get code.shapes v) frame)
act code go line What.PutEnd at frame turns = pause (write_line line (frame.line ++ 10 ∷ [])) (λ told. go (suc at) (with_line [] false frame) turns)
act code go line (What.TakeNumber kind) at frame turns =
    pause (take_value line (whole kind)) (λ told. go (suc at) (pushed (Item.Value told) frame) turns)
act code go line What.TakeTruth at frame turns = pause (take_value line logical) (λ told. go (suc at) (pushed (Item.Value told) frame) turns)
act code go line (What.TakeAll v) at frame turns =
    pause (take_elements line (sort_of_variable code v) (elements_of_variable code v)) (λ told. go (suc at) frame turns)
act code go line (What.TakeEnd n) at frame turns = pause (end_reading line n) (λ told. go (suc at) frame turns)
act code go line (What.Enter c) at frame turns = pause (enter_loop c turns []) (λ told. go (suc at) frame (min (natural told) turns))
act code go line What.End at frame turns = give (frame, turns)
act code go line What.Stop at frame turns = pause stop (λ told. go (suc at) frame turns)
act code go line What.ErrorStop at frame turns = faulty FaultKind.ErrorStop line
