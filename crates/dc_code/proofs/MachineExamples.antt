-- Small codes, instruction by instruction, and what the machine does with them.
use Rattle.std.proofs.Common.{◌≡◌, ℕ, suc, List, [], ◌∷◌, true, false, Option, Some, None, refl}
use Rattle.std.specs.Fmt.{digits}
use Rattle.std.specs.Int.{int_wrap}
use Rattle.std.specs.Prelude.{pos, negsuc}
use Rattle.dc_int.specs.declared.access.ElementId.{ElementId}
use Rattle.dc_int.specs.declared.fault.FaultKind.{FaultKind}
use Rattle.dc_int.specs.declared.fault.Why.{Why}
use Rattle.dc_int.specs.declared.kind.Kind.{Kind}
use Rattle.dc_int.specs.declared.operation.Op.{Op}
use Rattle.dc_int.specs.declared.operation.ReduceOp.{ReduceOp}
use Rattle.dc_int.specs.declared.variable.Locality.{Locality}
use Rattle.dc_int.specs.declared.variable.Shape.{Shape}
use Rattle.dc_int.specs.Entries.{Entry, Reads, Defines, Undefines, Contributes}
use Rattle.dc_int.specs.Sorts.{whole, logical}
use Rattle.dc_int.specs.Store.{Store, value_at, put_at, cell_of}
use Rattle.dc_code.specs.declared.frame.Item.{Item}
use Rattle.dc_code.specs.declared.instr.Folding.{Folding}
use Rattle.dc_code.specs.declared.instr.Instr.{Instr}
use Rattle.dc_code.specs.declared.instr.Relation.{Relation}
use Rattle.dc_code.specs.declared.instr.What.{What}
use Rattle.dc_code.specs.declared.plan.ConstructCode.{ConstructCode}
use Rattle.dc_code.specs.declared.plan.Group.{Group}
use Rattle.dc_code.specs.declared.plan.Passing.{Passing}
use Rattle.dc_code.specs.declared.plan.Plan.{Plan}
use Rattle.dc_code.specs.Codes.{CodeLists}
use Rattle.dc_code.specs.CodeForms.{form_in}
use Rattle.dc_code.specs.Computation.{Reached, done, bad, paused, Run, over}
use Rattle.dc_code.specs.Frames.{Frame, with_stack}
use Rattle.dc_code.specs.Machine.{machine, new_frame}
use Rattle.dc_code.specs.Troubles.{Event, Failure, write_line, take_value, take_elements, end_reading, enter_loop, stop}

-- ---- an array `a` of three elements, the last undefined, a scalar `t` of kind 1, and an array of two truths

abbrev small : Store
small =
    record { bounds = Some ((pos 0, pos 2) ∷ []); cells = Some (pos 5) ∷ Some (pos 6) ∷ None ∷ [] }
    ∷ record { bounds = Some []; cells = Some (pos 0) ∷ [] }
    ∷ record { bounds = Some ((pos 1, pos 2) ∷ []); cells = Some (pos 1) ∷ Some (pos 0) ∷ [] } ∷ []

abbrev shapes : List Shape
shapes =
    record { kind = Kind.K4; logical = false; elements = 3 }
    ∷ record { kind = Kind.K1; logical = false; elements = 1 }
    ∷ record { kind = Kind.K4; logical = true; elements = 2 } ∷ []

abbrev scalar : Kind → Group
scalar kind = record { kind = kind; logical = false; bounds = [] }

-- The main program has a scalar and an array of two slots; the one procedure, with three dummies, begins at
-- place 8 and has a scalar.
abbrev plans : List Plan
plans =
    record { dummies = []; groups = scalar Kind.K4 ∷ record { kind = Kind.K4; logical = false; bounds = (pos 1, pos 2) ∷ [] } ∷ [] }
    ∷ record {
      dummies =
          record { kind = Kind.K4; logical = false; passing = Passing.Value }
          ∷ record { kind = Kind.K4; logical = false; passing = Passing.Place }
          ∷ record { kind = Kind.K1; logical = false; passing = Passing.OutPlace } ∷ [];
      groups = scalar Kind.K4 ∷ [];
    } ∷ []

-- each instruction on a line of its own, from 1 on
abbrev lined : ℕ → List What → List Instr
lined line [] = []
lined line (what ∷ whats) = record { line = line; what = what } ∷ lined (suc line) whats

abbrev code_of : List What → CodeLists
code_of whats = record {
  instructions = lined 1 whats;
  texts = (104 ∷ 105 ∷ []) ∷ [];
  shapes = shapes;
  bounds = ((pos 0, pos 2) ∷ []) ∷ [] ∷ ((pos 1, pos 2) ∷ []) ∷ [];
  plans = plans;
  entries = 8 ∷ [];
  constructs = [];
}

abbrev ran : List Item → List What → Run Event Failure (Frame × ℕ)
ran stack whats = over small (machine (code_of whats) 0 (with_stack stack (new_frame (code_of whats) 0)) 5)

-- what the stack holds at the end
abbrev stack_in : Reached Event Failure (Frame × ℕ) → Option (List Item)
stack_in (done (frame, turns)) = Some frame.stack
stack_in other = None

abbrev leaves : List Item → List What → Option (List Item)
leaves stack whats = stack_in (ran stack whats).reached

abbrev failure_in : Reached Event Failure (Frame × ℕ) → Option Failure
failure_in (bad failure) = Some failure
failure_in other = None

abbrev fails : List Item → List What → Option Failure
fails stack whats = failure_in (ran stack whats).reached

abbrev event_in : Reached Event Failure (Frame × ℕ) → Option Event
event_in (paused event rest) = Some event
event_in other = None

abbrev pauses : List Item → List What → Option Event
pauses stack whats = event_in (ran stack whats).reached

abbrev enters : List Item → List What → List Entry
enters stack whats = (ran stack whats).entries

abbrev v : ℕ → Item
v n = Item.Value (pos n)

abbrev at : ℕ → Item
at n = Item.Position n

abbrev fault : FaultKind → ℕ → Option Failure
fault kind line = Some (record { why = Why.Fault kind; line = line })

abbrev a : ℕ → ElementId
a position = record { variable = 0; position = position }

abbrev t : ElementId
t = record { variable = 1; position = 0 }

-- ---- values

constants : leaves [] (What.Const Kind.K4 (pos 7) ∷ What.Truth true ∷ What.End ∷ []) ≡ Some (v 1 ∷ v 7 ∷ [])
unfolding machine cell_of value_at put_at int_wrap
constants = refl

dropped : leaves (v 1 ∷ v 7 ∷ []) (What.Drop ∷ What.End ∷ []) ≡ Some (v 7 ∷ [])
unfolding machine cell_of value_at put_at int_wrap
dropped = refl

-- the second operand is on top
subtracted : leaves (v 2 ∷ v 7 ∷ []) (What.Arith Op.Sub Kind.K4 ∷ What.End ∷ []) ≡ Some (v 5 ∷ [])
unfolding machine cell_of value_at put_at int_wrap
subtracted = refl

negated : leaves (v 2 ∷ v 7 ∷ []) (What.Arith Op.Neg Kind.K4 ∷ What.End ∷ []) ≡ Some (Item.Value (negsuc 1) ∷ v 7 ∷ [])
unfolding machine cell_of value_at put_at int_wrap
negated = refl

divided_by_zero : fails (v 0 ∷ v 7 ∷ []) (What.Arith Op.Div Kind.K4 ∷ What.End ∷ []) ≡ fault FaultKind.DivideByZero 1
unfolding machine cell_of value_at put_at int_wrap
divided_by_zero = refl

shifted_too_far : fails (v 9 ∷ v 1 ∷ []) (What.Turn ∷ What.Arith Op.Shiftl Kind.K1 ∷ What.End ∷ []) ≡ fault FaultKind.ShiftRange 2
unfolding machine cell_of value_at put_at int_wrap
shifted_too_far = refl

wrapped_to_kind : leaves (v 200 ∷ []) (What.Wrap Kind.K1 ∷ What.End ∷ []) ≡ Some (Item.Value (negsuc 55) ∷ [])
unfolding machine cell_of value_at put_at int_wrap
wrapped_to_kind = refl

compared : leaves (v 2 ∷ v 1 ∷ []) (What.Compare Relation.Lt ∷ What.End ∷ []) ≡ Some (v 1 ∷ [])
unfolding machine cell_of value_at put_at int_wrap
compared = refl

compared_same : leaves (v 2 ∷ v 2 ∷ []) (What.Compare Relation.Ge ∷ What.End ∷ []) ≡ Some (v 1 ∷ [])
unfolding machine cell_of value_at put_at int_wrap
compared_same = refl

both : leaves (v 1 ∷ v 0 ∷ []) (What.And ∷ What.End ∷ []) ≡ Some (v 0 ∷ [])
unfolding machine cell_of value_at put_at int_wrap
both = refl

either : leaves (v 1 ∷ v 0 ∷ []) (What.Or ∷ What.End ∷ []) ≡ Some (v 1 ∷ [])
unfolding machine cell_of value_at put_at int_wrap
either = refl

alike : leaves (v 0 ∷ v 0 ∷ []) (What.Eqv ∷ What.Not ∷ What.End ∷ []) ≡ Some (v 0 ∷ [])
unfolding machine cell_of value_at put_at int_wrap
alike = refl

unlike : leaves (v 1 ∷ v 0 ∷ []) (What.Neqv ∷ What.End ∷ []) ≡ Some (v 1 ∷ [])
unfolding machine cell_of value_at put_at int_wrap
unlike = refl

-- the mask is on top, above the value where it is false
merged_true : leaves (v 1 ∷ v 4 ∷ v 3 ∷ []) (What.Merge ∷ What.End ∷ []) ≡ Some (v 3 ∷ [])
unfolding machine cell_of value_at put_at int_wrap
merged_true = refl

merged_false : leaves (v 0 ∷ v 4 ∷ v 3 ∷ []) (What.Merge ∷ What.End ∷ []) ≡ Some (v 4 ∷ [])
unfolding machine cell_of value_at put_at int_wrap
merged_false = refl

missing : fails (v 1 ∷ []) (What.And ∷ What.End ∷ []) ≡ fault FaultKind.Undefined 1
unfolding machine cell_of value_at put_at int_wrap
missing = refl

-- ---- variables

element_loaded : leaves (v 1 ∷ []) (What.Subscript 0 ∷ What.Load 0 ∷ What.End ∷ []) ≡ Some (v 6 ∷ [])
unfolding machine cell_of value_at put_at int_wrap
element_loaded = refl

read_is_entered : enters (v 1 ∷ []) (What.Subscript 0 ∷ What.Load 0 ∷ What.End ∷ []) ≡ Reads (a 1) 2 ∷ []
unfolding machine cell_of value_at put_at int_wrap
read_is_entered = refl

out_of_bounds : fails (v 3 ∷ []) (What.Subscript 0 ∷ What.Load 0 ∷ What.End ∷ []) ≡ fault FaultKind.Subscript 1
unfolding machine cell_of value_at put_at int_wrap
out_of_bounds = refl

-- the read is entered before the fault
undefined_element : enters (at 2 ∷ []) (What.Load 0 ∷ What.End ∷ []) ≡ Reads (a 2) 1 ∷ []
unfolding machine cell_of value_at put_at int_wrap
undefined_element = refl

undefined_fault : fails (at 2 ∷ []) (What.Load 0 ∷ What.End ∷ []) ≡ fault FaultKind.Undefined 1
unfolding machine cell_of value_at put_at int_wrap
undefined_fault = refl

scalar_has_position : leaves [] (What.Subscript 1 ∷ What.End ∷ []) ≡ Some (at 0 ∷ [])
unfolding machine cell_of value_at put_at int_wrap
scalar_has_position = refl

-- the position is on top of the value
element_stored : enters (at 2 ∷ v 9 ∷ []) (What.Store 0 ∷ What.End ∷ []) ≡ Defines (a 2) (pos 9) 1 ∷ []
unfolding machine cell_of value_at put_at int_wrap
element_stored = refl

element_forgotten : enters (at 1 ∷ []) (What.Forget 0 ∷ What.End ∷ []) ≡ Undefines (a 1) 1 ∷ []
unfolding machine cell_of value_at put_at int_wrap
element_forgotten = refl

array_filled : enters (v 4 ∷ []) (What.Fill 0 ∷ What.End ∷ []) ≡ Defines (a 0) (pos 4) 1 ∷ Defines (a 1) (pos 4) 1 ∷ Defines (a 2) (pos 4) 1 ∷ []
unfolding machine cell_of value_at put_at int_wrap
array_filled = refl

counted_truths : leaves [] (What.Fold Folding.Count 2 ∷ What.Fold Folding.Any 2 ∷ What.Fold Folding.All 2 ∷ What.End ∷ []) ≡ Some (v 0 ∷ v 1 ∷ v 1 ∷ [])
unfolding machine cell_of value_at put_at int_wrap
counted_truths = refl

-- the elements are read up to the first that is undefined
sum_of_undefined : enters [] (What.Fold Folding.Sum 0 ∷ What.End ∷ []) ≡ Reads (a 0) 1 ∷ Reads (a 1) 1 ∷ Reads (a 2) 1 ∷ []
unfolding machine cell_of value_at put_at int_wrap
sum_of_undefined = refl

contribution : enters (at 0 ∷ v 3 ∷ []) (What.Contribute ReduceOp.Add 1 ∷ What.End ∷ []) ≡ Contributes t ReduceOp.Add (pos 3) ∷ []
unfolding machine cell_of value_at put_at int_wrap
contribution = refl

-- ---- slots

slot_stored_and_loaded
    : leaves (v 8 ∷ []) (What.Const Kind.K4 (pos 2) ∷ What.SubscriptSlot 1 ∷ What.StoreSlot 1 ∷ What.Const Kind.K4 (pos 2) ∷ What.SubscriptSlot 1 ∷ What.LoadSlot 1 ∷ What.End ∷ [])
    ≡ Some (v 8 ∷ [])
unfolding machine cell_of value_at put_at int_wrap
slot_stored_and_loaded = refl

slot_is_undefined_at_first : fails (at 0 ∷ []) (What.LoadSlot 0 ∷ What.End ∷ []) ≡ fault FaultKind.Undefined 1
unfolding machine cell_of value_at put_at int_wrap
slot_is_undefined_at_first = refl

slots_filled_and_folded : leaves (v 4 ∷ []) (What.FillSlot 1 ∷ What.FoldSlot Folding.Sum 1 ∷ What.End ∷ []) ≡ Some (v 8 ∷ [])
unfolding machine cell_of value_at put_at int_wrap
slots_filled_and_folded = refl

slot_forgotten : fails (v 4 ∷ []) (What.FillSlot 1 ∷ What.SubscriptSlot 0 ∷ What.ForgetSlot 0 ∷ What.FoldSlot Folding.Sum 0 ∷ What.End ∷ []) ≡ fault FaultKind.Undefined 4
unfolding machine cell_of value_at put_at int_wrap
slot_forgotten = refl

-- ---- jumps and turns

jumped : leaves [] (What.Jump 2 ∷ What.ErrorStop ∷ What.End ∷ []) ≡ Some []
unfolding machine cell_of value_at put_at int_wrap
jumped = refl

jumped_on_false : leaves (v 0 ∷ []) (What.JumpFalse 2 ∷ What.ErrorStop ∷ What.End ∷ []) ≡ Some []
unfolding machine cell_of value_at put_at int_wrap
jumped_on_false = refl

not_jumped_on_true : fails (v 1 ∷ []) (What.JumpFalse 2 ∷ What.ErrorStop ∷ What.End ∷ []) ≡ fault FaultKind.ErrorStop 2
unfolding machine cell_of value_at put_at int_wrap
not_jumped_on_true = refl

-- a jump that isn't ahead
stays : fails [] (What.Jump 0 ∷ What.End ∷ []) ≡ fault FaultKind.Undefined 1
unfolding machine cell_of value_at put_at int_wrap
stays = refl

-- five turns are spent, and a sixth isn't there
round_and_round : fails [] (What.Back 0 ∷ []) ≡ Some (record { why = Why.Spent; line = 1 })
unfolding machine cell_of value_at put_at int_wrap
round_and_round = refl

trips : leaves (v 2 ∷ v 10 ∷ v 1 ∷ []) (What.Count Kind.K4 ∷ What.End ∷ []) ≡ Some (v 5 ∷ [])
unfolding machine cell_of value_at put_at int_wrap
trips = refl

most_trips : leaves (v 1 ∷ v 2000000000 ∷ v 1 ∷ []) (What.Count Kind.K4 ∷ What.End ∷ []) ≡ Some (v 1000000001 ∷ [])
unfolding machine cell_of value_at put_at int_wrap
most_trips = refl

zero_step : fails (v 0 ∷ v 10 ∷ v 1 ∷ []) (What.Count Kind.K4 ∷ What.End ∷ []) ≡ fault FaultKind.StepZero 1
unfolding machine cell_of value_at put_at int_wrap
zero_step = refl

-- ---- output and input

line_written
    : pauses (v 1 ∷ Item.Value (negsuc 3) ∷ []) (What.PutTruth ∷ What.PutNumber ∷ What.PutChars 0 ∷ What.PutAll 2 ∷ What.PutEnd ∷ [])
    ≡ Some (write_line 5 (84 ∷ 32 ∷ 45 ∷ 52 ∷ 32 ∷ 104 ∷ 105 ∷ 32 ∷ 84 ∷ 32 ∷ 70 ∷ 10 ∷ []))
unfolding machine digits cell_of value_at put_at int_wrap
line_written = refl

number_taken : pauses [] (What.TakeNumber Kind.K1 ∷ []) ≡ Some (take_value 1 (whole Kind.K1))
unfolding machine cell_of value_at put_at int_wrap
number_taken = refl

array_taken : pauses [] (What.TakeAll 2 ∷ []) ≡ Some (take_elements 1 logical (record { variable = 2; position = 0 } ∷ record { variable = 2; position = 1 } ∷ []))
unfolding machine cell_of value_at put_at int_wrap
array_taken = refl

reading_ended : pauses [] (What.TakeEnd 2 ∷ []) ≡ Some (end_reading 1 2)
unfolding machine cell_of value_at put_at int_wrap
reading_ended = refl

loop_entered : pauses [] (What.Turn ∷ What.Enter 3 ∷ []) ≡ Some (enter_loop 3 4 [])
unfolding machine cell_of value_at put_at int_wrap
loop_entered = refl

stopped : pauses [] (What.Stop ∷ []) ≡ Some stop
unfolding machine cell_of value_at put_at int_wrap
stopped = refl

-- ---- a call: x, INTENT(IN), is 3; y, INTENT(INOUT), is a(1); z, INTENT(OUT), is t. It does y = x + y and gives x.

abbrev calling : List What
calling =
    What.Const Kind.K4 (pos 3)
    ∷ What.Const Kind.K4 (pos 1) ∷ What.Subscript 0 ∷ What.PlaceOf 0
    ∷ What.Subscript 1 ∷ What.PlaceOf 1
    ∷ What.Call 1 3 ∷ What.Jump 15
    ∷ What.LoadDummy 0 ∷ What.LoadDummy 1 ∷ What.Arith Op.Add Kind.K4 ∷ What.StoreDummy 1
    ∷ What.LoadDummy 0 ∷ What.FillSlot 0 ∷ What.Return
    ∷ What.LoadResult ∷ What.End ∷ []

call_enters : enters [] calling ≡ Undefines t 7 ∷ Reads (a 1) 10 ∷ Defines (a 1) (pos 9) 12 ∷ []
unfolding machine cell_of value_at put_at int_wrap
call_enters = refl

call_gives : leaves [] calling ≡ Some (v 3 ∷ [])
unfolding machine cell_of value_at put_at int_wrap
call_gives = refl

abbrev turns_in : Reached Event Failure (Frame × ℕ) → Option ℕ
turns_in (done (frame, turns)) = Some turns
turns_in other = None

-- a call spends a turn
call_spends : turns_in (ran [] calling).reached ≡ Some 4
unfolding machine cell_of value_at put_at int_wrap
call_spends = refl

-- ---- a loop `do concurrent (i = 1:3, a(i-1) > 5)` with body `a(i-1) = i`

abbrev looping : CodeLists
looping = record {
  instructions = lined 1 (What.Enter 0 ∷ What.End
      ∷ What.Const Kind.K4 (pos 1) ∷ What.Const Kind.K4 (pos 3) ∷ What.Const Kind.K4 (pos 1) ∷ What.End
      ∷ What.SubscriptSlot 0 ∷ What.LoadSlot 0 ∷ What.Const Kind.K4 (pos 1) ∷ What.Arith Op.Sub Kind.K4 ∷ What.Subscript 0 ∷ What.Load 0 ∷ What.Const Kind.K4 (pos 5)
      ∷ What.Compare Relation.Gt ∷ What.End
      ∷ What.SubscriptSlot 0 ∷ What.LoadSlot 0 ∷ What.SubscriptSlot 0 ∷ What.LoadSlot 0 ∷ What.Const Kind.K4 (pos 1) ∷ What.Arith Op.Sub Kind.K4 ∷ What.Subscript 0
      ∷ What.Store 0 ∷ What.End ∷ []);
  texts = [];
  shapes = shapes;
  bounds = ((pos 0, pos 2) ∷ []) ∷ [] ∷ ((pos 1, pos 2) ∷ []) ∷ [];
  plans = record { dummies = []; groups = [] } ∷ record { dummies = []; groups = [] } ∷ record { dummies = []; groups = scalar Kind.K4 ∷ [] } ∷ record { dummies = []; groups = scalar Kind.K4 ∷ [] } ∷ [];
  entries = [];
  constructs = record {
    line = 2;
    width = 1;
    kinds = Kind.K4 ∷ [];
    header = 2;
    mask = Some 6;
    body = 15;
    localities = Locality.Plain ∷ Locality.Plain ∷ Locality.Plain ∷ [];
  } ∷ [];
}

abbrev the_loop : ConstructCode
the_loop = record {
  line = 2;
  width = 1;
  kinds = Kind.K4 ∷ [];
  header = 2;
  mask = Some 6;
  body = 15;
  localities = Locality.Plain ∷ Locality.Plain ∷ Locality.Plain ∷ [];
}

header_by_code : (over small ((form_in looping 9 the_loop).header 4)).reached ≡ done (record { first = pos 1; last = pos 3; step = pos 1 } ∷ [], 4)
unfolding machine cell_of value_at put_at int_wrap
header_by_code = refl

mask_by_code : (over small ((form_in looping 9 the_loop).mask (pos 2 ∷ []))).reached ≡ done true
unfolding machine cell_of value_at put_at int_wrap
mask_by_code = refl

body_by_code : (over small ((form_in looping 9 the_loop).block [] (pos 2 ∷ []))).entries ≡ Defines (a 1) (pos 2) 23 ∷ []
unfolding machine cell_of value_at put_at int_wrap
body_by_code = refl

turns_of_body : (over small ((form_in looping 9 the_loop).block [] (pos 2 ∷ []))).reached ≡ done 9
unfolding machine cell_of value_at put_at int_wrap
turns_of_body = refl
