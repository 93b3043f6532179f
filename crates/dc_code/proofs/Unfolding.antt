-- The machine carries out one instruction, and then goes on as the machine.
use Rattle.std.proofs.Common.{◌≡◌, ◌<◌, ◌≤◌, ℕ, zero, suc, ◌+◌, ◌-◌, ◌*◌, Bool, true, false, List, [], ◌∷◌, ◌++◌, length, Option, Some, None, refl, sym, ap, ◌∙◌, subst, arith}
use Rattle.std.proofs.lemmas.Bool.{ltb-true}
use Rattle.std.proofs.lemmas.List.{length-take}
use Rattle.std.proofs.lemmas.Option.{none-some}
use Rattle.std.specs.Prelude.{ℤ, pos, map, is_some, min, take, nat_lt, slice_get, if◌then◌else◌}
use Rattle.dc_int.specs.declared.kind.Kind.{Kind}
use Rattle.dc_int.specs.declared.operation.Op.{Op}
use Rattle.dc_int.specs.declared.operation.ReduceOp.{ReduceOp}
use Rattle.dc_int.specs.declared.variable.Shape.{Shape}
use Rattle.dc_int.specs.Operations.{applied}
use Rattle.dc_int.specs.Reductions.{truth}
use Rattle.dc_int.specs.Sorts.{Sort, whole, logical}
use Rattle.dc_int.specs.Store.{Bounds, changed_at, position_in}
use Rattle.dc_code.specs.declared.frame.Item.{Item}
use Rattle.dc_code.specs.declared.frame.Passed.{Passed}
use Rattle.dc_code.specs.declared.frame.Place.{Place}
use Rattle.dc_code.specs.declared.instr.Instr.{Instr}
use Rattle.dc_code.specs.declared.instr.What.{What}
use Rattle.dc_code.specs.declared.instr.Folding.{Folding}
use Rattle.dc_code.specs.declared.plan.DummyPlan.{DummyPlan}
use Rattle.dc_code.specs.declared.plan.Group.{Group}
use Rattle.dc_code.specs.declared.plan.Passing.{Passing}
use Rattle.dc_code.specs.Codes.{CodeLists, element, elements_of_variable, plan_numbered}
use Rattle.dc_code.specs.Combinations.{natural}
use Rattle.dc_code.specs.Computation.{give, fail, read, define, undefine, contribute, ask, pause, ◌>>=◌}
use Rattle.dc_code.specs.Frames.{UnitFrame, Frame, pushed, fresh_unit, entered, with_units, with_line, put, put_each, level, innermost, innermost_changed, left_unit}
use Rattle.dc_code.specs.Instructions.{Going, act, behind, ahead, called, returned, passed_to, deepened, takes_one, computed, settled, of_one, of_two, merged, spent, folding_pushed, slot_folding_pushed, contributed, contributed_as, rounds_of, counted, result_pushed, value_put, text_put, all_put, forgotten_out, all_forgotten_out, sort_of_variable}
use Rattle.dc_code.specs.Machine.{fetched, steps, bound, machine}
use Rattle.dc_code.specs.Operands.{item_off, top_off, value_off, as_value, position_off, as_position, items_off, values_off, required}
use Rattle.dc_code.specs.Reaching.{place_read, place_defined, place_forgotten, outer_place, slot_place, loaded, stored, forgotten, positioned, within_bounds, sort_of_shape, element_sort, element_defined, dummy_place, dummy_loaded, dummy_stored, place_pushed, filled, slots_filled, all_read, all_defined, all_required, group_slots, dummy}
use Rattle.dc_code.specs.Troubles.{Computing, write_line, take_value, take_elements, end_reading, enter_loop, stop}
use Rattle.dc_lists.specs.Output.{written}
use Rattle.dc_code.proofs.Sequences.{Gives, gives-then, same-then}

-- ---- a frame with as many units

abbrev Kept : Frame → Frame → Type 0
Kept frame left = length left.units ≡ length frame.units

abbrev KeptBeside : {A : Type 0} → Frame → A × Frame → Type 0
KeptBeside frame w = Kept frame w.1

length-changed : {A : Type 0} (change : A → A) (items : List A) (place : ℕ) → length (changed_at change items place) ≡ length items
length-changed change [] place = refl
length-changed change (item ∷ items) zero = refl
length-changed change (item ∷ items) (suc place) = ap suc (length-changed change items place)

if-gives : {A : Type 0} (P : A → Type 0) (b : Bool) (c d : Computing A) → Gives P c → Gives P d → Gives P (if b then c else d)
if-gives P true c d first second = first
if-gives P false c d first second = second

-- ---- operands

top-kept : (line : ℕ) (frame : Frame) (stack : List Item) → Gives (KeptBeside frame) (top_off line frame stack)
top-kept line frame [] = tt
top-kept line frame (item ∷ rest) = refl

item-kept : (line : ℕ) (frame : Frame) → Gives (KeptBeside frame) (item_off line frame)
item-kept line frame = top-kept line frame frame.stack

value-as : (line : ℕ) (frame : Frame) (w : Item × Frame) → KeptBeside frame w → Gives (KeptBeside frame) (as_value line w)
value-as line frame (Item.Value z, left) kept = kept
value-as line frame (Item.Position at, left) kept = tt
value-as line frame (Item.Place at, left) kept = tt

position-as : (line : ℕ) (frame : Frame) (w : Item × Frame) → KeptBeside frame w → Gives (KeptBeside frame) (as_position line w)
position-as line frame (Item.Value z, left) kept = tt
position-as line frame (Item.Position at, left) kept = kept
position-as line frame (Item.Place at, left) kept = tt

value-kept : (line : ℕ) (frame : Frame) → Gives (KeptBeside frame) (value_off line frame)
value-kept line frame = gives-then (KeptBeside frame) (KeptBeside frame) (item_off line frame) (as_value line) (item-kept line frame) (value-as line frame)

position-kept : (line : ℕ) (frame : Frame) → Gives (KeptBeside frame) (position_off line frame)
position-kept line frame = gives-then (KeptBeside frame) (KeptBeside frame) (item_off line frame) (as_position line) (item-kept line frame) (position-as line frame)

-- what follows an operand that is taken off
behind-value : {B : Type 0} (Q : B → Type 0) (line : ℕ) (frame : Frame) (next : ℤ × Frame → Computing B)
    → ((z : ℤ) (left : Frame) → Kept frame left → Gives Q (next (z, left))) → Gives Q (value_off line frame >>= next)
behind-value Q line frame next later = gives-then (KeptBeside frame) Q (value_off line frame) next (value-kept line frame) (λ w kept. later w.0 w.1 kept)

items-kept : (line count : ℕ) (frame : Frame) → Gives (KeptBeside frame) (items_off line count frame)
items-kept line zero frame = refl
items-kept line (suc count) frame =
    gives-then (KeptBeside frame) (KeptBeside frame) (item_off line frame) _ (item-kept line frame)
    (λ w kept. gives-then (KeptBeside w.1) (KeptBeside frame) (items_off line count w.1) _ (items-kept line count w.1) (λ v also. also ∙ kept))

values-kept : (line count : ℕ) (frame : Frame) → Gives (KeptBeside frame) (values_off line count frame)
values-kept line zero frame = refl
values-kept line (suc count) frame =
    behind-value (KeptBeside frame) line frame _
    (λ z left kept. gives-then (KeptBeside left) (KeptBeside frame) (values_off line count left) _ (values-kept line count left) (λ v also. also ∙ kept))

-- ---- anything is given

abbrev Any : {A : Type 0} → A → Type 0
Any a = Unit {0}

gives-any : {A : Type 0} (c : Computing A) → Gives Any c
gives-any (give a) = tt
gives-any (fail trouble) = tt
gives-any (read x line rest) = λ state. gives-any (rest state)
gives-any (define x z line rest) = gives-any rest
gives-any (undefine x line rest) = gives-any rest
gives-any (contribute x op z rest) = gives-any rest
gives-any (ask variable rest) = λ bounds. gives-any (rest bounds)
gives-any (pause event rest) = λ told. gives-any (rest told)

-- a value that is found in any way, and then a frame with as many units
behind-any : {A B : Type 0} (Q : B → Type 0) (c : Computing A) (next : A → Computing B) → ((a : A) → Gives Q (next a)) → Gives Q (c >>= next)
behind-any Q c next later = gives-then Any Q c next (gives-any c) (λ a any. later a)

-- ---- what instructions do

computed-kept : (b : Bool) (line : ℕ) (op : Op) (kind : Kind) (frame : Frame) → Gives (Kept frame) (computed b line op kind frame)
computed-kept true line op kind frame =
    behind-value (Kept frame) line frame _ (λ a left kept. behind-any (Kept frame) (settled line (applied op kind a (pos 0))) (λ z. give (pushed (Item.Value z) left)) (λ z. kept))
computed-kept false line op kind frame =
    behind-value (Kept frame) line frame _ (λ b below kept. behind-value (Kept frame) line below _
    (λ a left also. behind-any (Kept frame) (settled line (applied op kind a b)) (λ z. give (pushed (Item.Value z) left)) (λ z. also ∙ kept)))

two-kept : (line : ℕ) (make : ℤ → ℤ → ℤ) (frame : Frame) → Gives (Kept frame) (of_two line make frame)
two-kept line make frame = behind-value (Kept frame) line frame _ (λ b below kept. behind-value (Kept frame) line below _ (λ a left also. also ∙ kept))

one-kept : (line : ℕ) (make : ℤ → ℤ) (frame : Frame) → Gives (Kept frame) (of_one line make frame)
one-kept line make frame = behind-value (Kept frame) line frame _ (λ a left kept. kept)

merged-kept : (line : ℕ) (frame : Frame) → Gives (Kept frame) (merged line frame)
merged-kept line frame =
    behind-value (Kept frame) line frame _ (λ m below kept. behind-value (Kept frame) line below _ (λ f under also. behind-value (Kept frame) line under _ (λ t left further. further ∙ also ∙ kept)))

positioned-kept : (line : ℕ) (bounds : Option Bounds) (frame : Frame) → Gives (Kept frame) (positioned line bounds frame)
positioned-kept line None frame = tt
positioned-kept line (Some bounds) frame =
    gives-then (KeptBeside frame) (Kept frame) (values_off line (length bounds) frame) _ (values-kept line (length bounds) frame)
    (λ w kept. behind-any (Kept frame) (within_bounds line (position_in bounds w.0)) (λ at. give (pushed (Item.Position at) w.1)) (λ at. kept))

outer-kept : (line variable : ℕ) (frame : Frame) → Gives (KeptBeside frame) (outer_place line variable frame)
outer-kept line variable frame = gives-then (KeptBeside frame) (KeptBeside frame) (position_off line frame) _ (position-kept line frame) (λ w kept. kept)

slot-kept : (line group : ℕ) (frame : Frame) → Gives (KeptBeside frame) (slot_place line group frame)
slot-kept line group frame = gives-then (KeptBeside frame) (KeptBeside frame) (position_off line frame) _ (position-kept line frame) (λ w kept. kept)

dummy-kept : (line : ℕ) (frame : Frame) (passed : Option Passed) → Gives (KeptBeside frame) (dummy_place line frame passed)
dummy-kept line frame None = tt
dummy-kept line frame (Some (Passed.ByValue z)) = tt
dummy-kept line frame (Some (Passed.AtPlace at)) = refl

loaded-kept : (code : CodeLists) (line : ℕ) (frame : Frame) (found : Computing (Place × Frame)) → Gives (KeptBeside frame) found → Gives (Kept frame) (loaded code line found)
loaded-kept code line frame found kept = gives-then (KeptBeside frame) (Kept frame) found _ kept (λ w also. behind-any (Kept frame) (place_read code line w.1 w.0) _ (λ z. also))

defined-kept : (code : CodeLists) (line : ℕ) (at : Place) (z : ℤ) (frame : Frame) → Gives (Kept frame) (place_defined code line at z frame)
defined-kept code line (Place.Outer x) z frame = behind-any (Kept frame) (element_defined code line x z) (λ done. give frame) (λ done. refl)
defined-kept code line (Place.InFrame number group at) z frame = length-changed _ frame.units number

forgotten-kept : (code : CodeLists) (line : ℕ) (at : Place) (frame : Frame) → Gives (Kept frame) (place_forgotten code line at frame)
forgotten-kept code line (Place.Outer x) frame = if-gives (Kept frame) (is_some (element_sort code x)) _ _ refl tt
forgotten-kept code line (Place.InFrame number group at) frame = length-changed _ frame.units number

through-kept : (frame left : Frame) (c : Computing Frame) → Kept frame left → Gives (Kept left) c → Gives (Kept frame) c
through-kept frame left c kept gives = weaker c gives
  where
    weaker : (c : Computing Frame) → Gives (Kept left) c → Gives (Kept frame) c
    weaker c gives = subst (λ n. Gives (λ (f : Frame). length f.units ≡ n) c) kept gives

stored-kept : (code : CodeLists) (line : ℕ) (frame : Frame) (found : Computing (Place × Frame)) → Gives (KeptBeside frame) found → Gives (Kept frame) (stored code line found)
stored-kept code line frame found kept =
    gives-then (KeptBeside frame) (Kept frame) found _ kept
    (λ w also. behind-value (Kept frame) line w.1 _ (λ z left further. through-kept frame left (place_defined code line w.0 z left) (further ∙ also) (defined-kept code line w.0 z left)))

undefined-kept : (code : CodeLists) (line : ℕ) (frame : Frame) (found : Computing (Place × Frame)) → Gives (KeptBeside frame) found → Gives (Kept frame) (forgotten code line found)
undefined-kept code line frame found kept =
    gives-then (KeptBeside frame) (Kept frame) found _ kept (λ w also. through-kept frame w.1 (place_forgotten code line w.0 w.1) also (forgotten-kept code line w.0 w.1))

pushed-kept : (frame : Frame) (found : Computing (Place × Frame)) → Gives (KeptBeside frame) found → Gives (Kept frame) (place_pushed found)
pushed-kept frame found kept = gives-then (KeptBeside frame) (Kept frame) found _ kept (λ w also. also)

dummy_load-kept : (code : CodeLists) (line : ℕ) (frame : Frame) (passed : Option Passed) → Gives (Kept frame) (dummy_loaded code line frame passed)
dummy_load-kept code line frame None = tt
dummy_load-kept code line frame (Some (Passed.ByValue z)) = refl
dummy_load-kept code line frame (Some (Passed.AtPlace at)) = loaded-kept code line frame (dummy_place line frame (Some (Passed.AtPlace at))) refl

innermost-kept : (change : UnitFrame → UnitFrame) (frame : Frame) → Kept frame (innermost_changed change frame)
innermost-kept change frame = length-changed change frame.units (level frame)

dummy_store-kept : (code : CodeLists) (line number : ℕ) (frame : Frame) (passed : Option Passed) → Gives (Kept frame) (dummy_stored code line number frame passed)
dummy_store-kept code line number frame None = tt
dummy_store-kept code line number frame (Some (Passed.ByValue before)) = behind-value (Kept frame) line frame _ (λ z left kept. innermost-kept _ left ∙ kept)
dummy_store-kept code line number frame (Some (Passed.AtPlace at)) = stored-kept code line frame (dummy_place line frame (Some (Passed.AtPlace at))) refl

filled-kept : (code : CodeLists) (line variable : ℕ) (frame : Frame) → Gives (Kept frame) (filled code line variable frame)
filled-kept code line variable frame = behind-value (Kept frame) line frame _ (λ z left kept. behind-any (Kept frame) (all_defined code line (elements_of_variable code variable) z) _ (λ done. kept))

slots_filled-kept : (code : CodeLists) (line group : ℕ) (frame : Frame) → Gives (Kept frame) (slots_filled code line group frame)
slots_filled-kept code line group frame = behind-value (Kept frame) line frame _ (λ z left kept. innermost-kept _ left ∙ kept)

folding-kept : (code : CodeLists) (line : ℕ) (folding : Folding) (variable : ℕ) (shape : Option Shape) (frame : Frame) → Gives (Kept frame) (folding_pushed code line folding variable shape frame)
folding-kept code line folding variable None frame = tt
folding-kept code line folding variable (Some shape) frame = behind-any (Kept frame) (all_read code line (elements_of_variable code variable)) _ (λ zs. refl)

slot_folding-kept : (line : ℕ) (folding : Folding) (group : ℕ) (found : Option Group) (frame : Frame) → Gives (Kept frame) (slot_folding_pushed line folding group found frame)
slot_folding-kept line folding group None frame = tt
slot_folding-kept line folding group (Some found) frame = behind-any (Kept frame) (all_required line (group_slots frame group)) _ (λ zs. refl)

contributed-kept : (code : CodeLists) (line : ℕ) (op : ReduceOp) (variable : ℕ) (frame : Frame) → Gives (Kept frame) (contributed code line op variable frame)
contributed-kept code line op variable frame =
    gives-then (KeptBeside frame) (Kept frame) (position_off line frame) _ (position-kept line frame)
    (λ w kept. behind-value (Kept frame) line w.1 _ (λ z left also. behind-any (Kept frame) (contributed_as line (element variable w.0) op z (element_sort code (element variable w.0))) (λ done. give left) (λ done. also ∙ kept)))

counted-kept : (line : ℕ) (frame : Frame) → Gives (Kept frame) (counted line frame)
counted-kept line frame =
    behind-value (Kept frame) line frame _ (λ step below kept. behind-value (Kept frame) line below _ (λ last under also. behind-value (Kept frame) line under _
    (λ first left further. behind-any (Kept frame) (rounds_of line (record { first = first; last = last; step = step })) (λ rounds. give (pushed (Item.Value rounds) left)) (λ rounds. further ∙ also ∙ kept))))

result-kept : (line : ℕ) (frame : Frame) → Gives (Kept frame) (result_pushed line frame)
result-kept line frame = behind-any (Kept frame) (required line (innermost frame).returned) _ (λ z. refl)

value_put-kept : (line : ℕ) (sort : Sort) (frame : Frame) → Gives (Kept frame) (value_put line sort frame)
value_put-kept line sort frame = behind-value (Kept frame) line frame _ (λ z left kept. kept)

text_put-kept : (line : ℕ) (text : Option (List ℕ)) (frame : Frame) → Gives (Kept frame) (text_put line text frame)
text_put-kept line None frame = tt
text_put-kept line (Some bytes) frame = refl

put_each-kept : (texts : List (List ℕ)) (frame : Frame) → Kept frame (put_each texts frame)
put_each-kept [] frame = refl
put_each-kept (text ∷ texts) frame = put_each-kept texts (put text frame)

all_put-kept : (code : CodeLists) (line variable : ℕ) (shape : Option Shape) (frame : Frame) → Gives (Kept frame) (all_put code line variable shape frame)
all_put-kept code line variable None frame = tt
all_put-kept code line variable (Some shape) frame =
    behind-any (Kept frame) (all_read code line (elements_of_variable code variable)) (λ zs. give (put_each (map (written (sort_of_shape shape)) zs) frame))
    (λ zs. put_each-kept (map (written (sort_of_shape shape)) zs) frame)

forgotten_out-kept : (code : CodeLists) (line : ℕ) (passing : Passing) (given : Passed) (frame : Frame) → Gives (Kept frame) (forgotten_out code line passing given frame)
forgotten_out-kept code line Passing.Value (Passed.ByValue z) frame = refl
forgotten_out-kept code line Passing.Value (Passed.AtPlace at) frame = refl
forgotten_out-kept code line Passing.Place (Passed.ByValue z) frame = refl
forgotten_out-kept code line Passing.Place (Passed.AtPlace at) frame = refl
forgotten_out-kept code line Passing.OutPlace (Passed.ByValue z) frame = refl
forgotten_out-kept code line Passing.OutPlace (Passed.AtPlace at) frame = forgotten-kept code line at frame

all_forgotten_out-kept : (code : CodeLists) (line : ℕ) (dummies : List DummyPlan) (given : List Passed) (frame : Frame) → Gives (Kept frame) (all_forgotten_out code line dummies given frame)
all_forgotten_out-kept code line [] given frame = refl
all_forgotten_out-kept code line (dummy ∷ dummies) [] frame = refl
all_forgotten_out-kept code line (dummy ∷ dummies) (first ∷ others) frame =
    gives-then (Kept frame) (Kept frame) (forgotten_out code line dummy.passing first frame) _ (forgotten_out-kept code line dummy.passing first frame)
    (λ left kept. through-kept frame left (all_forgotten_out code line dummies others left) kept (all_forgotten_out-kept code line dummies others left))

-- ---- the bound

-- What goes on is the same below a bound.
abbrev pub SameBelow : CodeLists → Going → Going → ℕ → Type 0
SameBelow code next other most = (at : ℕ) (frame : Frame) (turns : ℕ) → bound code at frame turns < most → next at frame turns ≡ other at frame turns

forward : (p size at : ℕ) → at < size → p + (size - suc at) < p + (size - at)
forward p size at before = omega (arith, before)

ahead-less : (p size at target : ℕ) → at < size → at < target → p + (size - target) < p + (size - at)
ahead-less p size at target before later = omega (arith, before, later)

with-turn : (turns units size at target : ℕ) → (2 * turns + units) * suc size + (size - target) < (2 * suc turns + units) * suc size + (size - at)
with-turn turns units size at target = omega arith

entering : (turns units size at target : ℕ) → (2 * turns + suc units) * suc size + (size - target) < (2 * suc turns + units) * suc size + (size - at)
entering turns units size at target = omega arith

leaving : (turns units size at target : ℕ) → (2 * turns + units) * suc size + (size - target) < (2 * turns + suc units) * suc size + (size - at)
leaving turns units size at target = omega arith

fewer : (less turns units size at : ℕ) → less ≤ turns → at < size → (2 * less + units) * suc size + (size - suc at) < (2 * turns + units) * suc size + (size - at)
fewer less turns units size at few before =
    subst (λ t. (2 * less + units) * suc size + (size - suc at) < (2 * t + units) * suc size + (size - at)) (omega (arith, few)) (more (turns - less))
  where
    more : (d : ℕ) → (2 * less + units) * suc size + (size - suc at) < (2 * (less + d) + units) * suc size + (size - at)
    more d = omega (arith, before)

min-right : (m n : ℕ) → min m n ≤ n
min-right m n = omega arith

less-from : (m n : ℕ) → nat_lt m n ≡ true → m < n
less-from m n e = ltb-true m n e

left-length : (frame : Frame) → nat_lt 1 (length frame.units) ≡ true → length frame.units ≡ suc (length (left_unit frame).units)
left-length frame e = whole (less-from 1 (length frame.units) e) ∙ ap suc (sym (taken (less-from 1 (length frame.units) e)))
  where
    whole : 1 < length frame.units → length frame.units ≡ suc (level frame)
    whole less = omega (arith, less)

    shorter : 1 < length frame.units → min (level frame) (length frame.units) ≡ level frame
    shorter less = omega (arith, less)

    taken : 1 < length frame.units → length (left_unit frame).units ≡ level frame
    taken less = innermost-kept _ (with_units (take (level frame) frame.units) frame) ∙ length-take (level frame) frame.units ∙ shorter less

length-snoc : {A : Type 0} (items : List A) (last : A) → length (items ++ last ∷ []) ≡ suc (length items)
length-snoc [] last = refl
length-snoc (item ∷ items) last = ap suc (length-snoc items last)

-- ---- one instruction

behind-same : (code : CodeLists) (next other : Going) (at : ℕ) (frame : Frame) (turns : ℕ) (work : Computing Frame)
    → at < length code.instructions → SameBelow code next other (bound code at frame turns) → Gives (Kept frame) work
    → behind next at turns work ≡ behind other at turns work
behind-same code next other at frame turns work before same kept = same-then (Kept frame) work _ _ kept (λ left k. same (suc at) left turns (lower left k))
  where
    lower : (left : Frame) → Kept frame left → bound code (suc at) left turns < bound code at frame turns
    lower left k = rw k (forward ((2 * turns + length frame.units) * suc (length code.instructions)) (length code.instructions) at before)

at-next : (code : CodeLists) (next other : Going) (at : ℕ) (frame left : Frame) (turns : ℕ)
    → at < length code.instructions → SameBelow code next other (bound code at frame turns) → Kept frame left → next (suc at) left turns ≡ other (suc at) left turns
at-next code next other at frame left turns before same k =
    same (suc at) left turns (rw k (forward ((2 * turns + length frame.units) * suc (length code.instructions)) (length code.instructions) at before))

-- a jump ahead
ahead-same : (code : CodeLists) (next other : Going) (line target at : ℕ) (frame left : Frame) (turns : ℕ)
    → at < length code.instructions → SameBelow code next other (bound code at frame turns) → Kept frame left
    → ahead next line target at left turns ≡ ahead other line target at left turns
ahead-same code next other line target at frame left turns before same k = by (nat_lt at target) refl
  where
    by : (b : Bool) → nat_lt at target ≡ b → ahead next line target at left turns ≡ ahead other line target at left turns
    by true e = rw e (same target left turns (rw k (ahead-less ((2 * turns + length frame.units) * suc (length code.instructions)) (length code.instructions) at target before (less-from at target e))))
    by false e = rw e refl

jump-same : (code : CodeLists) (next other : Going) (line target at : ℕ) (frame left : Frame) (turns : ℕ) (b : Bool)
    → at < length code.instructions → SameBelow code next other (bound code at frame turns) → Kept frame left
    → (if b then next (suc at) left turns else ahead next line target at left turns) ≡ (if b then other (suc at) left turns else ahead other line target at left turns)
jump-same code next other line target at frame left turns true before same k = at-next code next other at frame left turns before same k
jump-same code next other line target at frame left turns false before same k = ahead-same code next other line target at frame left turns before same k

turn-same : (code : CodeLists) (next other : Going) (line at : ℕ) (frame : Frame) (turns : ℕ)
    → at < length code.instructions → SameBelow code next other (bound code at frame turns)
    → (spent line turns >>= (λ left. next (suc at) frame left)) ≡ (spent line turns >>= (λ left. other (suc at) frame left))
turn-same code next other line at frame zero before same = refl
turn-same code next other line at frame (suc turns) before same = same (suc at) frame turns (with-turn turns (length frame.units) (length code.instructions) at (suc at))

back-same : (code : CodeLists) (next other : Going) (line target at : ℕ) (frame : Frame) (turns : ℕ)
    → SameBelow code next other (bound code at frame turns)
    → (spent line turns >>= (λ left. next target frame left)) ≡ (spent line turns >>= (λ left. other target frame left))
back-same code next other line target at frame zero same = refl
back-same code next other line target at frame (suc turns) same = same target frame turns (with-turn turns (length frame.units) (length code.instructions) at target)

called-same : (code : CodeLists) (next other : Going) (line : ℕ) (entry : Option ℕ) (procedure count at : ℕ) (frame : Frame) (turns : ℕ)
    → SameBelow code next other (bound code at frame turns)
    → called code next line entry procedure count at frame turns ≡ called code other line entry procedure count at frame turns
called-same code next other line None procedure count at frame turns same = refl
called-same code next other line (Some entry) procedure count at frame turns same =
    same-then (KeptBeside frame) (items_off line count frame) _ _ (items-kept line count frame)
    (λ w kept. same-then Any (passed_to line (plan_numbered code procedure).dummies w.0) _ _ (gives-any (passed_to line (plan_numbered code procedure).dummies w.0))
    (λ passed any. same-then Any (deepened line w.1) _ _ (gives-any (deepened line w.1))
    (λ allowed also. spending w.1 kept passed turns same)))
  where
    entering-so : (below : Frame) → Kept frame below → (passed : List Passed) → (turns : ℕ) → SameBelow code next other (bound code at frame (suc turns))
        → (cleared : Frame) → Kept below cleared
        → next entry (entered (fresh_unit code procedure passed (suc at)) cleared) turns ≡ other entry (entered (fresh_unit code procedure passed (suc at)) cleared) turns
    entering-so below kept passed turns same cleared k =
        same entry (entered (fresh_unit code procedure passed (suc at)) cleared) turns
        (subst (λ units. (2 * turns + units) * suc (length code.instructions) + (length code.instructions - entry) < bound code at frame (suc turns))
        (sym (length-snoc cleared.units (fresh_unit code procedure passed (suc at)) ∙ ap suc (k ∙ kept)))
        (entering turns (length frame.units) (length code.instructions) at entry))

    spending : (below : Frame) → Kept frame below → (passed : List Passed) → (turns : ℕ) → SameBelow code next other (bound code at frame turns)
        → (spent line turns >>= (λ left. all_forgotten_out code line (plan_numbered code procedure).dummies passed below >>= (λ cleared. next entry (entered (fresh_unit code procedure passed (suc at)) cleared) left)))
        ≡ (spent line turns >>= (λ left. all_forgotten_out code line (plan_numbered code procedure).dummies passed below >>= (λ cleared. other entry (entered (fresh_unit code procedure passed (suc at)) cleared) left)))
    spending below kept passed zero same = refl
    spending below kept passed (suc turns) same =
        same-then (Kept below) (all_forgotten_out code line (plan_numbered code procedure).dummies passed below) _ _ (all_forgotten_out-kept code line (plan_numbered code procedure).dummies passed below)
        (entering-so below kept passed turns same)

returned-same : (code : CodeLists) (next other : Going) (line at : ℕ) (frame : Frame) (turns : ℕ)
    → SameBelow code next other (bound code at frame turns) → returned next line frame turns ≡ returned other line frame turns
returned-same code next other line at frame turns same = by (nat_lt 1 (length frame.units)) refl
  where
    fewer : nat_lt 1 (length frame.units) ≡ true → length frame.units ≡ suc (length (left_unit frame).units)
    fewer e = left-length frame e

    by : (b : Bool) → nat_lt 1 (length frame.units) ≡ b → returned next line frame turns ≡ returned other line frame turns
    by true e = rw e (same (innermost frame).back (left_unit frame) turns
        (subst (λ units. bound code (innermost frame).back (left_unit frame) turns < (2 * turns + units) * suc (length code.instructions) + (length code.instructions - at))
        (sym (fewer e)) (leaving turns (length (left_unit frame).units) (length code.instructions) at (innermost frame).back)))
    by false e = rw e refl

pub act-same : (code : CodeLists) (next other : Going) (line : ℕ) (what : What) (at : ℕ) (frame : Frame) (turns : ℕ)
    → at < length code.instructions → SameBelow code next other (bound code at frame turns) → act code next line what at frame turns ≡ act code other line what at frame turns
act-same code next other line (What.Const kind n) at frame turns before same = at-next code next other at frame _ turns before same refl
act-same code next other line (What.Truth n) at frame turns before same = at-next code next other at frame _ turns before same refl
act-same code next other line What.Drop at frame turns before same =
    same-then (KeptBeside frame) (item_off line frame) _ _ (item-kept line frame) (λ w kept. at-next code next other at frame w.1 turns before same kept)
act-same code next other line (What.Arith op kind) at frame turns before same = behind-same code next other at frame turns _ before same (computed-kept (takes_one op) line op kind frame)
act-same code next other line (What.Wrap kind) at frame turns before same = behind-same code next other at frame turns _ before same (one-kept line _ frame)
act-same code next other line (What.Compare r) at frame turns before same = behind-same code next other at frame turns _ before same (two-kept line _ frame)
act-same code next other line What.And at frame turns before same = behind-same code next other at frame turns _ before same (two-kept line _ frame)
act-same code next other line What.Or at frame turns before same = behind-same code next other at frame turns _ before same (two-kept line _ frame)
act-same code next other line What.Eqv at frame turns before same = behind-same code next other at frame turns _ before same (two-kept line _ frame)
act-same code next other line What.Neqv at frame turns before same = behind-same code next other at frame turns _ before same (two-kept line _ frame)
act-same code next other line What.Not at frame turns before same = behind-same code next other at frame turns _ before same (one-kept line _ frame)
act-same code next other line What.Merge at frame turns before same = behind-same code next other at frame turns _ before same (merged-kept line frame)
act-same code next other line (What.Subscript v) at frame turns before same = behind-same code next other at frame turns _ before same (positioned-kept line _ frame)
act-same code next other line (What.SubscriptSlot s) at frame turns before same = behind-same code next other at frame turns _ before same (positioned-kept line _ frame)
act-same code next other line (What.Load v) at frame turns before same = behind-same code next other at frame turns _ before same (loaded-kept code line frame (outer_place line v frame) (outer-kept line v frame))
act-same code next other line (What.LoadSlot s) at frame turns before same = behind-same code next other at frame turns _ before same (loaded-kept code line frame (slot_place line s frame) (slot-kept line s frame))
act-same code next other line (What.Store v) at frame turns before same = behind-same code next other at frame turns _ before same (stored-kept code line frame (outer_place line v frame) (outer-kept line v frame))
act-same code next other line (What.StoreSlot s) at frame turns before same = behind-same code next other at frame turns _ before same (stored-kept code line frame (slot_place line s frame) (slot-kept line s frame))
act-same code next other line (What.Forget v) at frame turns before same = behind-same code next other at frame turns _ before same (undefined-kept code line frame (outer_place line v frame) (outer-kept line v frame))
act-same code next other line (What.ForgetSlot s) at frame turns before same = behind-same code next other at frame turns _ before same (undefined-kept code line frame (slot_place line s frame) (slot-kept line s frame))
act-same code next other line (What.PlaceOf v) at frame turns before same = behind-same code next other at frame turns _ before same (pushed-kept frame (outer_place line v frame) (outer-kept line v frame))
act-same code next other line (What.PlaceOfSlot s) at frame turns before same = behind-same code next other at frame turns _ before same (pushed-kept frame (slot_place line s frame) (slot-kept line s frame))
act-same code next other line (What.PlaceOfDummy d) at frame turns before same = behind-same code next other at frame turns _ before same (pushed-kept frame (dummy_place line frame (dummy frame d)) (dummy-kept line frame (dummy frame d)))
act-same code next other line (What.LoadDummy d) at frame turns before same = behind-same code next other at frame turns _ before same (dummy_load-kept code line frame (dummy frame d))
act-same code next other line (What.StoreDummy d) at frame turns before same = behind-same code next other at frame turns _ before same (dummy_store-kept code line d frame (dummy frame d))
act-same code next other line (What.Fill v) at frame turns before same = behind-same code next other at frame turns _ before same (filled-kept code line v frame)
act-same code next other line (What.FillSlot s) at frame turns before same = behind-same code next other at frame turns _ before same (slots_filled-kept code line s frame)
act-same code next other line (What.Fold f v) at frame turns before same = behind-same code next other at frame turns _ before same (folding-kept code line f v _ frame)
act-same code next other line (What.FoldSlot f s) at frame turns before same = behind-same code next other at frame turns _ before same (slot_folding-kept line f s _ frame)
act-same code next other line (What.Contribute op v) at frame turns before same = behind-same code next other at frame turns _ before same (contributed-kept code line op v frame)
act-same code next other line (What.Jump t) at frame turns before same = ahead-same code next other line t at frame frame turns before same refl
act-same code next other line (What.JumpFalse t) at frame turns before same =
    same-then (KeptBeside frame) (value_off line frame) _ _ (value-kept line frame) (λ w kept. jump-same code next other line t at frame w.1 turns (truth w.0) before same kept)
act-same code next other line What.Turn at frame turns before same = turn-same code next other line at frame turns before same
act-same code next other line (What.Back t) at frame turns before same = back-same code next other line t at frame turns same
act-same code next other line (What.Count kind) at frame turns before same = behind-same code next other at frame turns _ before same (counted-kept line frame)
act-same code next other line (What.Call p n) at frame turns before same = called-same code next other line _ _ n at frame turns same
act-same code next other line What.Return at frame turns before same = returned-same code next other line at frame turns same
act-same code next other line What.LoadResult at frame turns before same = behind-same code next other at frame turns _ before same (result-kept line frame)
act-same code next other line What.PutNumber at frame turns before same = behind-same code next other at frame turns _ before same (value_put-kept line (whole Kind.K8) frame)
act-same code next other line What.PutTruth at frame turns before same = behind-same code next other at frame turns _ before same (value_put-kept line logical frame)
act-same code next other line (What.PutChars x) at frame turns before same = behind-same code next other at frame turns _ before same (text_put-kept line _ frame)
act-same code next other line (What.PutAll v) at frame turns before same = behind-same code next other at frame turns _ before same (all_put-kept code line v _ frame)
act-same code next other line What.PutEnd at frame turns before same = λ i. pause (write_line line (frame.line ++ 10 ∷ [])) (λ told. at-next code next other at frame (with_line [] false frame) turns before same refl i)
act-same code next other line (What.TakeNumber kind) at frame turns before same = λ i. pause (take_value line (whole kind)) (λ told. at-next code next other at frame (pushed (Item.Value told) frame) turns before same refl i)
act-same code next other line What.TakeTruth at frame turns before same = λ i. pause (take_value line logical) (λ told. at-next code next other at frame (pushed (Item.Value told) frame) turns before same refl i)
act-same code next other line (What.TakeAll v) at frame turns before same = λ i. pause (take_elements line (sort_of_variable code v) (elements_of_variable code v)) (λ told. at-next code next other at frame frame turns before same refl i)
act-same code next other line (What.TakeEnd n) at frame turns before same = λ i. pause (end_reading line n) (λ told. at-next code next other at frame frame turns before same refl i)
act-same code next other line (What.Enter c) at frame turns before same =
    λ i. pause (enter_loop c turns []) (λ told. same (suc at) frame (min (natural told) turns) (fewer (min (natural told) turns) turns (length frame.units) (length code.instructions) at (min-right (natural told) turns) before) i)
act-same code next other line What.End at frame turns before same = refl
act-same code next other line What.Stop at frame turns before same = λ i. pause (stop) (λ told. at-next code next other at frame frame turns before same refl i)
act-same code next other line What.ErrorStop at frame turns before same = refl

-- ---- the machine

inside : {A : Type 0} (items : List A) (at : ℕ) (item : A) → slice_get items at ≡ Some item → at < length items
inside [] zero item e = absurd (none-some item e)
inside [] (suc at) item e = absurd (none-some item e)
inside (first ∷ items) zero item e = omega arith
inside (first ∷ items) (suc at) item e = below at (length items) (inside items at item e)
  where
    below : (m n : ℕ) → m < n → suc m < suc n
    below m n less = omega (arith, less)

pub fetched-same : (code : CodeLists) (next other : Going) (found : Option Instr) (at : ℕ) (frame : Frame) (turns : ℕ)
    → slice_get code.instructions at ≡ found → SameBelow code next other (bound code at frame turns) → fetched code next found at frame turns ≡ fetched code other found at frame turns
fetched-same code next other None at frame turns e same = refl
fetched-same code next other (Some instr) at frame turns e same = act-same code next other instr.line instr.what at frame turns (inside code.instructions at instr e) same

-- More steps than the bound change nothing.
settled-steps : (code : CodeLists) (m n : ℕ) (at : ℕ) (frame : Frame) (turns : ℕ)
    → bound code at frame turns < m → bound code at frame turns < n → steps code m at frame turns ≡ steps code n at frame turns
settled-steps code zero n at frame turns less also = absurd (omega (arith, less))
settled-steps code (suc m) zero at frame turns less also = absurd (omega (arith, also))
settled-steps code (suc m) (suc n) at frame turns less also =
    fetched-same code (steps code m) (steps code n) (slice_get code.instructions at) at frame turns refl
    (λ then_at left fewer lower. settled-steps code m n then_at left fewer (omega (arith, lower, less)) (omega (arith, lower, also)))

pub unfolds : (code : CodeLists) (at : ℕ) (frame : Frame) (turns : ℕ)
    → machine code at frame turns ≡ fetched code (machine code) (slice_get code.instructions at) at frame turns
unfolding machine
unfolds code at frame turns =
    fetched-same code (steps code (bound code at frame turns)) (machine code) (slice_get code.instructions at) at frame turns refl
    (λ then_at left fewer lower. settled-steps code (bound code at frame turns) (suc (bound code then_at left fewer)) then_at left fewer lower (omega arith))
