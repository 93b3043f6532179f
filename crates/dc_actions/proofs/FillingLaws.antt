-- The instructions of an assignment of a list keep each value in a slot, and then hand all on to the elements.
use Rattle.std.proofs.Common.{◌≡◌, ◌<◌, ◌≤◌, ℕ, suc, ◌+◌, true, ◌&&◌, List, [], ◌∷◌, ◌++◌, length, map, zip, Option, Some, refl, sym, ap, ◌∙◌, subst, arith}
use Rattle.std.proofs.lemmas.Bool.{eqb-true, false≢true}
use Rattle.std.specs.List.{range_with_len}
use Rattle.std.specs.Prelude.{ℤ, pos}
use Rattle.dc_int.specs.declared.kind.Kind.{Kind}
use Rattle.dc_int.specs.Sorts.{Sort, whole, logical, fitted}
use Rattle.dc_int.specs.Store.{Bounds, elements_in, position_in}
use Rattle.dc_code.specs.declared.frame.Item.{Item}
use Rattle.dc_code.specs.declared.frame.Place.{Place}
use Rattle.dc_code.specs.declared.instr.What.{What}
use Rattle.dc_code.specs.Codes.{CodeLists, element}
use Rattle.dc_code.specs.Computation.{give, define, sequence}
use Rattle.dc_code.specs.Frames.{Frame, pushed, level, slot_of}
use Rattle.dc_code.specs.Instructions.{Going, behind}
use Rattle.dc_code.specs.Machine.{machine}
use Rattle.dc_code.specs.Operands.{required, values_off}
use Rattle.dc_code.specs.Reaching.{positioned, within_bounds, group_planned, group_bounds, group_slots, group_sort, slot_sort, fitted_to, defined_as}
use Rattle.dc_code.specs.Troubles.{Computing}
use Rattle.dc_tree.specs.Entities.{Entity, outside, slots, dummy, constant, function, subroutine, reduction, nothing, Scope, entity}
use Rattle.dc_tree.specs.Statements.{Name}
use Rattle.dc_tree.specs.Syntax.{Tree}
use Rattle.dc_tree.specs.Typing.{sort_of, sort_of_entity}
use Rattle.dc_meaning.specs.Actions.{Flow, on, filling}
use Rattle.dc_meaning.specs.Acts as acts
use Rattle.dc_meaning.specs.Acts.{State}
use Rattle.dc_meaning.specs.Places.{whole_of}
use Rattle.dc_meaning.specs.Values.{Callee, value, all_values}
use Rattle.dc_code.proofs.Sequences.{sequence-then}
use Rattle.dc_actions.specs.Assigning.{conversion_code, slot_code, keeping_code, element_code, handing_code, filling_code, kept_group, all_usable, takes_list}
use Rattle.dc_actions.specs.Expressions.{value_code}
use Rattle.dc_actions.specs.Placed.{StandAt, HaveNames, HaveKept, IsOutside, Alike}
use Rattle.dc_actions.specs.Subscripts.{subscripts_at}
use Rattle.dc_actions.proofs.Converting.{Converts, fitted-twice, conversion-law}
use Rattle.dc_actions.proofs.Expressions.{behind-two, value-law}
use Rattle.dc_actions.proofs.Going.{GoesAs, blank_frame, leaving_turns, leaving-goes, turns_left}
use Rattle.dc_actions.proofs.Kept.{Apart, put_slot, put-alike, put-there, put-before, same-alike, alike-then, alike-planned, alike-names, unit-there}
use Rattle.dc_actions.proofs.Facts.{both-true}
use Rattle.dc_actions.proofs.OperatorLaws.{all_pushed, taken-all, element-there, plus-one, plus-none, sequence-give}
use Rattle.dc_actions.proofs.Placing.{stand-left, stand-right, stand-rest, stepped}
use Rattle.dc_actions.proofs.Subscripts.{leads_back, as_many_subscripts, counted_from_one, counted_elements, kept-bounds}
use Rattle.dc_actions.proofs.Wholes.{outer_place_of, outer-places}
use Rattle.std.proofs.lemmas.List.{length-append}

two-on : (at : ℕ) → suc (suc at) ≡ at + 2
two-on at = omega arith

-- ---- a slot of the group

kept-sort : (sort : Sort) (count : ℕ) → group_sort (Some (kept_group sort count)) ≡ Some sort
kept-sort (whole its_kind) count = refl
kept-sort logical count = refl

place-law : (code : CodeLists) (go : Going) (goes : GoesAs code go) (line at : ℕ) (frame : Frame) (turns group before : ℕ) (sort : Sort) (count : ℕ)
    → group_planned code frame group ≡ Some (kept_group sort count) → before < count → StandAt code line at (slot_code group before)
    → go at frame turns ≡ go (at + 2) (pushed (Item.Position before) frame) turns
place-law code go goes line at frame turns group before sort count planned within stand =
    stepped goes at (What.Const Kind.K4 (pos (suc before))) (What.SubscriptSlot group ∷ []) frame turns stand refl
    ∙ stepped goes (suc at) (What.SubscriptSlot group) [] counted turns (stand-rest at (What.Const Kind.K4 (pos (suc before))) (What.SubscriptSlot group ∷ []) stand) refl
    ∙ ap (λ found. behind go (suc at) turns (positioned line (group_bounds found) counted)) planned
    ∙ ap (λ (bounds : Bounds). behind go (suc at) turns (positioned line (Some bounds) counted)) (kept-bounds sort count)
    ∙ ap (λ found. sequence (sequence (within_bounds line found) (λ at. give (pushed (Item.Position at) frame))) (λ left. go (suc (suc at)) left turns)) (counted_from_one count before within)
    ∙ ap (λ place. go place (pushed (Item.Position before) frame) turns) (two-on at)
  where
    counted : Frame
    counted = pushed (Item.Value (pos (suc before))) frame

pub slot-sort : (code : CodeLists) (frame : Frame) (group at : ℕ) → at < length (group_slots frame group) → slot_sort code frame (level frame) group ≡ group_sort (group_planned code frame group)
slot-sort code frame group at within = let there = unit-there frame group at within in rw there.1 refl

keep-law : (code : CodeLists) (go : Going) (goes : GoesAs code go) (line at : ℕ) (frame : Frame) (turns group before : ℕ) (sort : Sort) (count : ℕ) (z : ℤ)
    → group_planned code frame group ≡ Some (kept_group sort count) → before < length (group_slots frame group) → StandAt code line at (What.StoreSlot group ∷ [])
    → go at (pushed (Item.Position before) (pushed (Item.Value z) frame)) turns ≡ go (at + 1) (put_slot group before (Some (fitted sort z)) frame) turns
keep-law code go goes line at frame turns group before sort count z planned within stand =
    stepped goes at (What.StoreSlot group) [] (pushed (Item.Position before) (pushed (Item.Value z) frame)) turns stand refl
    ∙ ap (λ taken. go (suc at) (put_slot group before (Some (fitted_to taken z)) frame) turns)
    (slot-sort code frame group before within ∙ ap group_sort planned ∙ kept-sort sort count)
    ∙ ap (λ place. go place (put_slot group before (Some (fitted sort z)) frame) turns) (plus-one at)

pub load-law : (code : CodeLists) (go : Going) (goes : GoesAs code go) (line at : ℕ) (frame : Frame) (turns group before : ℕ) (z : ℤ)
    → slot_of frame.units (level frame) group before ≡ Some z → StandAt code line at (What.LoadSlot group ∷ [])
    → go at (pushed (Item.Position before) frame) turns ≡ go (at + 1) (pushed (Item.Value z) frame) turns
load-law code go goes line at frame turns group before z held stand =
    stepped goes at (What.LoadSlot group) [] (pushed (Item.Position before) frame) turns stand refl
    ∙ ap (λ found. sequence (sequence (required line found) (λ z. give (pushed (Item.Value z) frame))) (λ left. go (suc at) left turns)) held
    ∙ ap (λ place. go place (pushed (Item.Value z) frame) turns) (plus-one at)

-- ---- the frame that keeps values

kept : ℕ → ℕ → Sort → List ℤ → Frame → Frame
kept group before sort [] frame = frame
kept group before sort (z ∷ zs) frame = kept group (suc before) sort zs (put_slot group before (Some (fitted sort z)) frame)

kept-alike : (group before : ℕ) (sort : Sort) (zs : List ℤ) (frame : Frame) → Alike group frame (kept group before sort zs frame)
unfolding kept
kept-alike group before sort [] frame = same-alike group frame
kept-alike group before sort (z ∷ zs) frame =
    alike-then (put-alike group group before (Some (fitted sort z)) frame (omega arith)) (kept-alike group (suc before) sort zs (put_slot group before (Some (fitted sort z)) frame))

abbrev pub held_at : Frame → ℕ → ℕ → Option ℤ
held_at frame group position = slot_of frame.units (level frame) group position

kept-before : (group before : ℕ) (sort : Sort) (zs : List ℤ) (frame : Frame) (position : ℕ) → position < before
    → held_at (kept group before sort zs frame) group position ≡ held_at frame group position
unfolding kept
kept-before group before sort [] frame position earlier = refl
kept-before group before sort (z ∷ zs) frame position earlier =
    kept-before group (suc before) sort zs (put_slot group before (Some (fitted sort z)) frame) position (omega (arith, earlier))
    ∙ put-before group before (Some (fitted sort z)) frame position earlier

-- Slots from one on hold these values, as a variable takes them.
abbrev Hold : Frame → ℕ → Sort → ℕ → List ℤ → Type 0
Hold frame group sort before [] = Unit {0}
Hold frame group sort before (z ∷ zs) = (held_at frame group before ≡ Some (fitted sort z)) × Hold frame group sort (suc before) zs

kept-hold : (group before : ℕ) (sort : Sort) (zs : List ℤ) (frame : Frame) → before + length zs ≤ length (group_slots frame group)
    → Hold (kept group before sort zs frame) group sort before zs
unfolding kept
kept-hold group before sort [] frame within = tt
kept-hold group before sort (z ∷ zs) frame within =
    let put = put_slot group before (Some (fitted sort z)) frame in
    let size : length (group_slots put group) ≡ length (group_slots frame group) = (put-alike group group before (Some (fitted sort z)) frame (omega arith)).sizes group in
    let here : before < length (group_slots frame group) = omega (arith, within) in
    let others : suc before + length zs ≤ length (group_slots put group) = omega (arith, within, size) in
    (kept-before group (suc before) sort zs put before (omega arith) ∙ put-there group before (Some (fitted sort z)) frame here, kept-hold group (suc before) sort zs put others)

-- ---- keeping

-- What a list needs of a frame: the names, and a group behind theirs.
record Ready (code : CodeLists) (scope : Scope) (frame : Frame) (state : State) (group : ℕ) (sort : Sort) (count : ℕ) : Type 0 where
  names : HaveNames code scope frame state
  apart : Apart scope group
  planned : group_planned code frame group ≡ Some (kept_group sort count)
  sized : length (group_slots frame group) ≡ count

alike-ready : {code : CodeLists} {scope : Scope} {one other : Frame} {state : State} {group : ℕ} {sort : Sort} {count : ℕ} → Alike group one other
    → Ready code scope one state group sort count → Ready code scope other state group sort count
alike-ready {code} {group = group} alike ready = record {
  names = alike-names alike ready.apart ready.names;
  apart = ready.apart;
  planned = alike-planned code alike group ∙ ready.planned;
  sized = alike.sizes group ∙ ready.sized;
}

-- A value on the stack is put in its slot.
one-law : (code : CodeLists) (go : Going) (goes : GoesAs code go) (scope : Scope) (line at : ℕ) (frame : Frame) (state : State) (given sort : Sort) (group before count : ℕ) (z : ℤ) (rest : List What)
    → Ready code scope frame state group sort count → before < count → StandAt code line at (conversion_code given sort ++ (slot_code group before ++ (What.StoreSlot group ∷ rest)))
    → go at (pushed (Item.Value z) frame) state.turns
    ≡ go (at + length (conversion_code given sort) + 2 + 1) (put_slot group before (Some (fitted sort z)) frame) state.turns
one-law code go goes scope line at frame state given sort group before count z rest ready within stand =
    converts.runs
    ∙ place-law code go goes line (at + length first) (pushed (Item.Value converts.value) frame) state.turns group before sort count ready.planned within (stand-left (slot_code group before) third behind_it)
    ∙ keep-law code go goes line (at + length first + 2) frame state.turns group before sort count converts.value ready.planned room
    (stand-left (What.StoreSlot group ∷ []) rest (stand-right (at + length first) (slot_code group before) third behind_it))
    ∙ ap (λ taken. go (at + length first + 2 + 1) (put_slot group before (Some taken) frame) state.turns) converts.fits
  where
    first : List What
    first = conversion_code given sort

    third : List What
    third = What.StoreSlot group ∷ rest

    behind_it : StandAt code line (at + length first) (slot_code group before ++ third)
    behind_it = stand-right at first (slot_code group before ++ third) stand

    converts : Converts go at frame state.turns given sort z
    converts = conversion-law code go goes line at frame state.turns given sort z (stand-left first (slot_code group before ++ third) stand)

    room : before < length (group_slots frame group)
    room = omega (arith, within, ready.sized)

keeping-law : (code : CodeLists) (go : Going) (goes : GoesAs code go) (scope : Scope) (call : Callee) (line at : ℕ) (frame : Frame) (state : State) (sort : Sort) (group before count : ℕ) (trees : List Tree)
    → Ready code scope frame state group sort count → before + length trees ≤ count → StandAt code line at (keeping_code scope sort group before trees) → all_usable scope trees ≡ true
    → (K : List ℤ × State → Computing (Frame × ℕ))
    → ((zs : List ℤ) → length zs ≡ length trees → go (at + length (keeping_code scope sort group before trees)) (kept group before sort zs frame) state.turns ≡ K (zs, state))
    → go at frame state.turns ≡ sequence (all_values scope call line trees state) K
unfolding kept
keeping-law code go goes scope call line at frame state sort group before count [] ready within stand so K later = ap (λ place. go place frame state.turns) (plus-none at) ∙ later [] refl
keeping-law code go goes scope call line at frame state sort group before count (tree ∷ trees) ready within stand so K later =
    let first = value_code scope tree in
    let second = conversion_code (sort_of scope tree) sort in
    let further = keeping_code scope sort group (suc before) trees in
    let rest = slot_code group before ++ (What.StoreSlot group ∷ further) in
    let here : before < count = omega (arith, within) in
    let others : suc before + length trees ≤ count = omega (arith, within) in
    let behind_value = stand-right at first (second ++ rest) stand in
    let behind_slot = stand-right (at + length first) second rest behind_value in
    value-law code go goes scope call line at frame state tree ready.names (stand-left first (second ++ rest) stand) (both-true so).0
    (λ w. sequence (sequence (all_values scope call line trees w.1) (λ v. give (w.0 ∷ v.0, v.1))) K)
    (λ z. one-law code go goes scope line (at + length first) frame state (sort_of scope tree) sort group before count z further ready here behind_value
    ∙ keeping-law code go goes scope call line (at + length first + length second + 2 + 1) (put_slot group before (Some (fitted sort z)) frame) state sort group (suc before) count trees
    (alike-ready (put-alike group group before (Some (fitted sort z)) frame (omega arith)) ready) others
    (stand-right (at + length first + length second + 2) (What.StoreSlot group ∷ []) further (stand-right (at + length first + length second) (slot_code group before) (What.StoreSlot group ∷ further) behind_slot))
    (both-true so).1 (λ v. K (z ∷ v.0, v.1))
    (λ zs long. ap (λ place. go place (kept group before sort (z ∷ zs) frame) state.turns) (behind-kept first second rest (length further) at refl) ∙ later (z ∷ zs) (ap suc long))
    ∙ sym (sequence-then (all_values scope call line trees state) (λ v. give (z ∷ v.0, v.1)) K))
    ∙ sym (sequence-then (value scope call line tree state) (λ w. sequence (all_values scope call line trees w.1) (λ v. give (w.0 ∷ v.0, v.1))) K)
  where
    behind-kept : (first second rest : List What) (n at : ℕ) → length rest ≡ suc (suc (suc n)) → at + length first + length second + 2 + 1 + n ≡ at + length (first ++ (second ++ rest))
    behind-kept first second rest n at e = omega (arith, e, length-append first (second ++ rest), length-append second rest)

-- ---- handing on

constants-law : (code : CodeLists) (go : Going) (goes : GoesAs code go) (line at : ℕ) (frame : Frame) (turns : ℕ) (zs : List ℤ) → StandAt code line at (map (λ z. What.Const Kind.K8 z) zs)
    → go at frame turns ≡ go (at + length zs) (all_pushed zs frame) turns
constants-law code go goes line at frame turns [] stand = ap (λ place. go place frame turns) (plus-none at)
constants-law code go goes line at frame turns (z ∷ zs) stand =
    stepped goes at (What.Const Kind.K8 z) (map (λ z. What.Const Kind.K8 z) zs) frame turns stand refl
    ∙ constants-law code go goes line (suc at) (pushed (Item.Value z) frame) turns zs (stand-rest at (What.Const Kind.K8 z) (map (λ z. What.Const Kind.K8 z) zs) stand)
    ∙ ap (λ place. go place (all_pushed zs (pushed (Item.Value z) frame)) turns) (one-on (length zs))
  where
    one-on : (n : ℕ) → suc at + n ≡ at + suc n
    one-on n = omega arith

subscripted-law : (code : CodeLists) (go : Going) (goes : GoesAs code go) (line at : ℕ) (frame : Frame) (turns variable : ℕ) (sort : Sort) (bounds : Bounds) (position : ℕ)
    → IsOutside code variable sort bounds → position < elements_in bounds → StandAt code line at (What.Subscript variable ∷ [])
    → go at (all_pushed (subscripts_at bounds position) frame) turns ≡ go (at + 1) (pushed (Item.Position position) frame) turns
subscripted-law code go goes line at frame turns variable sort bounds position is within stand =
    stepped goes at (What.Subscript variable) [] (all_pushed zs frame) turns stand refl
    ∙ ap (λ found. behind go at turns (positioned line found (all_pushed zs frame))) is.bounds
    ∙ ap (λ n. sequence (sequence (values_off line n (all_pushed zs frame)) positioning) (λ left. go (suc at) left turns)) (sym (as_many_subscripts bounds position))
    ∙ ap (λ c. sequence (sequence c positioning) (λ left. go (suc at) left turns)) (taken-all line zs frame)
    ∙ ap (λ found. sequence (sequence (within_bounds line found) (λ at. give (pushed (Item.Position at) frame))) (λ left. go (suc at) left turns)) (leads_back bounds position within)
    ∙ ap (λ place. go place (pushed (Item.Position position) frame) turns) (plus-one at)
  where
    zs : List ℤ
    zs = subscripts_at bounds position

    positioning : List ℤ × Frame → Computing Frame
    positioning w = sequence (within_bounds line (position_in bounds w.0)) (λ at. give (pushed (Item.Position at) w.1))

place_of_element : (code : CodeLists) (go : Going) (goes : GoesAs code go) (line at : ℕ) (frame : Frame) (turns variable : ℕ) (sort : Sort) (bounds : Bounds) (position : ℕ)
    → IsOutside code variable sort bounds → position < elements_in bounds → StandAt code line at (element_code variable bounds position)
    → go at frame turns ≡ go (at + length (element_code variable bounds position)) (pushed (Item.Position position) frame) turns
place_of_element code go goes line at frame turns variable sort bounds position is within stand =
    constants-law code go goes line at frame turns (subscripts_at bounds position) (stand-left first (What.Subscript variable ∷ []) stand)
    ∙ ap (λ n. go (at + n) (all_pushed (subscripts_at bounds position) frame) turns) (as-many (subscripts_at bounds position))
    ∙ subscripted-law code go goes line (at + length first) frame turns variable sort bounds position is within (stand-right at first (What.Subscript variable ∷ []) stand)
    ∙ ap (λ place. go place (pushed (Item.Position position) frame) turns) (behind-two first (What.Subscript variable ∷ []) at)
  where
    first : List What
    first = map (λ z. What.Const Kind.K8 z) (subscripts_at bounds position)

    as-many : (zs : List ℤ) → length zs ≡ length (map (λ z. What.Const Kind.K8 z) zs)
    as-many [] = refl
    as-many (z ∷ zs) = ap suc (as-many zs)

-- An element is defined with what a slot holds.
element-law : (code : CodeLists) (go : Going) (goes : GoesAs code go) (line at : ℕ) (frame : Frame) (turns variable : ℕ) (sort : Sort) (bounds : Bounds) (group before count : ℕ) (z : ℤ) (rest : List What)
    → IsOutside code variable sort bounds → before < elements_in bounds → group_planned code frame group ≡ Some (kept_group sort count) → before < count
    → held_at frame group before ≡ Some (fitted sort z)
    → StandAt code line at (slot_code group before ++ (What.LoadSlot group ∷ (element_code variable bounds before ++ (What.Store variable ∷ rest))))
    → go at frame turns ≡ define (element variable before) (fitted sort z) line (go (at + 2 + 1 + length (element_code variable bounds before) + 1) frame turns)
element-law code go goes line at frame turns variable sort bounds group before count z rest is inside planned within held stand =
    place-law code go goes line at frame turns group before sort count planned within (stand-left (slot_code group before) second stand)
    ∙ load-law code go goes line (at + 2) frame turns group before (fitted sort z) held (stand-left (What.LoadSlot group ∷ []) third behind_slot)
    ∙ place_of_element code go goes line (at + 2 + 1) (pushed (Item.Value (fitted sort z)) frame) turns variable sort bounds before is inside
    (stand-left (element_code variable bounds before) (What.Store variable ∷ rest) behind_load)
    ∙ stepped goes there (What.Store variable) rest (pushed (Item.Position before) (pushed (Item.Value (fitted sort z)) frame)) turns
    (stand-right (at + 2 + 1) (element_code variable bounds before) (What.Store variable ∷ rest) behind_load) refl
    ∙ ap (λ found. sequence (sequence (defined_as line (element variable before) (fitted sort z) found) (λ done. give frame)) (λ left. go (suc there) left turns)) (element-there is before inside)
    ∙ ap (λ taken. define (element variable before) taken line (go (suc there) frame turns)) (fitted-twice sort z)
    ∙ ap (λ place. define (element variable before) (fitted sort z) line (go place frame turns)) (plus-one there)
  where
    third : List What
    third = element_code variable bounds before ++ (What.Store variable ∷ rest)

    second : List What
    second = What.LoadSlot group ∷ third

    behind_slot : StandAt code line (at + 2) second
    behind_slot = stand-right at (slot_code group before) second stand

    behind_load : StandAt code line (at + 2 + 1) third
    behind_load = stand-right (at + 2) (What.LoadSlot group ∷ []) third behind_slot

    there : ℕ
    there = at + 2 + 1 + length (element_code variable bounds before)

abbrev stored_each : ℕ → Sort → List (Place × ℤ) → acts.Act (List Unit)
stored_each line sort pairs = acts.for_each (λ w. acts.store line w.0 (fitted sort w.1)) pairs

handing-law : (code : CodeLists) (go : Going) (goes : GoesAs code go) (line at : ℕ) (frame : Frame) (state : State) (variable : ℕ) (sort : Sort) (bounds : Bounds) (group before count : ℕ) (zs : List ℤ)
    → IsOutside code variable sort bounds → before + length zs ≤ elements_in bounds → group_planned code frame group ≡ Some (kept_group sort count) → before + length zs ≤ count
    → Hold frame group sort before zs → StandAt code line at (handing_code variable bounds group before (length zs))
    → (K : List Unit × State → Computing (Frame × ℕ))
    → ((done : List Unit) → go (at + length (handing_code variable bounds group before (length zs))) frame state.turns ≡ K (done, state))
    → go at frame state.turns ≡ sequence (stored_each line sort (zip (map (outer_place_of variable) (range_with_len before (length zs))) zs) state) K
unfolding outer_place_of
handing-law code go goes line at frame state variable sort bounds group before count [] is inside planned within hold stand K later =
    ap (λ place. go place frame state.turns) (plus-none at) ∙ later []
handing-law code go goes line at frame state variable sort bounds group before count (z ∷ zs) is inside planned within hold stand K later =
    let element_at = element_code variable bounds before in
    let further = handing_code variable bounds group (suc before) (length zs) in
    let here : before < elements_in bounds = omega (arith, inside) in
    let slot : before < count = omega (arith, within) in
    let others : suc before + length zs ≤ elements_in bounds = omega (arith, inside) in
    let slots : suc before + length zs ≤ count = omega (arith, within) in
    element-law code go goes line at frame state.turns variable sort bounds group before count z further is here planned slot hold.0 stand
    ∙ ap (define (element variable before) (fitted sort z) line)
    (handing-law code go goes line (at + 2 + 1 + length element_at + 1) frame state variable sort bounds group (suc before) count zs is others planned slots hold.1
    (stand-right (at + 2 + 1 + length element_at) (What.Store variable ∷ []) further
    (stand-right (at + 2 + 1) element_at (What.Store variable ∷ further)
    (stand-right (at + 2) (What.LoadSlot group ∷ []) (element_at ++ (What.Store variable ∷ further))
    (stand-right at (slot_code group before) (What.LoadSlot group ∷ (element_at ++ (What.Store variable ∷ further))) stand))))
    (λ v. K (tt ∷ v.0, v.1))
    (λ done. ap (λ place. go place frame state.turns) (behind-handed element_at further at) ∙ later (tt ∷ done))
    ∙ ap (λ from. sequence (stored_each line sort (zip (map (outer_place_of variable) (range_with_len from (length zs))) zs) state) (λ v. K (tt ∷ v.0, v.1))) (plus-one before)
    ∙ sym (sequence-then (stored_each line sort (zip (map (outer_place_of variable) (range_with_len (before + 1) (length zs))) zs) state) (λ v. give (tt ∷ v.0, v.1)) K))
  where
    behind-handed : (element_at further : List What) (at : ℕ)
        → at + 2 + 1 + length element_at + 1 + length further ≡ at + suc (suc (suc (length (element_at ++ (What.Store variable ∷ further)))))
    behind-handed element_at further at = omega (arith, length-append element_at (What.Store variable ∷ further))

-- ---- the statement

pub filling-law : (code : CodeLists) (go : Going) (goes : GoesAs code go) (scope : Scope) (call : Callee) (line at free : ℕ) (frame : Frame) (state : State) (text : Name) (trees : List Tree) (found : Entity)
    → entity scope text ≡ found → HaveNames code scope frame state → HaveKept code scope frame free (kept_group (sort_of_entity found) (length trees) ∷ [])
    → StandAt code line at (filling_code scope free trees found) → (all_usable scope trees && takes_list found (length trees)) ≡ true
    → (K : Flow × State → Computing (Frame × ℕ))
    → ((left : Frame) → Alike free frame left → go (at + length (filling_code scope free trees found)) left state.turns ≡ K (on, state))
    → go at frame state.turns ≡ sequence (filling scope call line trees found state) K
filling-law code go goes scope call line at free frame state text trees (outside variable sort bounds) e names kept_groups stand so K later =
    keeping-law code go goes scope call line at frame state sort free 0 (length trees) trees ready (omega arith) (stand-left first second stand) (both-true so).0
    (λ w. sequence (ending w) K)
    (λ zs long. handed zs long)
    ∙ sym (sequence-then (all_values scope call line trees state) ending K)
  where
    first : List What
    first = keeping_code scope sort free 0 trees

    second : List What
    second = handing_code variable bounds free 0 (length trees)

    as-many : length trees ≡ elements_in bounds
    as-many = eqb-true (length trees) (elements_in bounds) (both-true {a = all_usable scope trees} so).1

    ready : Ready code scope frame state free sort (length trees)
    ready = record {
      names = names;
      apart = kept_groups.apart;
      planned = ap (group_planned code frame) (plus-none free) ∙ kept_groups.planned 0 (kept_group sort (length trees)) refl;
      sized = ap (λ group. length (group_slots frame group)) (plus-none free) ∙ kept_groups.sized 0 (kept_group sort (length trees)) refl
          ∙ ap elements_in (kept-bounds sort (length trees)) ∙ counted_elements (length trees);
    }

    store_all : List ℤ → List Place × State → Computing (Flow × State)
    store_all zs v = sequence (stored_each line sort (zip v.0 zs) v.1) (λ u. give (on, u.1))

    ending : List ℤ × State → Computing (Flow × State)
    ending w = sequence (whole_of line (outside variable sort bounds) w.1) (store_all w.0)

    handed : (zs : List ℤ) → length zs ≡ length trees → go (at + length first) (kept free 0 sort zs frame) state.turns ≡ sequence (ending (zs, state)) K
    handed zs long =
        let alike = kept-alike free 0 sort zs frame in
        let fewer : 0 + length zs ≤ elements_in bounds = omega (arith, long, as-many) in
        let slots : 0 + length zs ≤ length trees = omega (arith, long) in
        let room : 0 + length zs ≤ length (group_slots frame free) = omega (arith, long, ready.sized) in
        handing-law code go goes line (at + length first) (kept free 0 sort zs frame) state variable sort bounds free 0 (length trees) zs (names.outer text variable sort bounds e) fewer
        (alike-planned code alike free ∙ ready.planned) slots (kept-hold free 0 sort zs frame room)
        (subst (λ n. StandAt code line (at + length first) (handing_code variable bounds free 0 n)) (sym long) (stand-right at first second stand))
        (λ v. K (on, v.1))
        (λ done. ap (λ n. go (at + length first + length (handing_code variable bounds free 0 n)) (kept free 0 sort zs frame) state.turns) long
        ∙ ap (λ place. go place (kept free 0 sort zs frame) state.turns) (behind-two first second at) ∙ later (kept free 0 sort zs frame) alike)
        ∙ ap (λ n. sequence (stored_each line sort (zip (map (outer_place_of variable) (range_with_len 0 n)) zs) state) (λ v. K (on, v.1))) (long ∙ as-many)
        ∙ sym (sequence-then (stored_each line sort (zip (map (outer_place_of variable) (range_with_len 0 (elements_in bounds))) zs) state) (λ u. give (on, u.1)) K)
        ∙ ap (λ c. sequence (sequence c (store_all zs)) K) (sym (outer-places line variable sort bounds 0 (elements_in bounds) state))
filling-law code go goes scope call line at free frame state text trees (slots group sort bounds) e names kept_groups stand so K later = absurd (false≢true (both-true {a = all_usable scope trees} so).1)
filling-law code go goes scope call line at free frame state text trees (constant sort z) e names kept_groups stand so K later = absurd (false≢true (both-true {a = all_usable scope trees} so).1)
filling-law code go goes scope call line at free frame state text trees (dummy place sort) e names kept_groups stand so K later = absurd (false≢true (both-true {a = all_usable scope trees} so).1)
filling-law code go goes scope call line at free frame state text trees (function procedure sort) e names kept_groups stand so K later = absurd (false≢true (both-true {a = all_usable scope trees} so).1)
filling-law code go goes scope call line at free frame state text trees (subroutine procedure intents) e names kept_groups stand so K later = absurd (false≢true (both-true {a = all_usable scope trees} so).1)
filling-law code go goes scope call line at free frame state text trees (reduction variable op sort bounds) e names kept_groups stand so K later = absurd (false≢true (both-true {a = all_usable scope trees} so).1)
filling-law code go goes scope call line at free frame state text trees nothing e names kept_groups stand so K later = absurd (false≢true (both-true {a = all_usable scope trees} so).1)

-- The law of a list in terms of the turns alone.
pub list-law : (code : CodeLists) (scope : Scope) (called : Callee) (line at free : ℕ) (frame : Frame) (state : State) (text : Name) (trees : List Tree)
    → HaveNames code scope frame state → HaveKept code scope frame free (kept_group (sort_of_entity (entity scope text)) (length trees) ∷ [])
    → StandAt code line at (filling_code scope free trees (entity scope text)) → (all_usable scope trees && takes_list (entity scope text) (length trees)) ≡ true
    → (K : Flow × State → Computing ℕ)
    → ((left : Frame) → Alike free frame left → sequence (machine code (at + length (filling_code scope free trees (entity scope text))) left state.turns) (λ w. give w.1) ≡ K (on, state))
    → sequence (machine code at frame state.turns) (λ w. give w.1) ≡ sequence (filling scope called line trees (entity scope text) state) K
list-law code scope called line at free frame state text trees names kept stand so K later =
    sym (sequence-then (machine code at frame state.turns) turns_left (λ w. give w.1))
    ∙ ap (λ c. sequence c (λ w. give w.1))
    (filling-law code (leaving_turns code) (leaving-goes code) scope called line at free frame state text trees (entity scope text) refl names kept stand so (λ w. sequence (K w) beside)
    (λ left alike. sym (sequence-then (machine code there left state.turns) (λ w. give w.1) beside) ∙ ap (λ c. sequence c beside) (later left alike)))
    ∙ sequence-then meant (λ w. sequence (K w) beside) (λ w. give w.1)
    ∙ (λ i. sequence meant (λ w. (sequence-then (K w) beside (λ v. give v.1) ∙ sequence-give (K w)) i))
  where
    there : ℕ
    there = at + length (filling_code scope free trees (entity scope text))

    meant : Computing (Flow × State)
    meant = filling scope called line trees (entity scope text) state

    beside : ℕ → Computing (Frame × ℕ)
    beside turns = turns_left (blank_frame, turns)
