-- Whole arrays: the machine reads their elements as SUM, COUNT, ANY and ALL do.
use Rattle.std.proofs.Common.{◌≡◌, ◌<◌, ℕ, zero, suc, ◌+◌, ◌-◌, cond, List, [], ◌∷◌, length, Option, Some, None, refl, sym, ap, ◌∙◌, arith}
use Rattle.std.specs.List.{range_with_len}
use Rattle.std.specs.Prelude.{ℤ, map, ◌≤◌, is_some}
use Rattle.dc_int.specs.Sorts.{Sort}
use Rattle.dc_int.specs.Store.{Bounds, elements_in}
use Rattle.dc_code.specs.Computation.{give, read, sequence}
use Rattle.dc_code.specs.Troubles.{Computing}
use Rattle.dc_code.specs.declared.frame.Item.{Item}
use Rattle.dc_code.specs.declared.frame.Place.{Place}
use Rattle.dc_code.specs.declared.instr.What.{What}
use Rattle.dc_code.specs.Codes.{CodeLists, element, elements_of_shape}
use Rattle.dc_code.specs.Frames.{Frame, pushed, level, slot_of}
use Rattle.dc_code.specs.declared.instr.Folding.{Folding}
use Rattle.dc_code.specs.Instructions.{Going, folded, folding_pushed, slot_folding_pushed, behind}
use Rattle.dc_code.specs.Operands.{required, stuck}
use Rattle.dc_code.specs.Reaching.{all_read, all_required}
use Rattle.dc_actions.specs.Placed.{StandAt, IsOutside, IsGroup}
use Rattle.dc_tree.specs.Entities.{outside, slots}
use Rattle.dc_meaning.specs.Acts as acts
use Rattle.dc_meaning.specs.Acts.{State}
use Rattle.dc_meaning.specs.Places.{place_of, whole_values}
use Rattle.dc_code.proofs.Sequences.{sequence-then}
use Rattle.dc_actions.proofs.Going.{GoesAs}
use Rattle.dc_actions.proofs.Placing.{stepped}
use Rattle.dc_actions.proofs.OperatorLaws.{plus-one, element-there}

-- ---- whole arrays

unfoldable pub outer_place_of : ℕ → ℕ → Place
outer_place_of variable position = Place.Outer (element variable position)

pub outer-places : (line variable : ℕ) (sort : Sort) (bounds : Bounds) (from many : ℕ) (state : State)
    → acts.for_each (place_of line (outside variable sort bounds)) (range_with_len from many) state ≡ give (map (outer_place_of variable) (range_with_len from many), state)
unfolding outer_place_of
outer-places line variable sort bounds from zero state = refl
outer-places line variable sort bounds from (suc many) state =
    ap (λ c. sequence c (λ w. give (Place.Outer (element variable from) ∷ w.0, w.1))) (outer-places line variable sort bounds (from + 1) many state)

pub reads-law : {B : Type 0} (code : CodeLists) (line variable : ℕ) (sort : Sort) (bounds : Bounds) (state : State) (is : IsOutside code variable sort bounds)
    → (from many : ℕ) → from + many ≤ elements_in bounds
    → (k : List ℤ → Computing B) (K : List ℤ × State → Computing B) → ((zs : List ℤ) → k zs ≡ K (zs, state))
    → sequence (all_read code line (map (element variable) (range_with_len from many))) k
    ≡ sequence (acts.for_each (acts.refer_to line) (map (outer_place_of variable) (range_with_len from many)) state) K
unfolding outer_place_of
reads-law code line variable sort bounds state is from zero within k K later = later []
reads-law {B} code line variable sort bounds state is from (suc many) within k K later =
    ap (λ (found : Option Sort). sequence (sequence (cond (is_some found) (read (element variable from) line (required line)) (stuck line)) further) k) (element-there is from here)
    ∙ (λ i. read (element variable from) line (λ z. answered (λ z. reads-law code line variable sort bounds state is (from + 1) many there (λ zs. k (z ∷ zs)) (λ v. K (z ∷ v.0, v.1)) (λ zs. later (z ∷ zs))) z i))
  where
    here : from < elements_in bounds
    here = omega (arith, within)

    there : from + 1 + many ≤ elements_in bounds
    there = omega (arith, within)

    further : ℤ → Computing (List ℤ)
    further z = sequence (all_read code line (map (element variable) (range_with_len (from + 1) many))) (λ zs. give (z ∷ zs))

    answered : ((z : ℤ) → sequence (all_read code line (map (element variable) (range_with_len (from + 1) many))) (λ zs. k (z ∷ zs))
        ≡ sequence (acts.for_each (acts.refer_to line) (map (outer_place_of variable) (range_with_len (from + 1) many)) state) (λ v. K (z ∷ v.0, v.1)))
        → (z : Option ℤ)
        → sequence (sequence (required line z) further) k
        ≡ sequence (sequence (acts.required line z state) (λ w. sequence (acts.for_each (acts.refer_to line) (map (outer_place_of variable) (range_with_len (from + 1) many)) w.1) (λ v. give (w.0 ∷ v.0, v.1)))) K
    answered deeper None = refl
    answered deeper (Some z) =
        sequence-then (all_read code line (map (element variable) (range_with_len (from + 1) many))) (λ zs. give (z ∷ zs)) k
        ∙ deeper z
        ∙ sym (sequence-then (acts.for_each (acts.refer_to line) (map (outer_place_of variable) (range_with_len (from + 1) many)) state) (λ v. give (z ∷ v.0, v.1)) K)

-- The instruction that folds an outside array gives what the function gives of its values.
pub fold-law : (code : CodeLists) (go : Going) (goes : GoesAs code go) (line at : ℕ) (frame : Frame) (state : State) (folding : Folding) (of_values : List ℤ → ℤ) (variable : ℕ) (sort : Sort) (bounds : Bounds)
    → IsOutside code variable sort bounds → ((is : IsOutside code variable sort bounds) (zs : List ℤ) → folded folding (is.shape).kind zs ≡ of_values zs)
    → StandAt code line at (What.Fold folding variable ∷ [])
    → (K : ℤ × State → Computing (Frame × ℕ))
    → ((z : ℤ) → go (at + 1) (pushed (Item.Value z) frame) state.turns ≡ K (z, state))
    → go at frame state.turns ≡ sequence (sequence (whole_values line (outside variable sort bounds) state) (λ w. give (of_values w.0, w.1))) K
fold-law code go goes line at frame state folding of_values variable sort bounds is same stand K later =
    stepped goes at (What.Fold folding variable) [] frame state.turns stand refl
    ∙ ap (λ found. behind go at state.turns (folding_pushed code line folding variable found frame)) is.shaped
    ∙ ap (λ found. sequence (sequence (all_read code line (map (element variable) (range_with_len 0 (elements_of_shape found)))) (λ zs. give (pushed (Item.Value (folded folding (is.shape).kind zs)) frame))) (λ left. go (suc at) left state.turns)) is.shaped
    ∙ ap (λ n. sequence (sequence (all_read code line (map (element variable) (range_with_len 0 n))) (λ zs. give (pushed (Item.Value (folded folding (is.shape).kind zs)) frame))) (λ left. go (suc at) left state.turns)) is.elements
    ∙ sequence-then (all_read code line (map (element variable) (range_with_len 0 (elements_in bounds)))) (λ zs. give (pushed (Item.Value (folded folding (is.shape).kind zs)) frame)) (λ left. go (suc at) left state.turns)
    ∙ reads-law code line variable sort bounds state is 0 (elements_in bounds) (omega arith) (λ zs. go (suc at) (pushed (Item.Value (folded folding (is.shape).kind zs)) frame) state.turns)
    (λ w. K (of_values w.0, w.1)) (λ zs. ap (λ z. go (suc at) (pushed (Item.Value z) frame) state.turns) (same is zs) ∙ ap (λ place. go place (pushed (Item.Value (of_values zs)) frame) state.turns) (plus-one at) ∙ later (of_values zs))
    ∙ sym (sequence-then (acts.for_each (acts.refer_to line) (map (outer_place_of variable) (range_with_len 0 (elements_in bounds))) state) (λ w. give (of_values w.0, w.1)) K)
    ∙ ap (λ c. sequence (sequence (sequence c (λ w. acts.for_each (acts.refer_to line) w.0 w.1)) (λ w. give (of_values w.0, w.1))) K) (sym (outer-places line variable sort bounds 0 (elements_in bounds) state))

unfoldable pub slot_place_of : ℕ → ℕ → ℕ → Place
slot_place_of frame group position = Place.InFrame frame group position

pub slot-places : (line group : ℕ) (sort : Sort) (bounds : Bounds) (from many : ℕ) (state : State)
    → acts.for_each (place_of line (slots group sort bounds)) (range_with_len from many) state
    ≡ give (map (slot_place_of (length state.frames - 1) group) (range_with_len from many), state)
unfolding slot_place_of
slot-places line group sort bounds from zero state = refl
slot-places line group sort bounds from (suc many) state =
    ap (λ c. sequence c (λ w. give (Place.InFrame (length state.frames - 1) group from ∷ w.0, w.1))) (slot-places line group sort bounds (from + 1) many state)

pub slot-reads-law : {B : Type 0} (line group : ℕ) (slot : ℕ → Option ℤ) (state : State)
    → ((position : ℕ) → slot position ≡ acts.slot_of state.frames (length state.frames - 1) group position)
    → (from many : ℕ) (k : List ℤ → Computing B) (K : List ℤ × State → Computing B) → ((zs : List ℤ) → k zs ≡ K (zs, state))
    → sequence (all_required line (map slot (range_with_len from many))) k
    ≡ sequence (acts.for_each (acts.refer_to line) (map (slot_place_of (length state.frames - 1) group) (range_with_len from many)) state) K
unfolding slot_place_of
slot-reads-law line group slot state same from zero k K later = later []
slot-reads-law {B} line group slot state same from (suc many) k K later =
    ap (λ z. sequence (sequence (required line z) further) k) (same from)
    ∙ answered (λ z. slot-reads-law line group slot state same (from + 1) many (λ zs. k (z ∷ zs)) (λ v. K (z ∷ v.0, v.1)) (λ zs. later (z ∷ zs))) (acts.slot_of state.frames (length state.frames - 1) group from)
  where
    further : ℤ → Computing (List ℤ)
    further z = sequence (all_required line (map slot (range_with_len (from + 1) many))) (λ zs. give (z ∷ zs))

    answered : ((z : ℤ) → sequence (all_required line (map slot (range_with_len (from + 1) many))) (λ zs. k (z ∷ zs))
        ≡ sequence (acts.for_each (acts.refer_to line) (map (slot_place_of (length state.frames - 1) group) (range_with_len (from + 1) many)) state) (λ v. K (z ∷ v.0, v.1)))
        → (z : Option ℤ)
        → sequence (sequence (required line z) further) k
        ≡ sequence (sequence (acts.required line z state) (λ w. sequence (acts.for_each (acts.refer_to line) (map (slot_place_of (length state.frames - 1) group) (range_with_len (from + 1) many)) w.1) (λ v. give (w.0 ∷ v.0, v.1)))) K
    answered deeper None = refl
    answered deeper (Some z) =
        sequence-then (all_required line (map slot (range_with_len (from + 1) many))) (λ zs. give (z ∷ zs)) k
        ∙ deeper z
        ∙ sym (sequence-then (acts.for_each (acts.refer_to line) (map (slot_place_of (length state.frames - 1) group) (range_with_len (from + 1) many)) state) (λ v. give (z ∷ v.0, v.1)) K)

pub fold-slot-law : (code : CodeLists) (go : Going) (goes : GoesAs code go) (line at : ℕ) (frame : Frame) (state : State) (folding : Folding) (of_values : List ℤ → ℤ) (group : ℕ) (sort : Sort) (bounds : Bounds)
    → IsGroup code frame state group sort bounds → ((is : IsGroup code frame state group sort bounds) (zs : List ℤ) → folded folding (is.planned).kind zs ≡ of_values zs)
    → StandAt code line at (What.FoldSlot folding group ∷ [])
    → (K : ℤ × State → Computing (Frame × ℕ))
    → ((z : ℤ) → go (at + 1) (pushed (Item.Value z) frame) state.turns ≡ K (z, state))
    → go at frame state.turns ≡ sequence (sequence (whole_values line (slots group sort bounds) state) (λ w. give (of_values w.0, w.1))) K
fold-slot-law code go goes line at frame state folding of_values group sort bounds is same stand K later =
    stepped goes at (What.FoldSlot folding group) [] frame state.turns stand refl
    ∙ ap (λ found. behind go at state.turns (slot_folding_pushed line folding group found frame)) is.plan
    ∙ ap (λ states. sequence (sequence (all_required line states) (λ zs. give (pushed (Item.Value (folded folding (is.planned).kind zs)) frame))) (λ left. go (suc at) left state.turns)) is.all
    ∙ sequence-then (all_required line (map slot (range_with_len 0 (elements_in bounds)))) (λ zs. give (pushed (Item.Value (folded folding (is.planned).kind zs)) frame)) (λ left. go (suc at) left state.turns)
    ∙ slot-reads-law line group slot state is.same 0 (elements_in bounds) (λ zs. go (suc at) (pushed (Item.Value (folded folding (is.planned).kind zs)) frame) state.turns)
    (λ w. K (of_values w.0, w.1)) (λ zs. ap (λ z. go (suc at) (pushed (Item.Value z) frame) state.turns) (same is zs) ∙ ap (λ place. go place (pushed (Item.Value (of_values zs)) frame) state.turns) (plus-one at) ∙ later (of_values zs))
    ∙ sym (sequence-then (acts.for_each (acts.refer_to line) (map (slot_place_of (length state.frames - 1) group) (range_with_len 0 (elements_in bounds))) state) (λ w. give (of_values w.0, w.1)) K)
    ∙ ap (λ c. sequence (sequence (sequence c (λ w. acts.for_each (acts.refer_to line) w.0 w.1)) (λ w. give (of_values w.0, w.1))) K) (sym (slot-places line group sort bounds 0 (elements_in bounds) state))
  where
    slot : ℕ → Option ℤ
    slot position = slot_of frame.units (level frame) group position
