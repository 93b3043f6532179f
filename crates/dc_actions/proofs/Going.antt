-- Runs that go on as the machine does: the machine, and the machine where the frame that it leaves is let go.
use Rattle.std.proofs.Common.{◌≡◌, ℕ, suc, Bool, true, false, [], Some, refl, ap, ◌∙◌}
use Rattle.std.proofs.lemmas.Bool.{false≢true}
use Rattle.std.specs.Prelude.{slice_get, not}
use Rattle.dc_code.specs.declared.instr.What.{What}
use Rattle.dc_code.specs.Codes.{CodeLists}
use Rattle.dc_code.specs.Computation.{give, sequence}
use Rattle.dc_code.specs.Frames.{Frame}
use Rattle.dc_code.specs.Instructions.{Going, act, arithmetic, behind, compares, contributed, counted, folding_pushed, merged, of_one, of_two, result_pushed, slot_folding_pushed, all_put, spent, text_put, value_put}
use Rattle.dc_code.specs.Machine.{machine, fetched}
use Rattle.dc_code.specs.Operands.{item_off}
use Rattle.dc_code.specs.Reaching.{positioned, group_planned, group_bounds, outer_place, slot_place, loaded, stored, forgotten, place_pushed, dummy, dummy_place, dummy_loaded, dummy_stored, filled, slots_filled}
use Rattle.dc_code.specs.Troubles.{Computing}
use Rattle.dc_int.specs.Kinds.{wrapped}
use Rattle.dc_int.specs.Reductions.{truth, number_of_truth, conjunction, disjunction, equivalence, non_equivalence}
use Rattle.dc_int.specs.Sorts.{whole, logical}
use Rattle.dc_int.specs.declared.kind.Kind.{Kind}
use Rattle.dc_code.proofs.Sequences.{sequence-then}
use Rattle.dc_code.proofs.Unfolding.{unfolds}

-- Behind an instruction the run goes on with the next one. It doesn't where the instruction jumps, calls or ends.
abbrev pub goes_behind : What → Bool
goes_behind (What.Jump t) = false
goes_behind (What.JumpFalse t) = false
goes_behind (What.Back t) = false
goes_behind (What.Call p n) = false
goes_behind What.Return = false
goes_behind What.End = false
goes_behind what = true

-- Such instructions are carried out as the machine does.
pub record GoesAs (code : CodeLists) (go : Going) : Type 0 where
  pub each
      : (at line : ℕ) (what : What) (frame : Frame) (turns : ℕ) → slice_get code.instructions at ≡ Some (record { line = line; what = what }) → goes_behind what ≡ true
      → go at frame turns ≡ act code go line what at frame turns

pub machine-step : (code : CodeLists) (at line : ℕ) (what : What) (frame : Frame) (turns : ℕ) → slice_get code.instructions at ≡ Some (record { line = line; what = what })
    → machine code at frame turns ≡ act code (machine code) line what at frame turns
machine-step code at line what frame turns here = unfolds code at frame turns ∙ ap (λ found. fetched code (machine code) found at frame turns) here

pub machine-goes : (code : CodeLists) → GoesAs code (machine code)
machine-goes code = record { each = λ at line what frame turns here behind. machine-step code at line what frame turns here }

-- ---- what is left of a run

abbrev pub after : Going → (Frame × ℕ → Computing (Frame × ℕ)) → Going
after go left at frame turns = sequence (go at frame turns) left

behind-then : (go : Going) (left : Frame × ℕ → Computing (Frame × ℕ)) (at turns : ℕ) (work : Computing Frame) → sequence (behind go at turns work) left ≡ behind (after go left) at turns work
behind-then go left at turns work = sequence-then work (λ frame. go (suc at) frame turns) left

pub act-then : (code : CodeLists) (go : Going) (left : Frame × ℕ → Computing (Frame × ℕ)) (line : ℕ) (what : What) (at : ℕ) (frame : Frame) (turns : ℕ) → goes_behind what ≡ true
    → sequence (act code go line what at frame turns) left ≡ act code (after go left) line what at frame turns
act-then code go left line (What.Const k n) at frame turns so = refl
act-then code go left line (What.Truth n) at frame turns so = refl
act-then code go left line What.Drop at frame turns so = sequence-then (item_off line frame) (λ w. go (suc at) w.1 turns) left
act-then code go left line (What.Arith op k) at frame turns so = behind-then go left at turns (arithmetic line op k frame)
act-then code go left line (What.Wrap k) at frame turns so = behind-then go left at turns (of_one line (wrapped k) frame)
act-then code go left line (What.Compare r) at frame turns so = behind-then go left at turns (of_two line (λ a b. number_of_truth (compares r a b)) frame)
act-then code go left line What.And at frame turns so = behind-then go left at turns (of_two line conjunction frame)
act-then code go left line What.Or at frame turns so = behind-then go left at turns (of_two line disjunction frame)
act-then code go left line What.Eqv at frame turns so = behind-then go left at turns (of_two line equivalence frame)
act-then code go left line What.Neqv at frame turns so = behind-then go left at turns (of_two line non_equivalence frame)
act-then code go left line What.Not at frame turns so = behind-then go left at turns (of_one line (λ a. number_of_truth (not (truth a))) frame)
act-then code go left line What.Merge at frame turns so = behind-then go left at turns (merged line frame)
act-then code go left line (What.Subscript v) at frame turns so = behind-then go left at turns (positioned line (slice_get code.bounds v) frame)
act-then code go left line (What.SubscriptSlot s) at frame turns so = behind-then go left at turns (positioned line (group_bounds (group_planned code frame s)) frame)
act-then code go left line (What.Load v) at frame turns so = behind-then go left at turns (loaded code line (outer_place line v frame))
act-then code go left line (What.LoadSlot s) at frame turns so = behind-then go left at turns (loaded code line (slot_place line s frame))
act-then code go left line (What.Store v) at frame turns so = behind-then go left at turns (stored code line (outer_place line v frame))
act-then code go left line (What.StoreSlot s) at frame turns so = behind-then go left at turns (stored code line (slot_place line s frame))
act-then code go left line (What.Forget v) at frame turns so = behind-then go left at turns (forgotten code line (outer_place line v frame))
act-then code go left line (What.ForgetSlot s) at frame turns so = behind-then go left at turns (forgotten code line (slot_place line s frame))
act-then code go left line (What.PlaceOf v) at frame turns so = behind-then go left at turns (place_pushed (outer_place line v frame))
act-then code go left line (What.PlaceOfSlot s) at frame turns so = behind-then go left at turns (place_pushed (slot_place line s frame))
act-then code go left line (What.PlaceOfDummy d) at frame turns so = behind-then go left at turns (place_pushed (dummy_place line frame (dummy frame d)))
act-then code go left line (What.LoadDummy d) at frame turns so = behind-then go left at turns (dummy_loaded code line frame (dummy frame d))
act-then code go left line (What.StoreDummy d) at frame turns so = behind-then go left at turns (dummy_stored code line d frame (dummy frame d))
act-then code go left line (What.Fill v) at frame turns so = behind-then go left at turns (filled code line v frame)
act-then code go left line (What.FillSlot s) at frame turns so = behind-then go left at turns (slots_filled code line s frame)
act-then code go left line (What.Fold f v) at frame turns so = behind-then go left at turns (folding_pushed code line f v (slice_get code.shapes v) frame)
act-then code go left line (What.FoldSlot f s) at frame turns so = behind-then go left at turns (slot_folding_pushed line f s (group_planned code frame s) frame)
act-then code go left line (What.Contribute op v) at frame turns so = behind-then go left at turns (contributed code line op v frame)
act-then code go left line What.Turn at frame turns so = sequence-then (spent line turns) (λ spared. go (suc at) frame spared) left
act-then code go left line (What.Count k) at frame turns so = behind-then go left at turns (counted line frame)
act-then code go left line What.LoadResult at frame turns so = behind-then go left at turns (result_pushed line frame)
act-then code go left line What.PutNumber at frame turns so = behind-then go left at turns (value_put line (whole Kind.K8) frame)
act-then code go left line What.PutTruth at frame turns so = behind-then go left at turns (value_put line logical frame)
act-then code go left line (What.PutChars x) at frame turns so = behind-then go left at turns (text_put line (slice_get code.texts x) frame)
act-then code go left line (What.PutAll v) at frame turns so = behind-then go left at turns (all_put code line v (slice_get code.shapes v) frame)
act-then code go left line What.PutEnd at frame turns so = refl
act-then code go left line (What.TakeNumber k) at frame turns so = refl
act-then code go left line What.TakeTruth at frame turns so = refl
act-then code go left line (What.TakeAll v) at frame turns so = refl
act-then code go left line (What.TakeEnd n) at frame turns so = refl
act-then code go left line (What.Enter c) at frame turns so = refl
act-then code go left line What.Stop at frame turns so = refl
act-then code go left line What.ErrorStop at frame turns so = refl
act-then code go left line (What.Jump t) at frame turns so = absurd (false≢true so)
act-then code go left line (What.JumpFalse t) at frame turns so = absurd (false≢true so)
act-then code go left line (What.Back t) at frame turns so = absurd (false≢true so)
act-then code go left line (What.Call p n) at frame turns so = absurd (false≢true so)
act-then code go left line What.Return at frame turns so = absurd (false≢true so)
act-then code go left line What.End at frame turns so = absurd (false≢true so)

-- The turns that a run leaves, beside a frame that is always the same.
abbrev pub blank_frame : Frame
blank_frame = record { stack = []; units = []; line = []; begun = false }

abbrev pub turns_left : Frame × ℕ → Computing (Frame × ℕ)
turns_left w = give (blank_frame, w.1)

abbrev pub leaving_turns : CodeLists → Going
leaving_turns code at frame turns = sequence (machine code at frame turns) turns_left

pub leaving-goes : (code : CodeLists) → GoesAs code (leaving_turns code)
leaving-goes code = record {
  each = λ at line what frame turns here behind.
      ap (λ c. sequence c turns_left) (machine-step code at line what frame turns here) ∙ act-then code (machine code) turns_left line what at frame turns behind;
}
