-- Runs that go on as the machine does at jumps too: the machine, and the machine where the frame that it leaves is let go.
use Rattle.std.proofs.Common.{◌≡◌, ◌<◌, ℕ, zero, suc, ◌+◌, Bool, true, false, cond, List, ◌∷◌, Some, refl, ap, ◌∙◌}
use Rattle.std.proofs.lemmas.Bool.{lt-ltb, false≢true}
use Rattle.std.specs.Prelude.{ℤ, slice_get, nat_lt}
use Rattle.dc_int.specs.Reductions.{truth}
use Rattle.dc_code.specs.declared.frame.Item.{Item}
use Rattle.dc_code.specs.declared.instr.What.{What}
use Rattle.dc_code.specs.Codes.{CodeLists}
use Rattle.dc_code.specs.Computation.{give, sequence}
use Rattle.dc_code.specs.Frames.{Frame, pushed}
use Rattle.dc_code.specs.Instructions.{Going, act, ahead, spent}
use Rattle.dc_code.specs.Machine.{machine}
use Rattle.dc_code.specs.Operands.{stuck, value_off}
use Rattle.dc_code.specs.Troubles.{Computing}
use Rattle.dc_code.proofs.Sequences.{sequence-then}
use Rattle.dc_actions.specs.Placed.{StandAt}
use Rattle.dc_actions.proofs.Going.{goes_behind, GoesAs, machine-step, after, act-then, turns_left, leaving_turns}
use Rattle.dc_actions.proofs.OperatorLaws.{plus-one}
use Rattle.dc_actions.proofs.Placing.{stand-first}

-- Behind an instruction the run goes on where it says, unless it calls or ends.
abbrev pub flows_behind : What → Bool
flows_behind (What.Call p n) = false
flows_behind What.Return = false
flows_behind What.End = false
flows_behind what = true

-- Such instructions are carried out as the machine does.
pub record FlowsAs (code : CodeLists) (go : Going) : Type 0 where
  pub each
      : (at line : ℕ) (what : What) (frame : Frame) (turns : ℕ) → slice_get code.instructions at ≡ Some (record { line = line; what = what }) → flows_behind what ≡ true
      → go at frame turns ≡ act code go line what at frame turns

goes-too : (what : What) → goes_behind what ≡ true → flows_behind what ≡ true
goes-too (What.Call p n) so = so
goes-too What.Return so = so
goes-too What.End so = so
goes-too what so = refl

pub flows-go : {code : CodeLists} {go : Going} → FlowsAs code go → GoesAs code go
flows-go flows = record { each = λ at line what frame turns here behind. flows.each at line what frame turns here (goes-too what behind) }

pub machine-flows : (code : CodeLists) → FlowsAs code (machine code)
machine-flows code = record { each = λ at line what frame turns here behind. machine-step code at line what frame turns here }

-- ---- what is left of a run

cond-then : {A B : Type 0} (b : Bool) (c d : Computing A) (left : A → Computing B) → sequence (cond b c d) left ≡ cond b (sequence c left) (sequence d left)
cond-then true c d left = refl
cond-then false c d left = refl

flow-then : (code : CodeLists) (go : Going) (left : Frame × ℕ → Computing (Frame × ℕ)) (line : ℕ) (what : What) (at : ℕ) (frame : Frame) (turns : ℕ) → flows_behind what ≡ true
    → sequence (act code go line what at frame turns) left ≡ act code (after go left) line what at frame turns
flow-then code go left line (What.Jump t) at frame turns so = cond-then (nat_lt at t) (go t frame turns) (stuck line) left
flow-then code go left line (What.JumpFalse t) at frame turns so =
    sequence-then (value_off line frame) (λ w. cond (truth w.0) (go (suc at) w.1 turns) (ahead go line t at w.1 turns)) left
    ∙ (λ i. sequence (value_off line frame) (λ w. tested w i))
  where
    tested : (w : ℤ × Frame) → sequence (cond (truth w.0) (go (suc at) w.1 turns) (ahead go line t at w.1 turns)) left
        ≡ cond (truth w.0) (after go left (suc at) w.1 turns) (ahead (after go left) line t at w.1 turns)
    tested w =
        cond-then (truth w.0) (go (suc at) w.1 turns) (ahead go line t at w.1 turns) left
        ∙ ap (λ c. cond (truth w.0) (after go left (suc at) w.1 turns) c) (cond-then (nat_lt at t) (go t w.1 turns) (stuck line) left)
flow-then code go left line (What.Back t) at frame turns so = sequence-then (spent line turns) (λ spared. go t frame spared) left
flow-then code go left line (What.Call p n) at frame turns so = absurd (false≢true so)
flow-then code go left line What.Return at frame turns so = absurd (false≢true so)
flow-then code go left line What.End at frame turns so = absurd (false≢true so)
flow-then code go left line what at frame turns so = act-then code go left line what at frame turns refl

pub leaving-flows : (code : CodeLists) → FlowsAs code (leaving_turns code)
leaving-flows code = record {
  each = λ at line what frame turns here behind.
      ap (λ c. sequence c turns_left) (machine-step code at line what frame turns here) ∙ flow-then code (machine code) turns_left line what at frame turns behind;
}

-- ---- jumps and turns

module _ {code : CodeLists} {go : Going} {line : ℕ} (flows : FlowsAs code go) (at : ℕ) (rest : List What) where
  pub jump-law : (place : ℕ) (frame : Frame) (turns : ℕ) → StandAt code line at (What.Jump place ∷ rest) → at < place → go at frame turns ≡ go place frame turns
  jump-law place frame turns stand before =
      flows.each at line (What.Jump place) frame turns (stand-first at (What.Jump place) rest stand) refl
      ∙ ap (λ b. cond b (go place frame turns) (stuck line)) (lt-ltb at place before)

  pub false-law : (place : ℕ) (frame : Frame) (turns : ℕ) (z : ℤ) → StandAt code line at (What.JumpFalse place ∷ rest) → at < place
      → go at (pushed (Item.Value z) frame) turns ≡ cond (truth z) (go (at + 1) frame turns) (go place frame turns)
  false-law place frame turns z stand before =
      flows.each at line (What.JumpFalse place) (pushed (Item.Value z) frame) turns (stand-first at (What.JumpFalse place) rest stand) refl
      ∙ ap (λ b. cond (truth z) (go (suc at) frame turns) (cond b (go place frame turns) (stuck line))) (lt-ltb at place before)
      ∙ ap (λ next. cond (truth z) (go next frame turns) (go place frame turns)) (plus-one at)

  pub turn-law : (frame : Frame) (turns : ℕ) → StandAt code line at (What.Turn ∷ rest) → go at frame turns ≡ sequence (spent line turns) (λ spared. go (at + 1) frame spared)
  turn-law frame turns stand =
      flows.each at line What.Turn frame turns (stand-first at What.Turn rest stand) refl
      ∙ ap (λ next. sequence (spent line turns) (λ spared. go next frame spared)) (plus-one at)

  pub back-law : (place : ℕ) (frame : Frame) (turns : ℕ) → StandAt code line at (What.Back place ∷ rest) → go at frame turns ≡ sequence (spent line turns) (λ spared. go place frame spared)
  back-law place frame turns stand = flows.each at line (What.Back place) frame turns (stand-first at (What.Back place) rest stand) refl
