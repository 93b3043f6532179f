-- A call: its arguments, its turn, and how the procedure is entered.
use Rattle.std.proofs.Common.{◌≡◌, ℕ, suc, ◌-◌, List, Some, sym, ap, ◌∙◌}
use Rattle.std.specs.Prelude.{slice_get, Err}
use Rattle.dc_int.specs.Entries.{Entry}
use Rattle.dc_int.specs.Store.{Store}
use Rattle.dc_code.specs.declared.frame.Passed.{Passed}
use Rattle.dc_code.specs.declared.instr.What.{What}
use Rattle.dc_code.specs.declared.plan.DummyPlan.{DummyPlan}
use Rattle.dc_code.specs.Codes.{CodeLists, plan_numbered}
use Rattle.dc_code.specs.Computation.{give, sequence, done, ◌>>=◌}
use Rattle.dc_code.specs.Frames.{Frame, fresh_unit, entered}
use Rattle.dc_code.specs.Instructions.{Going, act, called, passed_to, deepened, spent, all_forgotten_out}
use Rattle.dc_code.specs.Operands.{items_off}
use Rattle.dc_code.specs.OverCells.{over_cells}
use Rattle.dc_code.specs.Troubles.{Computing}
use Rattle.dc_code.proofs.Sequences.{sequence-then}
use Rattle.dc_steps.specs.declared.ended.Ended.{Ended}
use Rattle.dc_steps.specs.declared.ended.Next.{Next}
use Rattle.dc_steps.specs.declared.halt.Halt.{Halt}
use Rattle.dc_steps.specs.Calling.{arguments_off, entering}
use Rattle.dc_steps.specs.Carrying.{Carries}
use Rattle.dc_steps.specs.Halting.{Gives, Reaches}
use Rattle.dc_steps.proofs.Leading.{over_cells_then, followed}
use Rattle.dc_vm.specs.Moving.{halted}

module _ (code : CodeLists) (line procedure count at : ℕ) (entry : ℕ) (turns : ℕ) where
  abbrev dummies_called : List DummyPlan
  dummies_called = (plan_numbered code procedure).dummies

  -- What comes behind the arguments.
  abbrev behind_arguments : Going → List Passed × Frame → Computing (Frame × ℕ)
  behind_arguments go (passed, below) = do
    allowed ← deepened line below
    left ← spent line turns
    inside ← entering code line procedure passed (suc at) below
    go entry inside left

  entered-then : (go : Going) (passed : List Passed) (below : Frame) (left : ℕ)
      → sequence (all_forgotten_out code line dummies_called passed below) (λ cleared. go entry (entered (fresh_unit code procedure passed (suc at)) cleared) left)
      ≡ sequence (entering code line procedure passed (suc at) below) (λ inside. go entry inside left)
  entered-then go passed below left =
      sym (sequence-then (all_forgotten_out code line dummies_called passed below) (λ cleared. give (entered (fresh_unit code procedure passed (suc at)) cleared)) (λ inside. go entry inside left))

  -- A call is its arguments, and what comes behind them.
  pub called_first : (go : Going) (before : Frame) → called code go line (Some entry) procedure count at before turns ≡ sequence (arguments_off line dummies_called count before) (behind_arguments go)
  called_first go before =
      (λ i. sequence (items_off line count before) (λ w. sequence (passed_to line dummies_called w.0) (λ passed. sequence (deepened line w.1) (λ allowed. sequence (spent line turns) (λ left. entered-then go passed w.1 left i)))))
      ∙ ((λ i. sequence (items_off line count before) (λ w. sym (sequence-then (passed_to line dummies_called w.0) (λ passed. give (passed, w.1)) (behind_arguments go)) i))
      ∙ sym (sequence-then (items_off line count before) (λ (items, below). passed_to line dummies_called items >>= (λ passed. give (passed, below))) (behind_arguments go)))

module _ {M : Type 0} (code : CodeLists) (shown : M → Store) (after : Entry → M → M) (line procedure count at turns : ℕ) (before : Frame) (held : M) (entry : ℕ) (found : slice_get code.entries (procedure - 1) ≡ Some entry) where
  -- what is said of the call
  abbrev Calls : Next → Frame → M → Type 0
  Calls next left now = Carries code shown after line (What.Call procedure count) at turns before held next left now

  call_first : (go : Going) → act code go line (What.Call procedure count) at before turns
      ≡ sequence (arguments_off line (plan_numbered code procedure).dummies count before) (behind_arguments code line procedure count at entry turns go)
  call_first go = ap (λ found. called code go line found procedure count at before turns) found ∙ called_first code line procedure count at entry turns go before

  pub call_without_arguments : {A : Type 0} (halt : Halt) (left : Frame) (made : A → List Passed × Frame)
      → Gives line (Err halt) made (arguments_off line (plan_numbered code procedure).dummies count before) → Calls (halted halt line) left held
  call_without_arguments (Halt.Fault kind) left made halts =
      λ go. ap (over_cells shown after held) (call_first go ∙ ap (λ c. sequence c (behind_arguments code line procedure count at entry turns go)) halts)
  call_without_arguments Halt.NoMemory left made halts = λ go. tt

  module _ (passed : List Passed) (below : Frame) (taken : arguments_off line (plan_numbered code procedure).dummies count before ≡ give (passed, below)) where
    taken_first : (go : Going) → act code go line (What.Call procedure count) at before turns ≡ behind_arguments code line procedure count at entry turns go (passed, below)
    taken_first go = call_first go ∙ ap (λ c. sequence c (behind_arguments code line procedure count at entry turns go)) taken

    abbrev behind_depth : Going → Unit {0} → Computing (Frame × ℕ)
    behind_depth go allowed = do
      left ← spent line turns
      inside ← entering code line procedure passed (suc at) below
      go entry inside left

    pub call_too_deep : {A : Type 0} (halt : Halt) (left : Frame) (made : A → Unit {0}) → Gives line (Err halt) made (deepened line below) → Calls (halted halt line) left held
    call_too_deep (Halt.Fault kind) left made halts =
        λ go. ap (over_cells shown after held) (taken_first go ∙ ap (λ c. sequence c (behind_depth go)) halts)
    call_too_deep Halt.NoMemory left made halts = λ go. tt

    module _ (allowed : deepened line below ≡ give tt) where
      allowed_first : (go : Going) → act code go line (What.Call procedure count) at before turns ≡ behind_depth go tt
      allowed_first go = taken_first go ∙ ap (λ c. sequence c (behind_depth go)) allowed

      abbrev behind_turn : Going → ℕ → Computing (Frame × ℕ)
      behind_turn go left = sequence (entering code line procedure passed (suc at) below) (λ inside. go entry inside left)

      pub call_spent : (left : Frame) → turns ≡ 0 → Calls (Next.Over (Ended.Spent line)) left held
      call_spent left none = λ go. ap (over_cells shown after held) (allowed_first go ∙ ap (λ turns. sequence (spent line turns) (behind_turn go)) none)

      module _ (fewer : ℕ) (some : turns ≡ suc fewer) (back : ℕ) (behind : back ≡ suc at) where
        turn_first : (go : Going) → act code go line (What.Call procedure count) at before turns ≡ sequence (entering code line procedure passed back below) (λ inside. go entry inside fewer)
        turn_first go =
            allowed_first go ∙ (ap (λ turns. sequence (spent line turns) (behind_turn go)) some
            ∙ ap (λ back. sequence (entering code line procedure passed back below) (λ inside. go entry inside fewer)) (sym behind))

        entering_first : (go : Going) → over_cells shown after held (act code go line (What.Call procedure count) at before turns)
            ≡ followed shown after (over_cells shown after held (entering code line procedure passed back below)) (λ inside. go entry inside fewer)
        entering_first go =
            ap (over_cells shown after held) (turn_first go)
            ∙ over_cells_then shown after held (entering code line procedure passed back below) (λ inside. go entry inside fewer)

        pub call_entered : (left : Frame) (now : M) → over_cells shown after held (entering code line procedure passed back below) ≡ record { meaning = now; reached = done left }
            → Calls (Next.On entry fewer) left now
        call_entered left now enters = λ go. entering_first go ∙ ap (λ run. followed shown after run (λ inside. go entry inside fewer)) enters

        pub call_not_entered : {A : Type 0} (halt : Halt) (left : Frame) (now : M) (made : A → Frame)
            → Reaches line (Err halt) made now (over_cells shown after held (entering code line procedure passed back below)) → Calls (halted halt line) left now
        call_not_entered (Halt.Fault kind) left now made halts = λ go. entering_first go ∙ ap (λ run. followed shown after run (λ inside. go entry inside fewer)) halts
        call_not_entered Halt.NoMemory left now made halts = λ go. tt
