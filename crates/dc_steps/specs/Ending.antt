-- Where a run stops, and what is left to do there. This project's own.
use Rattle.std.specs.Prelude.{◌≡◌, ℕ, suc, false, [], min, slice_get, Option, Some, None, Result, Ok, Err}
use Rattle.dc_int.specs.declared.fault.Why.{Why}
use Rattle.dc_int.specs.Entries.{Entry}
use Rattle.dc_int.specs.Sorts.{whole, logical}
use Rattle.dc_int.specs.Store.{Store}
use Rattle.dc_code.specs.declared.frame.Item.{Item}
use Rattle.dc_code.specs.declared.instr.Instr.{Instr}
use Rattle.dc_code.specs.declared.instr.What.{What}
use Rattle.dc_code.specs.Codes.{CodeLists, elements_of_variable}
use Rattle.dc_code.specs.Combinations.{natural}
use Rattle.dc_code.specs.Computation.{Reached, done, bad, paused}
use Rattle.dc_code.specs.Frames.{Frame, pushed, with_line}
use Rattle.dc_code.specs.Instructions.{Going, sort_of_variable}
use Rattle.dc_code.specs.OverCells.{CellsRun, over_cells}
use Rattle.dc_code.specs.Troubles.{Event, Failure, write_line, take_value, take_elements, end_reading, enter_loop, stop}
use Rattle.dc_steps.specs.declared.ended.Ended.{Ended}
use Rattle.dc_steps.specs.declared.ended.Next.{Next}
use Rattle.dc_steps.specs.declared.halt.Halt.{Halt}

-- What a run comes to at an instruction that pauses: what it pauses for, and what goes on when the caller has done
-- what it owes, with the frame that it leaves: the line that is written is cleared, the value that is taken is
-- pushed, and of the turns no more are left than a loop has left. Other instructions don't pause.
abbrev pub what_is_left : CodeLists → Going → ℕ → ℕ → What → Frame → ℕ → Option (Reached Event Failure (Frame × ℕ))
what_is_left code go at line What.PutEnd frame turns =
    Some (paused (write_line line frame.line) (λ told. go (suc at) (with_line [] false frame) turns))
what_is_left code go at line (What.TakeNumber kind) frame turns =
    Some (paused (take_value line (whole kind)) (λ told. go (suc at) (pushed (Item.Value told) frame) turns))
what_is_left code go at line What.TakeTruth frame turns =
    Some (paused (take_value line logical) (λ told. go (suc at) (pushed (Item.Value told) frame) turns))
what_is_left code go at line (What.TakeAll v) frame turns =
    Some (paused (take_elements line (sort_of_variable code v) (elements_of_variable code v)) (λ told. go (suc at) frame turns))
what_is_left code go at line (What.TakeEnd n) frame turns =
    Some (paused (end_reading line n) (λ told. go (suc at) frame turns))
what_is_left code go at line (What.Enter c) frame turns =
    Some (paused (enter_loop c turns []) (λ told. go (suc at) frame (min (natural told) turns)))
what_is_left code go at line What.Stop frame turns =
    Some (paused stop (λ told. go (suc at) frame turns))
what_is_left code go at line what frame turns = None

-- The cells hold this, and this is reached. A run that pauses is at an instruction that does.
abbrev pub ComesTo : {M : Type 0} → M → Option (Reached Event Failure (Frame × ℕ)) → CellsRun M Event Failure (Frame × ℕ) → Type 0
ComesTo held (Some reached) run = run ≡ record { meaning = held; reached = reached }
ComesTo held None run = ⊥

abbrev pub left_at : CodeLists → Going → ℕ → Frame → ℕ → Option Instr → Option (Reached Event Failure (Frame × ℕ))
left_at code go at frame turns (Some instr) = what_is_left code go at instr.line instr.what frame turns
left_at code go at frame turns None = None

-- A run over cells ends as it is told, with this frame left and this held by the cells. Of want of memory nothing is
-- said.
abbrev pub Ends : {M : Type 0} → CodeLists → Going → Ended → Frame → M → CellsRun M Event Failure (Frame × ℕ) → Type 0
Ends code go (Ended.Done turns) left held run = run ≡ record { meaning = held; reached = done (left, turns) }
Ends code go (Ended.Paused at turns) left held run = ComesTo held (left_at code go at left turns (slice_get code.instructions at)) run
Ends code go (Ended.Fault kind line) left held run = run ≡ record { meaning = held; reached = bad (record { why = Why.Fault kind; line = line }) }
Ends code go (Ended.Spent line) left held run = run ≡ record { meaning = held; reached = bad (record { why = Why.Spent; line = line }) }
Ends code go Ended.NoMemory left held run = Unit {0}

-- An instruction over cells, with whatever goes on behind it, goes on at a place, or ends.
abbrev pub Steps : {M : Type 0} → CodeLists → (M → Store) → (Entry → M → M) → Next → Frame → M → (Going → CellsRun M Event Failure (Frame × ℕ)) → Type 0
Steps code shown after (Next.On at turns) left held run = (go : Going) → run go ≡ over_cells shown after held (go at left turns)
Steps code shown after (Next.Over ended) left held run = (go : Going) → Ends code go ended left held (run go)

-- Where the work of an instruction ends well, the next place comes.
abbrev pub next_behind : {A : Type 0} → Result A Halt → ℕ → ℕ → ℕ → Next
next_behind (Ok a) at turns line = Next.On (suc at) turns
next_behind (Err (Halt.Fault kind)) at turns line = Next.Over (Ended.Fault kind line)
next_behind (Err Halt.NoMemory) at turns line = Next.Over Ended.NoMemory
