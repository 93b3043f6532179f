-- How the work of an instruction ends. This project's own.
use Rattle.std.specs.Prelude.{◌≡◌, ℕ, Result, Ok, Err}
use Rattle.dc_int.specs.declared.fault.Why.{Why}
use Rattle.dc_code.specs.Computation.{give, done, bad}
use Rattle.dc_code.specs.Frames.{Frame}
use Rattle.dc_code.specs.Operands.{faulty}
use Rattle.dc_code.specs.OverCells.{CellsRun}
use Rattle.dc_code.specs.Troubles.{Computing, Event, Failure}
use Rattle.dc_steps.specs.declared.halt.Halt.{Halt}

-- A work that asks no cells gives what is made of the result, or comes to the fault that it tells. Of want of
-- memory nothing is said.
abbrev pub Gives : {A B : Type 0} → ℕ → Result A Halt → (A → B) → Computing B → Type 0
Gives line (Ok a) made work = work ≡ give (made a)
Gives line (Err (Halt.Fault kind)) made work = work ≡ faulty kind line
Gives line (Err Halt.NoMemory) made work = Unit {0}

-- It leaves this frame.
abbrev pub Leaves : {A : Type 0} → ℕ → Result A Halt → Frame → Computing Frame → Type 0
Leaves line result left work = Gives line result (λ a. left) work

-- The same of a work over cells, which hold this at its end.
abbrev pub Reaches : {A B M : Type 0} → ℕ → Result A Halt → (A → B) → M → CellsRun M Event Failure B → Type 0
Reaches line (Ok a) made held run = run ≡ record { meaning = held; reached = done (made a) }
Reaches line (Err (Halt.Fault kind)) made held run = run ≡ record { meaning = held; reached = bad (record { why = Why.Fault kind; line = line }) }
Reaches line (Err Halt.NoMemory) made held run = Unit {0}

abbrev pub LeavesBoth : {A M : Type 0} → ℕ → Result A Halt → Frame → M → CellsRun M Event Failure Frame → Type 0
LeavesBoth line result left held run = Reaches line result (λ a. left) held run
