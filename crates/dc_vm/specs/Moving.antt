-- How instructions move to other places, and where a pause goes on. This project's own.
use Rattle.std.specs.Prelude.{◌≡◌, ℕ, suc, ◌<◌, if◌then◌else◌, Result, Ok, Err}
use Rattle.dc_int.specs.declared.fault.Why.{Why}
use Rattle.dc_int.specs.Reductions.{truth}
use Rattle.dc_code.specs.Codes.{CodeLists}
use Rattle.dc_code.specs.Computation.{give, fail, ◌>>=◌}
use Rattle.dc_code.specs.Frames.{Frame}
use Rattle.dc_code.specs.Instructions.{Going, ahead}
use Rattle.dc_code.specs.Machine.{bound}
use Rattle.dc_code.specs.Operands.{faulty, value_off}
use Rattle.dc_code.specs.Troubles.{Computing}
use Rattle.dc_steps.specs.declared.ended.Ended.{Ended}
use Rattle.dc_steps.specs.declared.ended.Next.{Next}
use Rattle.dc_steps.specs.declared.halt.Halt.{Halt}

-- Where the work of an instruction ends badly.
abbrev pub halted : Halt → ℕ → Next
halted (Halt.Fault kind) line = Next.Over (Ended.Fault kind line)
halted Halt.NoMemory line = Next.Over Ended.NoMemory

-- Where it ends well, the run pauses.
abbrev pub paused_behind : {A : Type 0} → Result A Halt → ℕ → ℕ → ℕ → Next
paused_behind (Ok a) at turns line = Next.Over (Ended.Paused at turns)
paused_behind (Err halt) at turns line = halted halt line

-- A computation ends as it is told, and pauses nowhere. Of want of memory nothing is said.
abbrev pub EndsAlone : Ended → Frame → Computing (Frame × ℕ) → Type 0
EndsAlone (Ended.Done turns) left c = c ≡ give (left, turns)
EndsAlone (Ended.Paused at turns) left c = ⊥
EndsAlone (Ended.Fault kind line) left c = c ≡ faulty kind line
EndsAlone (Ended.Spent line) left c = c ≡ fail (record { why = Why.Spent; line = line })
EndsAlone Ended.NoMemory left c = Unit {0}

-- With whatever goes on behind it, it goes on at a place, or ends, and asks no cells.
abbrev pub Moves : Next → Frame → (Going → Computing (Frame × ℕ)) → Type 0
Moves (Next.On at turns) left moved = (go : Going) → moved go ≡ go at left turns
Moves (Next.Over ended) left moved = (go : Going) → EndsAlone ended left (moved go)

-- What JumpFalse does.
abbrev pub jumped_unless : Going → ℕ → ℕ → Going
jumped_unless go line target at frame turns = do
  (z, left) ← value_off line frame
  if truth z then go (suc at) left turns else ahead go line target at left turns

-- Where a run pauses, what is left has a bound below this.
abbrev pub PausesLower : CodeLists → ℕ → Ended → Frame → Type 0
PausesLower code most (Ended.Paused at turns) left = bound code (suc at) left turns < most
PausesLower code most ended left = Unit {0}
