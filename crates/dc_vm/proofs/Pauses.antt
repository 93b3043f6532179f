-- A pause leaves less to do than the run began with.
use Rattle.std.proofs.Common.{◌≡◌, ◌<◌, ◌≤◌, ℕ, Some, arith}
use Rattle.std.specs.Prelude.{slice_get}
use Rattle.dc_int.specs.Entries.{Entry}
use Rattle.dc_int.specs.Store.{Store}
use Rattle.dc_code.specs.declared.instr.Instr.{Instr}
use Rattle.dc_code.specs.Codes.{CodeLists}
use Rattle.dc_code.specs.Frames.{Frame}
use Rattle.dc_code.specs.Machine.{bound}
use Rattle.dc_steps.specs.declared.ended.Ended.{Ended}
use Rattle.dc_steps.specs.declared.ended.Next.{Next}
use Rattle.dc_steps.specs.Carrying.{Carries}
use Rattle.dc_steps.proofs.Onward.{pause_lowers}
use Rattle.dc_vm.specs.Moving.{PausesLower}

less-through : (a b c : ℕ) → a < b → b ≤ c → a < c
less-through a b c less most = omega (arith, less, most)

module _ {M : Type 0} (code : CodeLists) (shown : M → Store) (after : Entry → M → M) where
  pub pauses_lower : (most at : ℕ) (before : Frame) (turns : ℕ) (instr : Instr) (held : M) (ended : Ended) (left : Frame) (now : M)
      → slice_get code.instructions at ≡ Some instr
      → Carries code shown after instr.line instr.what at turns before held (Next.Over ended) left now
      → bound code at before turns ≤ most
      → PausesLower code most ended left
  pauses_lower most at before turns instr held (Ended.Paused to fewer) left now found carries within =
      less-through _ _ _ (pause_lowers code shown after at before turns instr held to left fewer now found carries) within
  pauses_lower most at before turns instr held (Ended.Done fewer) left now found carries within = tt
  pauses_lower most at before turns instr held (Ended.Fault kind line) left now found carries within = tt
  pauses_lower most at before turns instr held (Ended.Spent line) left now found carries within = tt
  pauses_lower most at before turns instr held Ended.NoMemory left now found carries within = tt
