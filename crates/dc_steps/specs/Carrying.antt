-- What is said of one instruction. This project's own.
use Rattle.std.specs.Prelude.{ℕ}
use Rattle.dc_int.specs.Entries.{Entry}
use Rattle.dc_int.specs.Store.{Store}
use Rattle.dc_code.specs.declared.instr.What.{What}
use Rattle.dc_code.specs.Codes.{CodeLists}
use Rattle.dc_code.specs.Frames.{Frame}
use Rattle.dc_code.specs.Instructions.{act}
use Rattle.dc_code.specs.OverCells.{over_cells}
use Rattle.dc_steps.specs.declared.ended.Next.{Next}
use Rattle.dc_steps.specs.Ending.{Steps}

abbrev pub Carries : {M : Type 0} → CodeLists → (M → Store) → (Entry → M → M) → ℕ → What → ℕ → ℕ → Frame → M → Next → Frame → M → Type 0
Carries code shown after line what at turns before held next left now =
    Steps code shown after next left now (λ go. over_cells shown after held (act code go line what at before turns))
