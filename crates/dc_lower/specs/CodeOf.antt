-- What is promised of the code of a program. This project's own.
use Rattle.std.specs.Prelude.{◌≡◌, ℕ, List, [], length, slice_get, Some, None}
use Rattle.dc_code.specs.CodeForms.{code_forms}
use Rattle.dc_code.specs.Codes.{CodeLists}
use Rattle.dc_code.specs.Computation.{give, sequence}
use Rattle.dc_code.specs.Machine.{machine, new_frame}
use Rattle.dc_code.specs.WellFormed.{IsWellFormed}
use Rattle.dc_tree.specs.declared.symbols.Symbol.{Symbol}
use Rattle.dc_tree.specs.Blocks.{Source}
use Rattle.dc_meaning.specs.Concurrent.{Concurrent}
use Rattle.dc_meaning.specs.Programs.{main_computation, program_loops, program_forms}
use Rattle.dc_lower.specs.Agreeing.{SameForm, HasNoIteration}

-- The code is well formed. The machine does from its first instruction on, with a new frame, what the main program
-- does. Each loop of the program is the loop of its number in the code, and the code has no others.
pub record IsCodeOf (symbols : List Symbol) (source : Source) (code : CodeLists) : Type 0 where
  pub formed : IsWellFormed code
  pub main : (turns : ℕ) → main_computation symbols source turns ≡ sequence (machine code 0 (new_frame code 0) turns) (λ w. give tt)
  pub loops : (turns number : ℕ) (loop : Concurrent) → slice_get (program_loops symbols source turns) number ≡ Some loop
      → SameForm (length loop.indexes) (code_forms code turns number []) (program_forms symbols source turns number [])
  pub no_others : (turns number : ℕ) → slice_get (program_loops symbols source turns) number ≡ None
      → HasNoIteration (code_forms code turns number [])
