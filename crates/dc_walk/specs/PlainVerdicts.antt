-- What the plain judge says of a loop by itself. This project's own.
use Rattle.std.specs.Prelude.{◌≡◌, ◌≤◌, ℕ, List, [], length, map, slice_get, is_some, Some, ℤ, IsTrue}
use Rattle.dc_int.specs.Store.{Store}
use Rattle.dc_code.specs.Loops.{Loop, order, closed}
use Rattle.dc_code.specs.Troubles.{ended}
use Rattle.dc_code.specs.Verdicts.{go_on, in_iteration, race, verdict}
use Rattle.dc_tree.specs.declared.program.Program.{Program}
use Rattle.dc_tree.specs.declared.symbols.Symbol.{Symbol}
use Rattle.dc_tree.specs.Blocks.{source_of}
use Rattle.dc_form.specs.BuiltPrograms.{is_built}
use Rattle.dc_walk.specs.declared.plain.PlainVerdict.{PlainVerdict}
use Rattle.dc_walk.specs.Judging.{combination}
use Rattle.dc_meaning.specs.Programs.{program_loops}
use Rattle.dc_plain.specs.Views.{states_in}

-- What can be judged: a loop of a program that can be run today, with the values of its one index.
pub record IsJudgeable (program : Program) (symbols : List Symbol) (construct width : ℕ) (active : List ℤ) : Type 0 where
  pub form : IsTrue (is_built symbols (source_of program))
  pub loop : (turns : ℕ) → IsTrue (is_some (slice_get (program_loops symbols (source_of program) turns) construct))
  pub one : width ≡ 1
  pub few : length active ≤ 4194304

-- What is said of the iterations with these index values, over a store, is the verdict; and the states of
-- a loop that goes on are those with which it ends.
abbrev pub IsSaid : Loop → Store → List ℤ → PlainVerdict → Type 0
IsSaid parts store active (PlainVerdict.GoOn closing) =
    (verdict parts store (map combination active) ≡ go_on) × (closing ≡ states_in (closed parts (order parts [] store (map combination active))))
IsSaid parts store active (PlainVerdict.Bad iteration why line) =
    (at : ℤ) × (slice_get active iteration ≡ Some at) × (verdict parts store (map combination active) ≡ in_iteration (ended why line []) (combination at))
IsSaid parts store active (PlainVerdict.Race found) =
    (first : ℤ) × (second : ℤ) × (verdict parts store (map combination active) ≡ race found (combination first) (combination second))
