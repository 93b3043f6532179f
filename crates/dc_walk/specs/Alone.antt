-- An iteration alone, as the walker tells of it. This project's own.
use Rattle.std.specs.Prelude.{◌≡◌, ℕ, List, [], length, Option, Some, None, Result, Ok, Err, ℤ, IsTrue}
use Rattle.dc_int.specs.declared.fault.Why.{Why}
use Rattle.dc_int.specs.Entries.{accesses_of, last_states, contributions_of}
use Rattle.dc_code.specs.Computation.{done, bad}
use Rattle.dc_code.specs.Inner.{judging, nested_loop, greatest_depth}
use Rattle.dc_code.specs.Loops.{Passage, alone}
use Rattle.dc_code.specs.Troubles.{Trouble, ended, Computing}
use Rattle.dc_plain.specs.Views.{View, store_with}
use Rattle.dc_tree.specs.declared.program.Program.{Program}
use Rattle.dc_tree.specs.declared.symbols.Symbol.{Symbol}
use Rattle.dc_tree.specs.Blocks.{Source, source_of}
use Rattle.dc_form.specs.BuiltPrograms.{is_built}
use Rattle.dc_walk.specs.declared.alone_out.AloneOut.{AloneOut}
use Rattle.dc_meaning.specs.declared.stop.Stop.{Stop}
use Rattle.dc_meaning.specs.Programs.{program_forms}
use Rattle.dc_meaning.specs.Walking.{seen_over}

-- What can be asked: a program that can be run today, and one value for the one index of its loops.
pub record IsAsked (program : Program) (symbols : List Symbol) (combination : List ℤ) : Type 0 where
  pub form : IsTrue (is_built symbols (source_of program))
  pub one : length combination ≡ 1

-- The iteration of a loop with these index values, over the store of these states.
abbrev pub iteration_alone : Program → List Symbol → ℕ → List ℤ → List (Option ℤ) → ℕ → Passage
iteration_alone program symbols construct combination opening turns =
    alone (nested_loop judging (program_forms symbols (source_of program) turns) greatest_depth construct []) (store_with symbols opening) combination

-- How it ended: well, or badly by a statement of its block.
abbrev pub trouble_of : Option (Why × ℕ) → Option Trouble
trouble_of None = None
trouble_of (Some (why, line)) = Some (ended why line [])

-- What is told of an iteration is what it does: how it ends, its accesses, the last states of what it
-- touches, and its contributions.
pub record Tells (passage : Passage) (out : AloneOut) : Type 0 where
  pub ending : passage.trouble ≡ trouble_of out.ending
  pub accesses : out.accesses ≡ accesses_of passage.entries
  pub touches : out.touches ≡ last_states passage.entries
  pub contributions : out.contributions ≡ contributions_of passage.entries

-- ---- as the walker goes about it

-- What the block of an iteration does: with no entities of LOCAL_INIT variables, and no loops around.
abbrev pub block_alone : List Symbol → Source → ℕ → List ℤ → ℕ → Computing ℕ
block_alone symbols source construct combination turns = (program_forms symbols source turns construct []).block [] combination

-- What the walker answers for the block of an iteration is what that does.
abbrev pub Ended : View → Computing ℕ → View → Result (Unit {0}) Stop → Type 0
Ended before c after (Ok well) = (left : ℕ) × (seen_over before c ≡ (after, done left))
Ended before c after (Err (Stop.Failed why line)) = seen_over before c ≡ (after, bad (record { why = why; line = line }))
Ended before c after (Err Stop.NoMemory) = Unit

pub record Ends (before : View) (c : Computing ℕ) (after : View) (result : Result (Unit {0}) Stop) : Type 0 where
  pub answers : Ended before c after result
