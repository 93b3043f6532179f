-- What is run, and how far a run of it goes. This project's own.
use Rattle.std.specs.Prelude.{◌≡◌, ◌<◌, ℕ, Bool, true, false, List, [], map, length, slice_get, Option, Some, None, IsTrue}
use Rattle.std.specs.List.{list_all}
use Rattle.dc_code.specs.declared.instr.Instr.{Instr}
use Rattle.dc_code.specs.declared.instr.What.{What}
use Rattle.dc_code.specs.Codes.{CodeLists}
use Rattle.dc_code.specs.Inner.{Forms}
use Rattle.dc_code.specs.Machine.{bound, new_frame}
use Rattle.dc_tree.specs.declared.symbols.Symbol.{Symbol}
use Rattle.dc_tree.specs.Blocks.{item, items_from}
use Rattle.dc_form.specs.BuiltPrograms.{are_built_symbols}
use Rattle.dc_entities.specs.Numbering.{numbers_of}
use Rattle.dc_lower.specs.Today.{is_of_today}
use Rattle.dc_meaning.specs.Programs.{first_store}
use Rattle.dc_plain.specs.Views.{fresh}
use Rattle.dc_run.specs.declared.ending.Ending.{Ending}
use Rattle.dc_run.specs.declared.standing.Standing.{Standing}
use Rattle.dc_run.specs.declared.standing.Step.{Step}
use Rattle.dc_run.specs.declared.standing.Task.{Task}
use Rattle.dc_run.specs.Answered.{ending_of, NamesOwn}
use Rattle.dc_run.specs.LoopPlaces.{loop_places}
use Rattle.dc_run.specs.Playing.{Looping}
use Rattle.dc_run.specs.Resuming.{told_from, AreReachable}

-- The parts of a task belong together: the loops of the program have these forms, and the code has instructions of
-- today alone.
pub record IsTask (forms : Forms) (task : Task) : Type 0 where
  pub names : IsTrue (are_built_symbols task.symbols.now)
  pub numbers : task.numbering.now ≡ numbers_of task.symbols.now
  pub places : task.loops.now ≡ loop_places 0 (map item task.nodes.now)
  pub reachable : AreReachable forms task.symbols.now task.code.now task.turns (items_from (map item task.nodes.now))
  pub few : length task.code.now.instructions < 4294967296
  pub today : list_all (λ (instr : Instr). is_of_today (length task.loops.now) instr.what) task.code.now.instructions ≡ true

-- The instructions at which a run of today pauses.
abbrev pub pauses : Option Instr → Bool
pauses (Some instr) = by instr.what
  where
    by : What → Bool
    by What.PutEnd = true
    by (What.Enter c) = true
    by what = false
pauses None = false

abbrev pub IsPause : CodeLists → ℕ → Type 0
IsPause code at = IsTrue (pauses (slice_get code.instructions at))

-- ---- how far a run goes

-- A run from a place goes on at a later one, or it ends.
abbrev pub Advances : Looping → List Symbol → CodeLists → ℕ → ℕ → Standing → Standing → Step → Type 0
Advances looping symbols code at turns before after (Step.On next left) =
    ((given : List ℕ) → told_from given looping code at turns before ≡ told_from given looping code next left after)
    × (bound code next after.frame left < bound code at before.frame turns)
Advances looping symbols code at turns before after (Step.Over ending) =
    ((given : List ℕ) → told_from given looping code at turns before ≡ record { output = after.output; ending = ending_of symbols ending })
    × NamesOwn symbols ending

-- A run from the beginning of a code ends so. A race that ends it names an element that is there.
pub record EndsSo (looping : Looping) (symbols : List Symbol) (code : CodeLists) (turns : ℕ) (before after : Standing) (ending : Ending) : Type 0 where
  pub is : (given : List ℕ) → told_from given looping code 0 turns before ≡ record { output = after.output; ending = ending_of symbols ending }
  pub own : NamesOwn symbols ending

-- Where a run of a code begins.
abbrev pub beginning : List Symbol → CodeLists → Standing
beginning symbols code = record {
  variables = record { ledger = fresh (first_store symbols); shapes = code.shapes };
  frame = new_frame code 0;
  output = [];
}
