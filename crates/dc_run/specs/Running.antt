-- What a run tells where it stands, and what is known of the loops that it reaches. This project's own.
use Rattle.std.specs.Prelude.{◌≡◌, ◌≤◌, ◌<◌, ℕ, suc, ◌+◌, List, [], ◌++◌, length, Option, Some, None, ℤ}
use Rattle.dc_int.specs.declared.fault.FaultKind.{FaultKind}
use Rattle.dc_int.specs.declared.fault.Why.{Why}
use Rattle.dc_int.specs.declared.access.Access.{Access}
use Rattle.dc_int.specs.Store.{Store}
use Rattle.dc_code.specs.declared.verdict.Verdict as answers
use Rattle.dc_code.specs.Computation.{SameShape}
use Rattle.dc_code.specs.Inner.{Forms, judging, nested_loop, greatest_depth}
use Rattle.dc_code.specs.Laws.{Made}
use Rattle.dc_code.specs.Loops.{Loop, Orders}
use Rattle.dc_code.specs.Verdicts.{seen}
use Rattle.dc_code.specs.Visits.{visited}
use Rattle.dc_tree.specs.declared.symbols.Symbol.{Symbol}
use Rattle.dc_walk.specs.Visiting.{visit_of}
use Rattle.dc_run.specs.declared.ending.Ending as code
use Rattle.dc_run.specs.declared.standing.Step.{Step}
use Rattle.dc_run.specs.Answered.{IsElement, NamesOwn}
use Rattle.dc_run.specs.Playing.{Outcome, Looping, greatest_output}
use Rattle.dc_run.specs.ReportLine.{Ending}

-- ---- output

-- A line is written whole, or the output would be too long and the run ends.
abbrev pub IsWritten : ℕ → List ℕ → List ℕ → List ℕ → Option code.Ending → Type 0
IsWritten line bytes before after None = (length before + length bytes ≤ greatest_output) × (after ≡ before ++ bytes)
IsWritten line bytes before after (Some ending) =
    (greatest_output < length before + length bytes) × ((after ≡ before) × (ending ≡ code.Ending.Bad (Why.Fault FaultKind.OutputFull) line))

-- ---- what is told

-- What a run writes, and how it ends.
pub record Told : Type 0 where
  pub output : List ℕ
  pub ending : Ending

-- What an outcome tells, behind what was written before.
abbrev pub told_behind : List ℕ → Outcome → Told
told_behind written outcome = record { output = written ++ outcome.output; ending = outcome.ending }

-- Where the run ends here by a race, its element is there.
abbrev pub StepsOwn : List Symbol → Step → Type 0
StepsOwn symbols (Step.On next left) = Unit {0}
StepsOwn symbols (Step.Over ending) = NamesOwn symbols ending

-- A loop ends the run, unless it goes on.
abbrev pub stopped_by : answers.Verdict → Option code.Ending
stopped_by answers.Verdict.GoOn = None
stopped_by verdict = Some (code.Ending.Stopped verdict)

-- The run goes on behind a place with so many turns, unless it ends there.
abbrev pub step_behind : ℕ → ℕ → Option code.Ending → Step
step_behind at turns None = Step.On (suc at) turns
step_behind at turns (Some ending) = Step.Over ending

-- ---- loops

-- The loop of a number, with those inside it.
unfoldable pub loop_in : Forms → ℕ → Loop
loop_in forms number = nested_loop judging forms greatest_depth number []

-- Loops of these forms, judged.
abbrev pub looping_in : Forms → Looping
looping_in forms number slots left store = visited judging (nested_loop judging forms greatest_depth number slots) left store

-- The accesses of an iteration alone are of elements that are there.
pub record AccessesOwn (symbols : List Symbol) (loop : Loop) : Type 0 where
  pub each : (store : Store) (at : List ℤ) (access : Access) → Made access (loop.block store [] at).entries → IsElement symbols access.element

-- An iteration leaves the elements of the store, and the bounds of its variables.
pub record KeepsShape (loop : Loop) : Type 0 where
  pub each : (store : Store) (orders : Orders) (at : List ℤ) → SameShape store (loop.block store orders at).store

-- What is said of a loop that is reached with so many turns, the turns that it leaves, and the store behind it: the
-- closing store where it goes on, and the same store where it doesn't.
pub record IsVisitWith (loop : Loop) (turns left : ℕ) (before after : Store) (said : answers.Verdict) : Type 0 where
  pub is : visited judging loop turns before ≡ visit_of (seen said) after left
