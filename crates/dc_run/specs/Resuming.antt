-- How a run goes on by its code, from one pause to the next. This project's own.
use Rattle.std.specs.Prelude.{◌≡◌, ◌≤◌, ℕ, suc, List, length, slice_get, Some, IsTrue}
use Rattle.dc_int.specs.Shapes.{store_fits}
use Rattle.dc_int.specs.Store.{Store}
use Rattle.dc_code.specs.Codes.{CodeLists}
use Rattle.dc_code.specs.Computation.{give, sequence, SameShape, Reached, done, bad, paused}
use Rattle.dc_code.specs.Frames.{Frame}
use Rattle.dc_code.specs.Inner.{Forms, judging}
use Rattle.dc_code.specs.Loops.{Loop}
use Rattle.dc_code.specs.Machine.{machine}
use Rattle.dc_code.specs.Troubles.{Computing, Event, Failure}
use Rattle.dc_code.specs.Visits.{visited}
use Rattle.dc_steps.specs.Ending.{left_at}
use Rattle.dc_steps.specs.Ready.{AreReady}
use Rattle.dc_tree.specs.declared.symbols.Symbol.{Symbol}
use Rattle.dc_tree.specs.Blocks.{Line, Items}
use Rattle.dc_lower.specs.Heading.{HasHeader}
use Rattle.dc_meaning.specs.Looping.{nth_loop}
use Rattle.dc_meaning.specs.Programs.{first_store}
use Rattle.dc_walk.specs.Visiting.{IsVisitable}
use Rattle.dc_run.specs.Answered.{ending_of}
use Rattle.dc_run.specs.Playing.{Outcome, Standing, Looping, greatest_output, ends_with, answered, played}
use Rattle.dc_run.specs.ReportLine as endings
use Rattle.dc_run.specs.Running.{Told, told_behind, StepsOwn, loop_in, AccessesOwn, KeepsShape}
use Rattle.dc_run.specs.declared.standing.Standing as standings
use Rattle.dc_run.specs.declared.standing.Step.{Step}
use Rattle.dc_run.specs.Variables.{Held, held_by}

-- ---- what is told

-- Where a run stands with this input, without what it wrote.
abbrev pub at_of : List ℕ → standings.Standing → Standing
at_of given standing = record { store = standing.variables.ledger.store; input = given; used = length standing.output }

-- What a run from a place of a code does.
abbrev pub rest_from : CodeLists → ℕ → Frame → ℕ → Computing Unit
rest_from code at frame turns = sequence (machine code at frame turns) (λ w. give tt)

-- What is told in all by a run that stands at a place of a code, with so many turns left.
abbrev pub told_from : List ℕ → Looping → CodeLists → ℕ → ℕ → standings.Standing → Told
told_from given looping code at turns standing =
    told_behind standing.output (played looping (at_of given standing) (rest_from code at standing.frame turns))

-- What follows a part of a program, by where that has ended.
abbrev pub resumed_from : {A : Type 0} → Looping → Standing → Reached Event Failure A → (A → Computing Unit) → Outcome
resumed_from looping at (done a) next = played looping at (next a)
resumed_from looping at (bad failure) next = ends_with (endings.bad failure)
resumed_from looping at (paused event rest) next = answered looping at event (λ then_at told. played looping then_at (sequence (rest told) next))

-- What is told in all by a run that stands at its end or at a pause.
abbrev pub told_at : List ℕ → Looping → standings.Standing → Reached Event Failure (Frame × ℕ) → Told
told_at given looping standing reached = told_behind standing.output (resumed_from looping (at_of given standing) reached (λ w. give tt))

-- What is told where the run goes on at a place, and where it ends here.
abbrev pub told_after : List ℕ → Looping → List Symbol → CodeLists → standings.Standing → Step → Told
told_after given looping symbols code after (Step.On next left) = told_from given looping code next left after
told_after given looping symbols code after (Step.Over ending) = record { output = after.output; ending = ending_of symbols ending }

-- The run goes on behind a place, with no more turns than there were, or it ends.
abbrev pub GoesBehind : ℕ → ℕ → Step → Type 0
GoesBehind at turns (Step.On next left) = (next ≡ suc at) × (left ≤ turns)
GoesBehind at turns (Step.Over ending) = Unit {0}

-- A pause at a place is attended to: the run goes on behind it, or it ends there.
pub record Attends (looping : Looping) (symbols : List Symbol) (code : CodeLists) (at turns : ℕ) (before after : standings.Standing) (step : Step) : Type 0 where
  pub is
      : (given : List ℕ) (reached : Reached Event Failure (Frame × ℕ))
      → left_at code (machine code) at before.frame turns (slice_get code.instructions at) ≡ Some reached
      → told_at given looping before reached ≡ told_after given looping symbols code after step
  pub own : StepsOwn symbols step
  pub behind : GoesBehind at turns step

-- What is known of a run where it stands: the variables are those that are declared and fit those of the code, and
-- the output isn't too long.
pub record IsUsual (symbols : List Symbol) (code : CodeLists) (standing : standings.Standing) : Type 0 where
  pub shape : SameShape (first_store symbols) standing.variables.ledger.store
  pub ready : AreReady code (λ (held : Held). held.shapes) (λ (held : Held). held.store) (held_by standing.variables)
  pub room : length standing.output ≤ greatest_output

-- ---- loops

-- A loop that is visited keeps a store fitting.
pub record KeepsFitting (code : CodeLists) (loop : Loop) : Type 0 where
  pub each : (turns : ℕ) (store : Store) → IsTrue (store_fits code.shapes store) → IsTrue (store_fits code.shapes (visited judging loop turns store).store)

-- What is known of the loop of a number, each of whose iterations has so many turns: its header gives the values of its index or comes to a fault, and so does its
-- code; its accesses are of elements that are there, and it keeps elements, bounds and sorts.
pub record IsReachable (loop : Loop) (symbols : List Symbol) (code : CodeLists) (turns number : ℕ) (head : Line) (block : Items) : Type 0 where
  pub visitable : IsVisitable loop symbols turns head.line head.says block
  pub headed : HasHeader code number loop.form
  pub owns : AccessesOwn symbols loop
  pub keeps : KeepsShape loop
  pub fits : KeepsFitting code loop

-- The same of each loop of a main program.
pub record AreReachable (forms : Forms) (symbols : List Symbol) (code : CodeLists) (turns : ℕ) (items : Items) : Type 0 where
  pub each : (number : ℕ) (head : Line) (block : Items) → nth_loop number items ≡ Some (head, block) → IsReachable (loop_in forms number) symbols code turns number head block
