-- The loops that a run reaches: what each leaves, and how the run ends with them. This project's own, on
-- ISO/IEC 1539-1:2023, clause 11.1.7.4.
use Rattle.std.specs.Prelude.{◌≡◌, ℕ, List, [], ◌∷◌, ◌++◌, All, Some, ◌⊎◌}
use Rattle.dc_code.specs.Computation.{done, bad, over}
use Rattle.dc_code.specs.EveryOrder.{HoldsInOrders}
use Rattle.dc_code.specs.Inner.{judging, nested_loop, greatest_depth}
use Rattle.dc_code.specs.Loops.{Loop, HeaderResult, header_of}
use Rattle.dc_code.specs.Troubles.{Trouble}
use Rattle.dc_code.specs.Verdicts.{go_on, at_header, trouble_in}
use Rattle.dc_code.specs.Visits.{visited}
use Rattle.dc_tree.specs.declared.symbols.Symbol.{Symbol}
use Rattle.dc_tree.specs.Blocks.{Source}
use Rattle.dc_meaning.specs.Programs.{program_forms}
use Rattle.dc_run.specs.Playing.{Visit, bounds_in}
use Rattle.dc_run.specs.ReportLine.{Ending, stopped, trouble_text, report_line}
use Rattle.dc_run.specs.ReportLine as endings

-- The loop of a visit, with those inside it.
abbrev pub loop_at : List Symbol → Source → ℕ → Visit → Loop
loop_at symbols source turns visit = nested_loop judging (program_forms symbols source turns) greatest_depth visit.loop visit.inside

-- What is said at a visit is the verdict on its loop over the opening store, and the store after it is the one
-- that this loop leaves.
pub record IsJudged (symbols : List Symbol) (source : Source) (turns : ℕ) (visit : Visit) : Type 0 where
  pub said : (visited judging (loop_at symbols source turns visit) visit.turns visit.opening).verdict ≡ visit.verdict
  pub left : (visited judging (loop_at symbols source turns visit) visit.turns visit.opening).store ≡ visit.after

-- What is said at a visit holds. Its loop's header meets the trouble that is told, which belongs to no iteration; or
-- the header gives iterations, and what is told holds in every order of these: where the loop goes on, each order
-- ends with the store after the visit.
pub data HoldsAt (loop : Loop) (visit : Visit) : Type 0 where
  in_header : (trouble : Trouble) → (over visit.opening (header_of loop.form visit.turns)).reached ≡ bad trouble → visit.verdict ≡ at_header trouble → HoldsAt loop visit
  in_orders
      : (opening : HeaderResult) → (over visit.opening (header_of loop.form visit.turns)).reached ≡ done opening
      → HoldsInOrders loop visit.opening opening.iterations visit.after visit.verdict → HoldsAt loop visit

abbrev pub WentOn : Visit → Type 0
WentOn visit = visit.verdict ≡ go_on

-- A run that no loop stopped.
abbrev pub EndsOutsideLoops : Ending → Type 0
EndsOutsideLoops endings.done = Unit {0}
EndsOutsideLoops (endings.bad failure) = Unit {0}
EndsOutsideLoops (endings.stopped verdict bounds) = ⊥

-- Each loop that the run reached went on, and no loop stopped the run.
pub record AllWentOn (visits : List Visit) (ending : Ending) : Type 0 where
  pub each : All WentOn visits
  pub ends : EndsOutsideLoops ending

-- Each loop but the last went on. The last one stopped the run, with a trouble, and this is what the line of
-- the log tells.
pub record StoppedAtLast (names : List (List ℕ)) (visits : List Visit) (ending : Ending) : Type 0 where
  pub before : List Visit
  pub last : Visit
  pub are : visits ≡ before ++ last ∷ []
  pub each : All WentOn before
  pub trouble : Trouble
  pub met : trouble_in last.verdict ≡ Some trouble
  pub ends : ending ≡ stopped last.verdict (bounds_in last.opening last.verdict)
  pub told : report_line names ending ≡ trouble_text names (bounds_in last.opening last.verdict) trouble ++ 10 ∷ []

-- By the names of the main program's variables.
abbrev pub EndsBy : List (List ℕ) → List Visit → Ending → Type 0
EndsBy names visits ending = AllWentOn visits ending ⊎ StoppedAtLast names visits ending
