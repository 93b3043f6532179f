-- What a run of a program reports, and what its report says of every order of the iterations of each loop. A
-- reader begins here. This project's own, on ISO/IEC 1539-1:2023, clauses 11.1.7.4 and 11.1.7.5.
use Rattle.std.specs.Prelude.{◌≡◌, ℕ, List, All}
use Rattle.dc_code.specs.Inner.{judging}
use Rattle.dc_tree.specs.declared.symbols.Symbol.{Symbol}
use Rattle.dc_tree.specs.Blocks.{Source}
use Rattle.dc_run.specs.Playing.{Visit, run}
use Rattle.dc_run.specs.ReportLine.{Ending, outside_names}
use Rattle.dc_run.specs.Stores.{StoresFit}
use Rattle.dc_run.specs.Visits.{loop_at, IsJudged, HoldsAt, EndsBy}

-- A run with so many turns and this input writes this output and ends so. The loops that it reaches are its
-- visits, in turn. Either each of them goes on, or each but the last does, and the last is the trouble that the
-- line of the log tells. What is said of each holds in every order of its iterations: where it goes on, every
-- order ends with the one store that is behind it; an iteration that doesn't end well ends every order that it
-- begins; and the two that race break the restriction of the named element in every order that they begin. Each
-- store of the run fits the declared variables.
pub record Reports (symbols : List Symbol) (source : Source) (turns : ℕ) (given output : List ℕ) (ending : Ending) : Type 0 where
  pub visits : List Visit
  pub is : run judging symbols source turns given ≡ record { output = output; ending = ending; visits = visits }
  pub ends : EndsBy (outside_names symbols) visits ending
  pub judged : All (IsJudged symbols source turns) visits
  pub orders : All (λ visit. HoldsAt (loop_at symbols source turns visit) visit) visits
  pub fits : StoresFit symbols source turns given visits

-- Behind it stand: `Visits.antt`, the visits and how a run ends with them; `Playing.antt`, the run; `Stores.antt`, its
-- stores; `ReportLine.antt`, the words and the texts of the line of the log; and of dc_code `EveryOrder.antt`, what is
-- said of every order.
