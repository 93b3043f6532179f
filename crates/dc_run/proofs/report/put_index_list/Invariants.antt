use Rattle.std.proofs.Common.{◌≡◌, ◌++◌, drop, cond}
use Rattle.dc_run.specs.ReportLine.{rest_of_index_list, index_list}
use Rattle.dc_run.proofs.IndexLists.{behind_bracket}
use Rattle.dc_run.proofs.report.put_index_list.Given as goal

abbrev pub invariant-loop-number : goal.invariant-loop-number
invariant-loop-number l =
    l.text ++ cond l.later (rest_of_index_list (drop l.number-index l.at)) (behind_bracket (drop l.number-index l.at)) ≡ l.fn.text ++ index_list l.at
