use Rattle.std.proofs.Common.{◌≡◌, ◌++◌, drop}
use Rattle.dc_run.specs.ReportLine.{subscripts_at}
use Rattle.dc_run.proofs.Subscripts.{IsLeft}
use Rattle.dc_run.proofs.report.subscripts_at.Given as goal

abbrev pub invariant-loop-low : goal.invariant-loop-low
invariant-loop-low l =
    (l.made ++ subscripts_at (drop l.low-index l.bounds) l.left ≡ subscripts_at l.bounds l.fn.position) × IsLeft (drop l.low-index l.bounds) l.left
