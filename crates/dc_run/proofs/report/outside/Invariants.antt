use Rattle.std.proofs.Common.{◌≡◌, drop}
use Rattle.std.specs.Prelude.{filter, slice_get}
use Rattle.dc_run.specs.ReportLine.{is_outside}
use Rattle.dc_run.proofs.report.outside.Given as goal

abbrev pub invariant-loop-symbol : goal.invariant-loop-symbol
invariant-loop-symbol l = slice_get (filter is_outside (drop l.symbol-index l.symbols)) l.left ≡ slice_get (filter is_outside l.symbols) l.fn.variable
