use Rattle.std.proofs.Common.{◌≡◌, drop, map}
use Rattle.dc_tree.specs.Blocks.{line_of}
use Rattle.dc_tree.specs.Findings.{least_of, least_with_all}
use Rattle.dc_nest.specs.Judging.{findings_from, findings}
use Rattle.dc_nest.proofs.judging.judge.Given as goal

abbrev pub invariant-loop-lined : goal.invariant-loop-lined
invariant-loop-lined l =
    least_with_all l.found (findings_from l.place l.line (map line_of (drop l.lined-index l.list))) ≡ least_of (findings (map line_of l.list))
