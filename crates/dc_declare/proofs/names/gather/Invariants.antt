use Rattle.std.proofs.Common.{◌≡◌, drop}
use Rattle.dc_tree.specs.Findings.{least_with_all}
use Rattle.dc_declare.specs.Names.{each_once, twice_findings}
use Rattle.dc_declare.proofs.names.gather.Given as goal

abbrev pub invariant-loop-name : goal.invariant-loop-name
invariant-loop-name l =
    (each_once l.gathered (drop l.name-index l.names) ≡ each_once l.fn.gathered l.names)
    × (least_with_all l.found (twice_findings l.line l.gathered (drop l.name-index l.names)) ≡ least_with_all l.fn.found (twice_findings l.line l.fn.gathered l.names))
