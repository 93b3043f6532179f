use Rattle.std.proofs.Common.{◌≡◌, drop}
use Rattle.dc_tree.specs.Findings.{least_with_all}
use Rattle.dc_declare.specs.Uses.{with_used, each_used}
use Rattle.dc_declare.proofs.used.declare_used.Given as goal

abbrev pub invariant-loop-name : goal.invariant-loop-name
invariant-loop-name l =
    (with_used l.symbols l.unit (drop l.name-index l.names) ≡ with_used l.fn.symbols l.unit l.names)
    × (least_with_all l.found (each_used l.line l.symbols l.unit (drop l.name-index l.names)) ≡ least_with_all l.fn.found (each_used l.line l.fn.symbols l.unit l.names))
