use Rattle.std.proofs.Common.{◌≡◌, drop}
use Rattle.dc_tree.specs.Findings.{least_with_all}
use Rattle.dc_declare.specs.Headings.{dummy_findings}
use Rattle.dc_declare.proofs.procedure.note_dummies.Given as goal

abbrev pub invariant-loop-name : goal.invariant-loop-name
invariant-loop-name l =
    least_with_all l.found (dummy_findings l.number l.symbols l.line (drop l.name-index l.dummies))
    ≡ least_with_all l.fn.found (dummy_findings l.number l.symbols l.line l.dummies)
