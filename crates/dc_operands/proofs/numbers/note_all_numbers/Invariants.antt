-- What is noted so far and what the rest breaks is all together.
use Rattle.std.proofs.Common.{◌≡◌, drop, map}
use Rattle.dc_tree.specs.Findings.{least_with_all}
use Rattle.dc_tree.specs.Syntax.{tree}
use Rattle.dc_sorts.specs.Standing.{standing_of}
use Rattle.dc_operands.specs.Operands.{each_number_findings}
use Rattle.dc_operands.proofs.numbers.note_all_numbers.Given as goal

abbrev pub invariant-loop-expr : goal.invariant-loop-expr
invariant-loop-expr l =
    least_with_all l.found (each_number_findings (standing_of l.standing) l.line (map tree (drop l.expr-index l.exprs)))
    ≡ least_with_all l.fn.found (each_number_findings (standing_of l.standing) l.line (map tree l.exprs))
