-- What is gathered so far and what comes of the rest is all together.
use Rattle.std.proofs.Common.{◌≡◌, ◌++◌, drop, map}
use Rattle.dc_tree.specs.Findings.{least_with_all}
use Rattle.dc_tree.specs.Syntax.{tree}
use Rattle.dc_sorts.specs.Standing.{standing_of}
use Rattle.dc_operands.specs.Operands.{plain_arguments, each_operand_findings}
use Rattle.dc_operands.proofs.operands.note_arguments.Given as goal

abbrev pub invariant-loop-expr : goal.invariant-loop-expr
invariant-loop-expr l = record {
  arguments : l.arguments ++ plain_arguments (standing_of l.standing) (map tree (drop l.expr-index l.exprs))
      ≡ plain_arguments (standing_of l.standing) (map tree l.exprs);
  findings : least_with_all l.found (each_operand_findings (standing_of l.standing) l.line (map tree (drop l.expr-index l.exprs)))
      ≡ least_with_all l.fn.found (each_operand_findings (standing_of l.standing) l.line (map tree l.exprs));
}
