-- What is gathered so far and what comes of the rest is all together.
use Rattle.std.proofs.Common.{◌≡◌, ◌++◌, drop, map}
use Rattle.dc_tree.specs.Findings.{least_with_all}
use Rattle.dc_tree.specs.Syntax.{arg_tree, args_from}
use Rattle.dc_sorts.specs.Knowing.{known_args}
use Rattle.dc_sorts.specs.Standing.{standing_of, scope_at}
use Rattle.dc_operands.specs.Operands.{arguments_of, operand_findings_in}
use Rattle.dc_operands.proofs.operands.+operands.Given as goal

abbrev pub invariant-note_each-loop-arg : goal.invariant-note_each-loop-arg
invariant-note_each-loop-arg l = record {
  known : l.known ++ known_args (scope_at (standing_of l.standing)) (args_from (map arg_tree (drop l.arg-index l.args)))
      ≡ known_args (scope_at (standing_of l.standing)) (args_from (map arg_tree l.args));
  arguments : l.arguments ++ arguments_of (standing_of l.standing) (args_from (map arg_tree (drop l.arg-index l.args)))
      ≡ arguments_of (standing_of l.standing) (args_from (map arg_tree l.args));
  findings : least_with_all l.found (operand_findings_in (standing_of l.standing) l.line (args_from (map arg_tree (drop l.arg-index l.args))))
      ≡ least_with_all l.fn.found (operand_findings_in (standing_of l.standing) l.line (args_from (map arg_tree l.args)));
}
