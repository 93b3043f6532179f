-- What is noted so far and what the rest breaks is all together.
use Rattle.std.proofs.Common.{◌≡◌, drop, map}
use Rattle.dc_tree.specs.Findings.{least_with_all}
use Rattle.dc_tree.specs.Syntax.{arg_tree, args_from}
use Rattle.dc_sorts.specs.Standing.{standing_of}
use Rattle.dc_operands.specs.Operands.{number_findings_in}
use Rattle.dc_operands.proofs.numbers.+numbers.Given as goal

abbrev pub invariant-note_numbers_in-loop-arg : goal.invariant-note_numbers_in-loop-arg
invariant-note_numbers_in-loop-arg l =
    least_with_all l.found (number_findings_in (standing_of l.standing) l.line (args_from (map arg_tree (drop l.arg-index l.args))))
    ≡ least_with_all l.fn.found (number_findings_in (standing_of l.standing) l.line (args_from (map arg_tree l.args)))
