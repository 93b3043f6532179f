use Rattle.std.proofs.Common.{◌≡◌, drop, map}
use Rattle.dc_tree.specs.Findings.{least_with_all}
use Rattle.dc_tree.specs.Syntax.{arg_tree, args_from}
use Rattle.dc_sorts.specs.Standing.{standing_of}
use Rattle.dc_uses.specs.Uses.{argument_findings}
use Rattle.dc_uses.proofs.walk.+uses.Given as goal

abbrev pub invariant-note_arguments-loop-arg : goal.invariant-note_arguments-loop-arg
invariant-note_arguments-loop-arg l =
    least_with_all l.found (argument_findings (standing_of l.standing) l.line l.reading (args_from (map arg_tree (drop l.arg-index l.args))))
    ≡ least_with_all l.fn.found (argument_findings (standing_of l.standing) l.line l.fn.first (args_from (map arg_tree l.args)))
