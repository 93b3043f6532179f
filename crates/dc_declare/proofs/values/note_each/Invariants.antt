use Rattle.std.proofs.Common.{◌≡◌, drop, map}
use Rattle.dc_sorts.specs.Standing.{standing_of}
use Rattle.dc_tree.specs.Findings.{least_with_all}
use Rattle.dc_tree.specs.Syntax.{tree}
use Rattle.dc_declare.specs.Values.{each_value}
use Rattle.dc_declare.proofs.values.note_each.Given as goal

abbrev pub invariant-loop-expr : goal.invariant-loop-expr
invariant-loop-expr l =
    least_with_all l.found (each_value (standing_of l.standing) l.line l.form (map tree (drop l.expr-index l.exprs)))
    ≡ least_with_all l.fn.found (each_value (standing_of l.standing) l.line l.form (map tree l.exprs))
