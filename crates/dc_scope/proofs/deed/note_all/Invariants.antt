use Rattle.std.proofs.Common.{◌≡◌, drop, map}
use Rattle.dc_tree.specs.Findings.{least_with_all}
use Rattle.dc_tree.specs.Syntax.{tree}
use Rattle.dc_sorts.specs.Standing.{standing_of}
use Rattle.dc_scope.specs.Deeds.{uses_in}
use Rattle.dc_scope.proofs.deed.note_all.Given as goal

abbrev pub invariant-loop-expr : goal.invariant-loop-expr
invariant-loop-expr l =
    least_with_all l.found (uses_in (standing_of l.standing) l.line (map tree (drop l.expr-index l.list)))
    ≡ least_with_all l.fn.found (uses_in (standing_of l.standing) l.line (map tree l.list))
