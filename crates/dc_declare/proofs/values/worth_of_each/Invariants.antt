use Rattle.std.proofs.Common.{◌≡◌, ◌++◌, drop, map}
use Rattle.dc_sorts.specs.Standing.{standing_of}
use Rattle.dc_tree.specs.Syntax.{tree}
use Rattle.dc_declare.specs.Values.{worth}
use Rattle.dc_declare.proofs.values.worth_of_each.Given as goal

abbrev pub invariant-loop-expr : goal.invariant-loop-expr
invariant-loop-expr l =
    l.made ++ map (worth (standing_of l.standing) l.form) (map tree (drop l.expr-index l.exprs)) ≡ map (worth (standing_of l.standing) l.form) (map tree l.exprs)
