use Rattle.std.proofs.Common.{◌≡◌, ◌++◌, drop, map}
use Rattle.dc_sorts.specs.Standing.{standing_of}
use Rattle.dc_tree.specs.Statements.{dimension_of}
use Rattle.dc_declare.specs.Bounds.{all_bounds}
use Rattle.dc_declare.proofs.bounds.all_bounds.Given as goal

abbrev pub invariant-loop-bound : goal.invariant-loop-bound
invariant-loop-bound l =
    l.made ++ all_bounds (standing_of l.standing) (map dimension_of (drop l.bound-index l.bounds)) ≡ all_bounds (standing_of l.standing) (map dimension_of l.bounds)
