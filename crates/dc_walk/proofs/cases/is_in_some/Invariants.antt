use Rattle.std.proofs.Common.{◌≡◌, drop, map}
use Rattle.std.specs.List.{list_any}
use Rattle.dc_sorts.specs.Standing.{standing_of, scope_at}
use Rattle.dc_tree.specs.Statements.{case_range}
use Rattle.dc_meaning.specs.Execution.{is_in_range}
use Rattle.dc_walk.proofs.cases.is_in_some.Given as goal

abbrev pub invariant-loop-range : goal.invariant-loop-range
invariant-loop-range l =
    list_any (is_in_range (scope_at (standing_of l.standing)) l.given) (map case_range (drop l.range-index l.ranges))
    ≡ list_any (is_in_range (scope_at (standing_of l.standing)) l.given) (map case_range l.ranges)
