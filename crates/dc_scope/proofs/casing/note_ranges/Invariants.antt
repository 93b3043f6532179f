use Rattle.std.proofs.Common.{◌≡◌, List, drop, map}
use Rattle.dc_tree.specs.Findings.{least_with_all}
use Rattle.dc_tree.specs.Statements.{case_range}
use Rattle.dc_sorts.specs.Standing.{standing_of}
use Rattle.dc_scope.specs.declared.interval.Interval.{Interval}
use Rattle.dc_scope.specs.Cases.{ranges_in, intervals_behind}
use Rattle.dc_scope.specs.Covers.{Covers}
use Rattle.dc_scope.proofs.casing.note_ranges.Given as goal

abbrev pub invariant-loop-range : goal.invariant-loop-range
invariant-loop-range l =
    (before : List Interval) → Covers l.fn.values before
    → (so_far : List Interval) × Covers l.values so_far
    × (least_with_all l.found (ranges_in (standing_of l.standing) l.line so_far (map case_range (drop l.range-index l.ranges)))
    ≡ least_with_all l.fn.found (ranges_in (standing_of l.standing) l.line before (map case_range l.ranges)))
    × (intervals_behind (standing_of l.standing) so_far (map case_range (drop l.range-index l.ranges))
    ≡ intervals_behind (standing_of l.standing) before (map case_range l.ranges))
