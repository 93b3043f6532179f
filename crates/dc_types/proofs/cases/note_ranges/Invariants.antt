-- What is noted so far and what the rest breaks is all together.
use Rattle.std.proofs.Common.{◌≡◌, drop, map}
use Rattle.dc_tree.specs.Findings.{least_with_all}
use Rattle.dc_tree.specs.Statements.{case_range}
use Rattle.dc_sorts.specs.Standing.{standing_of}
use Rattle.dc_types.specs.Types.{each_range_findings}
use Rattle.dc_types.proofs.cases.note_ranges.Given as goal

abbrev pub invariant-loop-range : goal.invariant-loop-range
invariant-loop-range l =
    least_with_all l.found (each_range_findings (standing_of l.standing) l.line l.form (map case_range (drop l.range-index l.ranges)))
    ≡ least_with_all l.fn.found (each_range_findings (standing_of l.standing) l.line l.form (map case_range l.ranges))
