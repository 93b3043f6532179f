use Rattle.std.proofs.Common.{◌≡◌, List, map, subst, arith}
use Rattle.std.proofs.lemmas.List.{drop_all}
use Rattle.dc_tree.specs.Findings.{least_with_all}
use Rattle.dc_tree.specs.Statements.{case_range}
use Rattle.dc_tree.proofs.Findings.{notes}
use Rattle.dc_sorts.specs.Standing.{standing_of}
use Rattle.dc_scope.specs.declared.interval.Interval.{Interval}
use Rattle.dc_scope.specs.Covers.{Covers}
use Rattle.dc_scope.specs.Cases.{with_interval, interval_of, range_findings, intervals_behind}
use Rattle.dc_scope.proofs.casing.note_ranges.Goals as goal

pub loop-range-preserved : goal.loop-range-preserved
loop-range-preserved c before covers =
    let held = c.loop-range.invariant before covers in
    let range = case_range c.range-item.result in
    let standing = standing_of c.args.standing.now in
    let found : c.note_range.new.found ≡ least_with_all c.loop-range.found (range_findings standing c.args.line held.0 range) = c.in_ok-note_range.ensures.findings held.0 held.1 in
    (with_interval held.0 (interval_of standing range), c.in_ok-note_range.ensures.values held.0 held.1, grind (arith, notes, found, held.2), grind (arith, notes, held.3))

pub returns-clause-values : goal.returns-clause-values
returns-clause-values c before covers =
    let held = c.loop-range.invariant before covers in
    let all : held.0 ≡ intervals_behind (standing_of c.args.standing.now) before (map case_range c.args.ranges.now) = grind (arith, drop_all c.loop-range.range-index c.args.ranges.now c.loop-range-test.false, held.3) in
    subst (λ (intervals : List Interval). Covers c.loop-range.values intervals) all held.1
