-- One range more.
use Rattle.std.proofs.Common.{◌≡◌, ◌+◌, true, map, drop, ap, subst}
use Rattle.std.specs.List.{list_all}
use Rattle.dc_sorts.specs.Forms.{sort_of_form}
use Rattle.dc_tree.specs.Statements.{CaseRange, case_range}
use Rattle.dc_meaning.proofs.Gathering.{next-is}
use Rattle.dc_actions.specs.Naming.{scope_of}
use Rattle.dc_actions.proofs.Facts.{both-true}
use Rattle.dc_actions.proofs.Making.{grown}
use Rattle.dc_flows.specs.Flows.{further_range_code, further_ranges_code}
use Rattle.dc_flows.specs.FlowsHeld.{is_held_range}
use Rattle.dc_flows.proofs.cases.ranges.Goals as goal

pub loop-range-preserved : goal.loop-range-preserved
loop-range-preserved c =
    let scope = scope_of c.args.names.now in
    let sort = sort_of_form c.args.form in
    let asked = c.args.asked.now in
    let at = c.loop-range.range-index in
    let item = c.range-item.result in
    let rest = map case_range (drop (at + 1) asked) in
    let next = ap (map case_range) (next-is asked at item c.loop-range-test.true c.range-item.is) in
    record {
      held = (both-true (subst (λ ranges. list_all is_held_range ranges ≡ true) next c.loop-range.invariant.held)).1;
      code =
          grown c.loop-range.whats (further_range_code scope c.args.group sort (case_range item)) _ (further_ranges_code scope c.args.group sort (map case_range (drop at asked)))
          (further_ranges_code scope c.args.group sort rest) _ (ap (further_ranges_code scope c.args.group sort) next) c.in_ok-further_range.ensures c.loop-range.invariant.code;
    }
