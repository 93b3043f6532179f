-- What is added so far and what the rest adds is all together.
use Rattle.std.proofs.Common.{◌≡◌, ◌++◌, drop, map, IsTrue}
use Rattle.std.specs.List.{list_all}
use Rattle.dc_sorts.specs.Forms.{sort_of_form}
use Rattle.dc_tree.specs.Statements.{case_range}
use Rattle.dc_actions.specs.Naming.{scope_of}
use Rattle.dc_flows.specs.Flows.{further_ranges_code, ranges_code}
use Rattle.dc_flows.specs.FlowsHeld.{is_held_range}
use Rattle.dc_flows.proofs.cases.ranges.Given as goal

abbrev pub invariant-loop-range : goal.invariant-loop-range
invariant-loop-range l =
    record {
      held : IsTrue (list_all is_held_range (map case_range (drop l.range-index l.asked)));
      code
          : l.whats ++ further_ranges_code (scope_of l.names) l.group (sort_of_form l.form) (map case_range (drop l.range-index l.asked))
          ≡ l.fn.whats ++ ranges_code (scope_of l.names) l.group (sort_of_form l.form) (map case_range l.asked);
    }
