use Rattle.std.proofs.Common.{◌-◌, drop, map, ℕ, IsTrue}
use Rattle.std.specs.Prelude.{Result, option_map}
use Rattle.std.specs.Option.{option_copied}
use Rattle.dc_int.specs.Sorts.{whole}
use Rattle.dc_code.specs.declared.frame.Place.{Place}
use Rattle.dc_code.specs.Combinations.{value_count}
use Rattle.dc_plain.specs.Views.{View}
use Rattle.dc_tree.specs.Blocks.{arms_from, item, items, items_from, part_items}
use Rattle.dc_tree.specs.Syntax.{tree}
use Rattle.dc_meaning.specs.declared.stop.Stop.{Stop}
use Rattle.dc_meaning.specs.Execution.{exec_all, exec_arms, while_do, stepped}
use Rattle.dc_meaning.specs.WalkScope.{scope_of, own_of, index_names}
use Rattle.dc_walk.specs.declared.flow.Flow.{Flow}
use Rattle.dc_walk.specs.Counting.{scalar_element, span_with}
use Rattle.dc_walk.specs.Flows.{Spends}
use Rattle.dc_walk.specs.Rounds.{test_value}
use Rattle.dc_walk.specs.Walked.{is_walked_block, are_walked_arms}
use Rattle.dc_walk.proofs.Rounding.{rounds, counts}
use Rattle.dc_walk.proofs.block.+blocks.Given as goal

abbrev pub invariant-perform_all-loop-node : goal.invariant-perform_all-loop-node
invariant-perform_all-loop-node l =
    record {
      walked : IsTrue (is_walked_block (scope_of l.walk) (index_names l.walk.standing) (items_from (map item (drop l.node-index l.nodes))));
      rest : (number left : ℕ) (after : View) (r : Result Flow Stop)
          → Spends (own_of l.walk) l.turns l.ledger (λ call. exec_all (scope_of l.walk) call number (items_from (map item (drop l.node-index l.nodes)))) left after r
          → Spends (own_of l.walk) l.fn.turns l.fn.ledger (λ call. exec_all (scope_of l.walk) call number (items_from (map item l.nodes))) left after r;
    }

abbrev pub invariant-perform_arms-loop-arm : goal.invariant-perform_arms-loop-arm
invariant-perform_arms-loop-arm l =
    record {
      walked : IsTrue (are_walked_arms (scope_of l.walk) (index_names l.walk.standing) (arms_from (map part_items (drop l.arm-index l.arms))));
      rest : (number left : ℕ) (after : View) (r : Result Flow Stop)
          → Spends (own_of l.walk) l.turns l.ledger (λ call. exec_arms (scope_of l.walk) call number (arms_from (map part_items (drop l.arm-index l.arms)))) left after r
          → Spends (own_of l.walk) l.fn.turns l.fn.ledger (λ call. exec_arms (scope_of l.walk) call number (arms_from (map part_items l.arms))) left after r;
    }

abbrev pub invariant-perform_rounds-loop : goal.invariant-perform_rounds-loop
invariant-perform_rounds-loop l =
    (number left : ℕ) (after : View) (r : Result Flow Stop)
    → Spends (own_of l.walk) l.turns l.ledger
    (counts l.line l.label (stepped l.line (Place.Outer (scalar_element l.scalar)) (whole l.scalar.kind) l.steps.step) (λ call. exec_all (scope_of l.walk) call number (items l.body)) (l.end - l.counter)) left after r
    → Spends (own_of l.walk) l.fn.turns l.fn.ledger
    (counts l.line l.label (stepped l.line (Place.Outer (scalar_element l.scalar)) (whole l.scalar.kind) l.steps.step) (λ call. exec_all (scope_of l.walk) call number (items l.body)) (value_count (span_with l.steps))) left after r

abbrev pub invariant-perform_while-loop : goal.invariant-perform_while-loop
invariant-perform_while-loop l =
    (number left : ℕ) (after : View) (r : Result Flow Stop)
    → Spends (own_of l.walk) l.turns l.ledger
    (rounds (scope_of l.walk) l.line l.label (option_map tree (option_copied l.test)) (λ call. exec_all (scope_of l.walk) call number (items l.body)) (l.end - l.counter)) left after r
    → Spends (own_of l.walk) l.fn.turns l.fn.ledger
    (λ call. while_do l.line l.label (test_value (scope_of l.walk) call l.line (option_map tree (option_copied l.test))) (exec_all (scope_of l.walk) call number (items l.body))) left after r
