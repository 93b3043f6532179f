-- What is counted so far and what the rest has are all together.
use Rattle.std.proofs.Common.{◌≡◌, ◌+◌, drop, map, IsTrue}
use Rattle.dc_sorts.specs.Forms.{sort_of_form}
use Rattle.dc_tree.specs.Blocks.{arms_from, item, items, items_from, part_items}
use Rattle.dc_actions.specs.Naming.{scope_of}
use Rattle.dc_flows.specs.Flows.{arms_size, block_size, cases_size}
use Rattle.dc_flows.specs.FlowsHeld.{arms_have_code, block_has_code, cases_have_code}
use Rattle.dc_flows.proofs.sizes.+sizes.Given as goal

abbrev pub invariant-arms_size-loop-arm : goal.invariant-arms_size-loop-arm
invariant-arms_size-loop-arm l =
    record {
      held : IsTrue (arms_have_code (scope_of l.names) (arms_from (map part_items (drop l.arm-index l.arms))));
      size
          : l.size + arms_size (scope_of l.names) (arms_from (map part_items (drop l.arm-index l.arms)))
          ≡ arms_size (scope_of l.names) (arms_from (map part_items l.arms));
    }

abbrev pub invariant-block_size-loop-node : goal.invariant-block_size-loop-node
invariant-block_size-loop-node l =
    record {
      held : IsTrue (block_has_code (scope_of l.names) (items_from (map item (drop l.node-index l.node-items))));
      size
          : l.size + block_size (scope_of l.names) (items_from (map item (drop l.node-index l.node-items)))
          ≡ block_size (scope_of l.names) (items l.block);
    }

abbrev pub invariant-cases_size-loop-arm : goal.invariant-cases_size-loop-arm
invariant-cases_size-loop-arm l =
    record {
      held : IsTrue (cases_have_code (scope_of l.names) (arms_from (map part_items (drop l.arm-index l.arms))));
      size
          : l.size + cases_size (scope_of l.names) (sort_of_form l.form) (arms_from (map part_items (drop l.arm-index l.arms))) l.otherwise
          ≡ cases_size (scope_of l.names) (sort_of_form l.form) (arms_from (map part_items l.arms)) 0;
    }
