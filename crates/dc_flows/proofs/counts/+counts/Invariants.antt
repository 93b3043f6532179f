-- What is counted so far and what the rest have are all together.
use Rattle.std.proofs.Common.{◌≡◌, ◌+◌, drop, map}
use Rattle.dc_tree.specs.Blocks.{arms_from, item, items, items_from, part_items}
use Rattle.dc_meaning.specs.Execution.{loops_in_all, loops_in_arms}
use Rattle.dc_flows.proofs.counts.+counts.Given as goal

abbrev pub invariant-arms_loops-loop-arm : goal.invariant-arms_loops-loop-arm
invariant-arms_loops-loop-arm l =
    l.count + loops_in_arms (arms_from (map part_items (drop l.arm-index l.arms))) ≡ loops_in_arms (arms_from (map part_items l.arms))

abbrev pub invariant-block_loops-loop-node : goal.invariant-block_loops-loop-node
invariant-block_loops-loop-node l =
    l.count + loops_in_all (items_from (map item (drop l.node-index l.node-items))) ≡ loops_in_all (items l.block)
