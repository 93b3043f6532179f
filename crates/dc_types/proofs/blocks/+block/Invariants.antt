-- What is noted so far and what the rest breaks is all together.
use Rattle.std.proofs.Common.{◌≡◌, drop, map}
use Rattle.dc_tree.specs.Blocks.{arms_from, item, items, items_from, part_items}
use Rattle.dc_tree.specs.Findings.{least_with_all}
use Rattle.dc_sorts.specs.Standing.{standing_of}
use Rattle.dc_types.specs.Types.{arm_findings, items_findings}
use Rattle.dc_types.proofs.blocks.+block.Given as goal

abbrev pub invariant-note_arms-loop-arm : goal.invariant-note_arms-loop-arm
invariant-note_arms-loop-arm l =
    least_with_all l.found (arm_findings (standing_of l.standing) l.selector (arms_from (map part_items (drop l.arm-index l.arms))))
    ≡ least_with_all l.fn.found (arm_findings (standing_of l.standing) l.selector (arms_from (map part_items l.arms)))

abbrev pub invariant-note_block-loop-node : goal.invariant-note_block-loop-node
invariant-note_block-loop-node l =
    least_with_all l.found (items_findings (standing_of l.standing) (items_from (map item (drop l.node-index l.node-items))))
    ≡ least_with_all l.fn.found (items_findings (standing_of l.standing) (items l.block))
