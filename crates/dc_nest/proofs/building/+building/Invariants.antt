use Rattle.std.proofs.Common.{◌+◌, ◌*◌, ◌≤◌, length, map}
use Rattle.dc_tree.specs.Blocks.{line_of, part_items}
use Rattle.dc_nest.specs.Ahead.{BlockAhead, ArmsAhead}
use Rattle.dc_nest.proofs.Reading.{HasRead, HasArms}
use Rattle.dc_nest.proofs.building.+building.Given as goal

abbrev pub decreases-part : goal.decreases-part
decreases-part l = 4 * length l.rest.now

abbrev pub decreases-with_arms : goal.decreases-with_arms
decreases-with_arms l = 4 * length l.rest.now + 1

abbrev pub decreases-branch : goal.decreases-branch
decreases-branch l = 4 * length l.rest.now + 1

abbrev pub decreases-selection : goal.decreases-selection
decreases-selection l = 4 * length l.rest.now + 1

abbrev pub decreases-looping : goal.decreases-looping
decreases-looping l = 4 * length l.rest.now + 1

abbrev pub decreases-node : goal.decreases-node
decreases-node l = 4 * length l.rest.now + 2

abbrev pub decreases-block : goal.decreases-block
decreases-block l = 4 * length l.rest.now + 3

abbrev pub invariant-with_arms-loop-alloc : goal.invariant-with_arms-loop-alloc
invariant-with_arms-loop-alloc l = record {
  has : HasArms l.wanted (map part_items l.fn.arms) (map part_items l.arms) (map line_of l.fn.rest) (map line_of l.rest);
  ahead : ArmsAhead l.wanted (map line_of l.rest);
  within : length l.rest ≤ length l.fn.rest;
}

abbrev pub decreases-with_arms-loop-alloc : goal.decreases-with_arms-loop-alloc
decreases-with_arms-loop-alloc l = length l.rest

abbrev pub invariant-block-loop-alloc : goal.invariant-block-loop-alloc
invariant-block-loop-alloc l = record {
  read : HasRead l.nodes (map line_of l.fn.rest) (map line_of l.rest);
  ahead : BlockAhead (map line_of l.rest);
  within : length l.rest ≤ length l.fn.rest;
}

abbrev pub decreases-block-loop-alloc : goal.decreases-block-loop-alloc
decreases-block-loop-alloc l = length l.rest
