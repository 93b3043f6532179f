use Rattle.std.proofs.Common.{map, length}
use Rattle.dc_tree.specs.Blocks.{line_of}
use Rattle.dc_nest.proofs.Units.{HasFront}
use Rattle.dc_nest.proofs.building.front.Given as goal

abbrev pub invariant-loop-front : goal.invariant-loop-front
invariant-loop-front l = HasFront (map line_of l.front) (map line_of l.fn.rest) (map line_of l.rest)

abbrev pub decreases-loop-front : goal.decreases-loop-front
decreases-loop-front l = length l.rest
