use Rattle.std.proofs.Common.{◌≡◌, drop, map}
use Rattle.dc_tree.specs.Blocks.{item, items_from}
use Rattle.dc_meaning.specs.Looping.{nth_loop}
use Rattle.dc_walk.proofs.loops.nth_loop.Given as goal

abbrev pub invariant-loop-node : goal.invariant-loop-node
invariant-loop-node l = nth_loop l.left (items_from (map item (drop l.node-index l.nodes))) ≡ nth_loop l.number (items_from (map item l.nodes))
