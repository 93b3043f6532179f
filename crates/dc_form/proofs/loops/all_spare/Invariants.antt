use Rattle.std.proofs.Common.{◌≡◌, map, drop}
use Rattle.dc_tree.specs.Blocks.{item, items_from}
use Rattle.dc_form.specs.BuiltPrograms.{all_spare}
use Rattle.dc_form.proofs.loops.all_spare.Given as goal

abbrev pub invariant-loop-node : goal.invariant-loop-node
invariant-loop-node l = all_spare l.index (items_from (map item (drop l.node-index l.nodes))) ≡ all_spare l.index (items_from (map item l.fn.nodes))
