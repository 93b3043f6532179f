use Rattle.std.proofs.Common.{◌≡◌, map, drop}
use Rattle.dc_tree.specs.Blocks.{item, items_from}
use Rattle.dc_form.specs.BuiltPrograms.{is_built_block}
use Rattle.dc_form.proofs.loops.is_built_block.Given as goal

abbrev pub invariant-loop-node : goal.invariant-loop-node
invariant-loop-node l = is_built_block (items_from (map item (drop l.node-index l.nodes))) ≡ is_built_block (items_from (map item l.fn.nodes))
