use Rattle.std.proofs.Common.{◌≡◌, map, drop}
use Rattle.dc_tree.specs.Blocks.{item, items_from}
use Rattle.dc_form.specs.BuiltPrograms.{are_built_items}
use Rattle.dc_tree.specs.Entities.{main_scope}
use Rattle.dc_form.proofs.program.are_built_items.Given as goal

abbrev pub invariant-loop-node : goal.invariant-loop-node
invariant-loop-node l = are_built_items (main_scope l.symbols) (items_from (map item (drop l.node-index l.nodes))) ≡ are_built_items (main_scope l.symbols) (items_from (map item l.fn.nodes))
