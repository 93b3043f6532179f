-- What is added so far and what the rest adds is all together.
use Rattle.std.proofs.Common.{◌≡◌, ◌++◌, drop, length, map, IsTrue}
use Rattle.dc_tree.specs.Blocks.{item, items_from}
use Rattle.dc_lower.specs.Blocks.{block_code, texts_of_block, groups_of_block}
use Rattle.dc_lower.specs.Held.{block_has_code}
use Rattle.dc_actions.specs.Naming.{scope_of}
use Rattle.dc_lower.proofs.blocks.Lowering.block.Given as goal

abbrev pub invariant-loop-node : goal.invariant-loop-node
invariant-loop-node l =
    record {
      held : IsTrue (block_has_code (scope_of l.names) (items_from (map item (drop l.node-index l.nodes))));
      instructions : (l.self).instructions ++ block_code (scope_of l.names) (length (l.self).texts) (length (l.self).groups) (l.self).loops (items_from (map item (drop l.node-index l.nodes)))
          ≡ (l.fn.self).instructions ++ block_code (scope_of l.names) (length (l.fn.self).texts) (length (l.fn.self).groups) (l.fn.self).loops (items_from (map item l.nodes));
      texts : (l.self).texts ++ texts_of_block (items_from (map item (drop l.node-index l.nodes))) ≡ (l.fn.self).texts ++ texts_of_block (items_from (map item l.nodes));
      groups : (l.self).groups ++ groups_of_block (scope_of l.names) (items_from (map item (drop l.node-index l.nodes))) ≡ (l.fn.self).groups ++ groups_of_block (scope_of l.names) (items_from (map item l.nodes));
    }
