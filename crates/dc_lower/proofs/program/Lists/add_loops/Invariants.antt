-- What is added with the rest behind is all together.
use Rattle.std.proofs.Common.{◌≡◌, drop, length, map, IsTrue}
use Rattle.dc_tree.specs.Blocks.{item, items_from}
use Rattle.dc_form.specs.BuiltPrograms.{are_built_items}
use Rattle.dc_tree.specs.Entities.{main_scope}
use Rattle.dc_lower.specs.declared.program.Lists.{Lists}
use Rattle.dc_lower.specs.Variables.{shapes_of}
use Rattle.dc_lower.specs.Wholes.{AddsLoops, loops_behind, insides_have_code}
use Rattle.dc_lower.proofs.program.Lists.add_loops.Given as goal

abbrev pub invariant-loop-node : goal.invariant-loop-node
invariant-loop-node l =
    record {
      built : IsTrue (are_built_items (main_scope l.symbols) (items_from (map item (drop l.node-index l.nodes))));
      held : IsTrue (insides_have_code l.symbols (items_from (map item (drop l.node-index l.nodes))));
      shapes : (l.self).shapes ≡ shapes_of l.symbols;
      left : (after : Lists) → AddsLoops l.symbols l.self after (loops_behind l.symbols (length (l.self).constructs) (items_from (map item (drop l.node-index l.nodes))))
          → AddsLoops l.symbols l.fn.self after (loops_behind l.symbols (length (l.fn.self).constructs) (items_from (map item l.nodes)));
    }
