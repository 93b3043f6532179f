use Rattle.std.proofs.Common.{◌+◌, List, length, map, drop, ap, sym, subst, ◌∙◌}
use Rattle.std.proofs.lemmas.Bool.{and_parts}
use Rattle.std.proofs.lemmas.List.{drop_all}
use Rattle.dc_tree.specs.declared.program.Node.{Node}
use Rattle.dc_tree.specs.Blocks.{Items, item, items_from}
use Rattle.dc_form.specs.BuiltPrograms.{is_built_item, are_built_items}
use Rattle.dc_tree.specs.Entities.{main_scope}
use Rattle.dc_lower.specs.Wholes.{AddsLoops, loops_behind, inside_has_code, insides_have_code}
use Rattle.dc_lower.proofs.LoweredLoops.{adds-next, adds-none, items-next}
use Rattle.dc_lower.proofs.program.Lists.add_loops.Goals as goal

pub loop-node-preserved : goal.loop-node-preserved
loop-node-preserved c =
    let symbols = c.args.symbols.now in
    let nodes = c.args.nodes.now in
    let at = c.loop-node.node-index in
    let node = c.node-item.result in
    let scope = main_scope symbols in
    let rest = items_from (map item (drop (at + 1) nodes)) in
    let next = items-next nodes at node c.loop-node-test.true c.node-item.is in
    let built = and_parts (is_built_item scope (item node)) (are_built_items scope rest) (sym (ap (are_built_items scope) next) ∙ c.loop-node.invariant.built) in
    let held = and_parts (inside_has_code symbols (item node)) (insides_have_code symbols rest) (sym (ap (insides_have_code symbols) next) ∙ c.loop-node.invariant.held) in
    record {
      built = built.1;
      held = held.1;
      shapes = c.in_ok-add_node.ensures.shapes ∙ c.loop-node.invariant.shapes;
      left = λ after more.
          c.loop-node.invariant.left after
          (subst (λ (of : Items). AddsLoops symbols c.loop-node.self after (loops_behind symbols (length (c.loop-node.self).constructs) of)) (sym next)
          (adds-next symbols c.loop-node.self c.add_node.new.self after (item node) rest c.in_ok-add_node.ensures more));
    }

pub returns : goal.returns
returns c =
    let symbols = c.args.symbols.now in
    let nodes = c.args.nodes.now in
    let at = c.loop-node.node-index in
    let number = length (c.loop-node.self).constructs in
    c.loop-node.invariant.left c.loop-node.self
    (subst (λ (of : List Node). AddsLoops symbols c.loop-node.self c.loop-node.self (loops_behind symbols number (items_from (map item of)))) (sym (drop_all at nodes c.loop-node-test.false))
    (adds-none symbols c.loop-node.self))
