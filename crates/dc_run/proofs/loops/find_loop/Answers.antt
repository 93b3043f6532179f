use Rattle.std.proofs.Common.{◌≡◌, ◌<◌, ℕ, List, length, sym, ap, ◌∙◌}
use Rattle.std.proofs.lemmas.Option.{slice_get-get_or}
use Rattle.std.specs.Prelude.{slice_get, slice_index_or, map}
use Rattle.dc_tree.specs.declared.program.Node.{Node}
use Rattle.dc_tree.specs.Blocks.{item}
use Rattle.dc_run.specs.LoopPlaces.{loop_places}
use Rattle.dc_run.proofs.LoopPlaces.{IsLoopAt, loop-at, is-loop, no-plain, no-branch, no-select}
use Rattle.dc_run.proofs.loops.find_loop.Goals as goal

found : (loops : List ℕ) (nodes : List Node) (number : ℕ) → loops ≡ loop_places 0 (map item nodes) → number < length loops → IsLoopAt nodes number (slice_index_or loops number 0)
found loops nodes number are there = loop-at nodes number (slice_index_or loops number 0) (ap (λ all. slice_get all number) (sym are) ∙ slice_get-get_or loops number 0 there)

pub node_at-node-requires : goal.node_at-node-requires
node_at-node-requires c = (found c.args.task.loops.now c.args.task.nodes.now c.args.number c.requires.places c.requires.there).inside

pub unreachable-requires : goal.unreachable-requires
unreachable-requires c =
    let it = found c.args.task.loops.now c.args.task.nodes.now c.args.number c.requires.places c.requires.there in
    no-plain c.args.task.nodes.now c.args.number _ it c.node_at-node.result.now c.in-Plain.field-0 c.node_at-node.ensures c.in-Plain.is

pub unreachable-requires-in-If : goal.unreachable-requires-in-If
unreachable-requires-in-If c =
    let it = found c.args.task.loops.now c.args.task.nodes.now c.args.number c.requires.places c.requires.there in
    no-branch c.args.task.nodes.now c.args.number _ it c.node_at-node.result.now _ _ c.node_at-node.ensures c.in-If.is

pub unreachable-requires-in-Select : goal.unreachable-requires-in-Select
unreachable-requires-in-Select c =
    let it = found c.args.task.loops.now c.args.task.nodes.now c.args.number c.requires.places c.requires.there in
    no-select c.args.task.nodes.now c.args.number _ it c.node_at-node.result.now _ _ _ c.node_at-node.ensures c.in-Select.is

pub returns-clause-found : goal.returns-clause-found
returns-clause-found c =
    let it = found c.args.task.loops.now c.args.task.nodes.now c.args.number c.requires.places c.requires.there in
    is-loop c.args.task.nodes.now c.args.number _ it c.node_at-node.result.now c.in-Loop.head c.in-Loop.body c.in-Loop.close c.node_at-node.ensures c.in-Loop.is
