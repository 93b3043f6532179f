use Rattle.std.proofs.Common.{sym, ap, ◌∙◌, rules, Some, [], ◌∷◌}
use Rattle.std.specs.Prelude.{ℤ}
use Rattle.std.specs.Int.{w64}
use Rattle.std.proofs.lemmas.Int.{to_z-of_z}
use Rattle.dc_tree.specs.Blocks.{source_of, items, line_of}
use Rattle.dc_meaning.specs.Looping.{nth_loop}
use Rattle.dc_meaning.proofs.Looping.{block-items}
use Rattle.dc_meaning.proofs.ProgramLoops.{built-source, loop-built}
use Rattle.dc_walk.proofs.Passing.{loop-ends, none-ends}
use Rattle.dc_walk.proofs.Tasks.{finishes-in}
use Rattle.dc_walk.proofs.iteration.perform_loop.Goals as goal

pub perform_one-requires-clause-symbols : goal.perform_one-requires-clause-symbols
perform_one-requires-clause-symbols c = (built-source c.args.symbols.now (source_of c.args.program.now) c.requires).names

pub perform_one-requires-clause-built : goal.perform_one-requires-clause-built
perform_one-requires-clause-built c =
    let body = sym (block-items c.args.program.now.body c.as_slice.result.now c.as_slice.ensures) in
    loop-built c.args.symbols.now (source_of c.args.program.now) c.requires c.args.construct (line_of c.in-Some.found.head.now) (items c.in-Some.found.body.now)
    (c.in-Some.ensures ∙ ap (nth_loop c.args.construct) body)

pub returns-in-Some : goal.returns-in-Some
returns-in-Some c =
    let body = sym (block-items c.args.program.now.body c.as_slice.result.now c.as_slice.ensures) in
    let told = to_z-of_z w64 c.args.value (search rules) in
    loop-ends c.args.symbols.now (source_of c.args.program.now) c.requires c.args.construct (line_of c.in-Some.found.head.now) (items c.in-Some.found.body.now) c.args.value c.args.turns
    (c.in-Some.ensures ∙ ap (nth_loop c.args.construct) body) (λ counted. finishes-in (ap (λ (z : ℤ). (Some z ∷ []) ∷ []) told) (c.perform_one.ensures counted))

pub returns : goal.returns
returns c =
    let body = sym (block-items c.args.program.now.body c.as_slice.result.now c.as_slice.ensures) in
    none-ends c.args.symbols.now (source_of c.args.program.now) c.requires c.args.construct c.args.value c.args.turns (c.in-None.ensures ∙ ap (nth_loop c.args.construct) body)
