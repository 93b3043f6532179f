use Rattle.std.proofs.Common.{◌≡◌, length, map, ap, subst, sym, ◌∙◌}
use Rattle.dc_tree.specs.Blocks.{Items, items, item, items_from, source_of}
use Rattle.dc_meaning.specs.Programs.{surroundings}
use Rattle.dc_meaning.proofs.Looping.{block-items}
use Rattle.dc_lower.specs.Wholes.{AddsLoops, loops_behind, insides_have_code}
use Rattle.dc_lower.proofs.LoweredPrograms.{insides-code, built-program, lists-are-lowered}
use Rattle.dc_lower.proofs.program.code_lists.Goals as goal

pub add_loops-requires-clause-held : goal.add_loops-requires-clause-held
add_loops-requires-clause-held c =
    let symbols = c.args.symbols.now in
    let source = source_of c.args.program.now in
    let body = items (c.args.program.now).body in
    let nodes : items_from (map item c.as_slice.result.now) ≡ body = sym (block-items (c.args.program.now).body c.as_slice.result.now c.as_slice.ensures) in
    ap (insides_have_code symbols) nodes ∙ insides-code (surroundings symbols source 0) symbols 0 body (built-program symbols source c.requires.built).items c.requires.loops

pub returns-clause-lists : goal.returns-clause-lists
returns-clause-lists c =
    let symbols = c.args.symbols.now in
    let source = source_of c.args.program.now in
    let body = items (c.args.program.now).body in
    let begun = c.in_ok-made.made in
    let nodes : items_from (map item c.as_slice.result.now) ≡ body = sym (block-items (c.args.program.now).body c.as_slice.result.now c.as_slice.ensures) in
    lists-are-lowered symbols source begun c.add_loops.new.self c.requires.built c.in_ok-made.ensures.begun
    (subst (λ (of : Items). AddsLoops symbols begun c.add_loops.new.self (loops_behind symbols (length begun.constructs) of)) nodes c.in_ok-add_loops.ensures)
