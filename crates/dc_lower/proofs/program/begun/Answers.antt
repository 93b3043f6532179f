use Rattle.std.proofs.Common.{ap, ◌∙◌}
use Rattle.dc_tree.specs.Blocks.{items, source_of}
use Rattle.dc_tree.specs.Entities.{Scope, main_scope}
use Rattle.dc_lower.specs.Held.{block_has_code}
use Rattle.dc_lower.proofs.LoweredPrograms.{main-block-code, built-program}
use Rattle.dc_lower.proofs.program.begun.Goals as goal

pub part-requires-clause-held : goal.part-requires-clause-held
part-requires-clause-held c =
    let symbols = c.args.symbols.now in
    let source = source_of c.args.program.now in
    let body = items (c.args.program.now).body in
    ap (λ (scope : Scope). block_has_code scope body) c.names_within-names.ensures.scope
    ∙ main-block-code (main_scope symbols) body (built-program symbols source c.requires.lowerable.built).items c.requires.lowerable.lowered
