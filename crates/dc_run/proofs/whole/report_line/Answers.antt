use Rattle.std.proofs.Common.{List, sym, subst}
use Rattle.dc_tree.specs.declared.symbols.Symbol.{Symbol}
use Rattle.dc_tree.specs.Blocks.{source_of}
use Rattle.dc_meaning.proofs.ProgramLoops.{built-source}
use Rattle.dc_run.specs.Answered.{NamesThere}
use Rattle.dc_run.proofs.Owned.{names-there}
use Rattle.dc_run.proofs.whole.report_line.Goals as goal

pub ending_line-requires : goal.ending_line-requires
ending_line-requires c =
    let symbols = c.args.accepted.now.symbols in
    let built = built-source symbols (source_of c.args.accepted.now.program) c.symbols.ensures.runnable.built in
    subst (λ (symbols : List Symbol). NamesThere symbols c.args.ending.now) (sym c.symbols.ensures.value) (names-there symbols built.names c.args.ending.now c.requires)
