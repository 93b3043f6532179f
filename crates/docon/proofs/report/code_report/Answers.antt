use Rattle.std.proofs.Common.{List, sym, ap, subst, ◌∙◌}
use Rattle.std.specs.List.{list_all}
use Rattle.dc_tree.specs.declared.program.Program.{Program}
use Rattle.dc_tree.specs.declared.symbols.Symbol.{Symbol}
use Rattle.dc_tree.specs.Blocks.{source_of}
use Rattle.dc_tree.specs.Symbols.{is_sound}
use Rattle.dc_lower.specs.Lowerable.{IsLowerable}
use Rattle.dc_run.proofs.Lowering.{runnable-lowerable}
use Rattle.docon.proofs.report.code_report.Goals as goal

pub lower-requires : goal.lower-requires
lower-requires c =
    let symbols = c.args.accepted.now.symbols in
    let source = source_of c.args.accepted.now.program in
    let names = c.symbols-symbols.ensures.value in
    let sound = sym (ap (list_all is_sound) names) ∙ c.as_slice-sound.ensures.sound in
    subst (λ (given : List Symbol). IsLowerable given (source_of c.program.result.now)) (sym names)
    (subst (λ (program : Program). IsLowerable symbols (source_of program)) (sym c.program.ensures.value) (runnable-lowerable symbols source c.symbols-symbols.ensures.runnable sound))
