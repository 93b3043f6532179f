use Rattle.std.proofs.Common.{◌≢◌, List, sym, ap, subst, ◌∙◌}
use Rattle.std.proofs.lemmas.Result.{IfOk-weaker}
use Rattle.std.specs.List.{list_all}
use Rattle.dc_code.specs.declared.verdict.Verdict.{Verdict}
use Rattle.dc_tree.specs.declared.program.Program.{Program}
use Rattle.dc_tree.specs.declared.symbols.Symbol.{Symbol}
use Rattle.dc_tree.specs.Blocks.{source_of}
use Rattle.dc_tree.specs.Symbols.{is_sound}
use Rattle.dc_lower.specs.Lowerable.{IsLowerable}
use Rattle.dc_run.specs.declared.ending.Ending.{Ending}
use Rattle.dc_run.specs.declared.ending.RunOut.{RunOut}
use Rattle.dc_run.specs.Answered.{ending_of, IsRunOf}
use Rattle.dc_run.specs.Headline.{Reports}
use Rattle.dc_run.proofs.Lowering.{runnable-lowerable}
use Rattle.dc_run.proofs.Reporting.{reports, never-goes_on}
use Rattle.dc_run.proofs.whole.run.Goals as goal

pub run_program-requires : goal.run_program-requires
run_program-requires g c =
    let symbols = c.args.accepted.now.symbols in
    let source = source_of c.args.accepted.now.program in
    let sound = sym (ap (list_all is_sound) c.symbols-symbols.ensures.value) ∙ c.as_slice-sound.ensures.sound in
    subst (λ names. IsLowerable names (source_of c.program.result.now)) (sym c.symbols-symbols.ensures.value)
    (subst (λ (program : Program). IsLowerable symbols (source_of program)) (sym c.program.ensures.value) (runnable-lowerable symbols source c.symbols-symbols.ensures.runnable sound))

pub returns-clause-reports : goal.returns-clause-reports
returns-clause-reports g c =
    let symbols = c.args.accepted.now.symbols in
    let source = source_of c.args.accepted.now.program in
    let given = c.args.input.now in
    let turns = c.args.turns in
    IfOk-weaker c.run_program.result _ (λ (out : RunOut). Reports symbols source turns given out.output (ending_of symbols out.ending))
    (λ out is.
    reports symbols source turns given out (sym (ap (list_all is_sound) c.symbols-symbols.ensures.value) ∙ c.as_slice-sound.ensures.sound) c.symbols-symbols.ensures.runnable.built
    (subst (λ (symbols : List Symbol). IsRunOf symbols source turns given out) c.symbols-symbols.ensures.value
    (subst (λ (program : Program). IsRunOf c.symbols-symbols.result.now (source_of program) turns given out) c.program.ensures.value (is given))))
    c.run_program.ensures.is

pub returns-clause-stops : goal.returns-clause-stops
returns-clause-stops g c =
    let symbols = c.args.accepted.now.symbols in
    let source = source_of c.args.accepted.now.program in
    IfOk-weaker c.run_program.result (λ (out : RunOut). Reports symbols source c.args.turns c.args.input.now out.output (ending_of symbols out.ending)) (λ (out : RunOut). out.ending ≢ Ending.Stopped Verdict.GoOn)
    (λ out reported. never-goes_on symbols out.ending reported.visits reported.ends)
    (returns-clause-reports g c)
