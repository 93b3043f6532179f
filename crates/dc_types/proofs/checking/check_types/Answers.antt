-- What was noted is the least finding.
use Rattle.std.proofs.Common.{◌≡◌, Result, sym, subst, ◌∙◌, ap}
use Rattle.dc_tree.specs.declared.fail.Fail.{Fail}
use Rattle.dc_tree.specs.declared.fail.Refusal.{Refusal}
use Rattle.dc_tree.specs.Blocks.{source_of}
use Rattle.dc_tree.specs.Findings.{least_of, least_with_all}
use Rattle.dc_types.specs.Types.{Answers, type_findings}
use Rattle.dc_types.proofs.Answering.{answered}
use Rattle.dc_types.proofs.checking.check_types.Goals as goal
use Rattle.std.proofs.Common.{Option}

pub returns : goal.returns
returns c =
    let symbols = c.args.symbols.now in
    let source = source_of c.args.program.now in
    let least : least_of (type_findings symbols source) ≡ c.note_program.new.found =
    sym (c.in_ok-note_program.ensures ∙ ap (λ (none : Option Refusal). least_with_all none (type_findings symbols source)) c.none-found.ensures) in
    subst (λ (result : Result (Unit {0}) Fail). Answers symbols source result) (sym c.pass.ensures) (answered symbols source c.note_program.new.found least)
