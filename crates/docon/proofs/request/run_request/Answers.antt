use Rattle.std.proofs.Common.{◌∙◌, Ok, Err, map, sym, subst, ap, rules}
use Rattle.std.specs.Prelude.{codes}
use Rattle.clap.specs.Words.{App}
use Rattle.docon.specs.Words.{run_app, turns_in, asks}
use Rattle.docon.specs.declared.request.Task.{Task}
use Rattle.docon.specs.Matches.{GivesMatches}
use Rattle.docon.proofs.Matching.{found-file, found-value, run-refused, run-no-turns, run-asks, run-fails}
use Rattle.docon.proofs.request.run_request.Goals as goal

pub returns-in_err-matches-clause-asked : goal.returns-in_err-matches-clause-asked
returns-in_err-matches-clause-asked c =
    let words = map (λ word. word.now) c.args.words.now in
    let fail = c.in_err-matches.field-0.0 in
    let gives = subst (λ (app : App). GivesMatches app words (Err fail)) c.in_ok-run_command.ensures c.in_err-matches.ensures in
    search (rules, run-fails words fail gives)

pub returns-in_default-clause-asked : goal.returns-in_default-clause-asked
returns-in_default-clause-asked c =
    let words = map (λ word. word.now) c.args.words.now in
    let matches = c.in_ok-matches.matches in
    let gives = subst (λ (app : App). GivesMatches app words (Ok matches)) c.in_ok-run_command.ensures c.in_ok-matches.ensures in
    run-refused words (found-file run_app words matches _ gives c.in_default.ensures)

pub returns-in_default-turns_in-clause-asked : goal.returns-in_default-turns_in-clause-asked
returns-in_default-turns_in-clause-asked c =
    let words = map (λ word. word.now) c.args.words.now in
    let matches = c.in_ok-matches.matches in
    let gives = subst (λ (app : App). GivesMatches app words (Ok matches)) c.in_ok-run_command.ensures c.in_ok-matches.ensures in
    run-no-turns words c.in-Some.file.now (found-file run_app words matches _ gives c.in-Some.ensures)
    (ap turns_in (found-value run_app words (codes "turns") matches _ gives c.value-2.ensures) ∙ sym c.in_default-turns_in.ensures.named)

pub returns-clause-asked : goal.returns-clause-asked
returns-clause-asked c =
    let words = map (λ word. word.now) c.args.words.now in
    let matches = c.in_ok-matches.matches in
    let gives = subst (λ (app : App). GivesMatches app words (Ok matches)) c.in_ok-run_command.ensures c.in_ok-matches.ensures in
    let turns = c.in-Some-turns_in.turns in
    run-asks words c.in-Some.file.now turns (found-file run_app words matches _ gives c.in-Some.ensures)
    (ap turns_in (found-value run_app words (codes "turns") matches _ gives c.value-2.ensures) ∙ sym c.in-Some-turns_in.ensures.named)
    ∙ ap (asks (Task.Run turns)) (search rules)
