use Rattle.std.proofs.Common.{◌∙◌, Ok, Err, map, subst, ap, rules}
use Rattle.clap.specs.Words.{App}
use Rattle.docon.specs.Words.{plain_app, asks}
use Rattle.docon.specs.Matches.{GivesMatches}
use Rattle.docon.proofs.Matching.{found-file, plain-refused, plain-asks, plain-fails}
use Rattle.docon.proofs.request.plain_request.Goals as goal

pub returns-in_err-matches-clause-asked : goal.returns-in_err-matches-clause-asked
returns-in_err-matches-clause-asked c =
    let words = map (λ word. word.now) c.args.words.now in
    let fail = c.in_err-matches.field-0.0 in
    let gives = subst (λ (app : App). GivesMatches app words (Err fail)) c.in_ok-plain_command.ensures c.in_err-matches.ensures in
    search (rules, plain-fails c.args.task c.args.name.now words fail gives)

pub returns-in_default-clause-asked : goal.returns-in_default-clause-asked
returns-in_default-clause-asked c =
    let words = map (λ word. word.now) c.args.words.now in
    let matches = c.in_ok-matches.matches in
    let app = plain_app c.args.name.now in
    let gives = subst (λ (app : App). GivesMatches app words (Ok matches)) c.in_ok-plain_command.ensures c.in_ok-matches.ensures in
    plain-refused words c.args.task c.args.name.now (found-file app words matches _ gives c.in_default.ensures)

pub returns-clause-asked : goal.returns-clause-asked
returns-clause-asked c =
    let words = map (λ word. word.now) c.args.words.now in
    let matches = c.in_ok-matches.matches in
    let app = plain_app c.args.name.now in
    let gives = subst (λ (app : App). GivesMatches app words (Ok matches)) c.in_ok-plain_command.ensures c.in_ok-matches.ensures in
    plain-asks words c.args.task c.args.name.now c.in-Some.file.now (found-file app words matches _ gives c.in-Some.ensures)
    ∙ ap (asks c.args.task) (search rules)
