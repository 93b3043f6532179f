use Rattle.std.proofs.Common.{sym, subst, map, Err}
use Rattle.clap.specs.Words.{app_of, kind_of}
use Rattle.docon.specs.declared.request.WordsFail.{WordsFail}
use Rattle.docon.specs.Matches.{GivesMatches}
use Rattle.docon.proofs.Matching.{taken, is_simple_too, err-gives}
use Rattle.docon.proofs.command.matches_in.Goals as goal

pub returns-in-Ok : goal.returns-in-Ok
returns-in-Ok c =
    let app = app_of c.args.command in
    let words = map (λ word. word.now) c.args.words.now in
    (taken app words (c.in-Ok.ensures.kinds c.requires), (c.in-Ok.ensures.matches (is_simple_too app c.requires)).0)

pub returns-in-Err : goal.returns-in-Err
returns-in-Err c =
    let app = app_of c.args.command in
    let words = map (λ word. word.now) c.args.words.now in
    subst (λ (fail : WordsFail). GivesMatches app words (Err fail)) (sym c.failed.ensures) (err-gives app words (kind_of c.in-Err.error) (c.in-Err.ensures.kinds c.requires))
