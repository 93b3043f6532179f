use Rattle.std.proofs.Common.{refl}
use Rattle.std.proofs.lemmas.Result.{err_from_is_err_and}
use Rattle.dc_phases.proofs.Items.{tokens-refused, tokens-kept}
use Rattle.dc_phases.proofs.tokened.tokens_of.Goals as goal

pub returns-in_err-tokens : goal.returns-in_err-tokens
returns-in_err-tokens c =
    let p = err_from_is_err_and c.from_residual.result c.from_residual.ensures.1 in
    rw (p.1, p.2) (tokens-refused c.args.statement.now c.in_err-tokens.field-0.0 (c.in_err-tokens.ensures))

pub returns : goal.returns
returns c = ((refl, c.in_ok-tokens.ensures), tokens-kept c.args.statement.now c.in_ok-tokens.tokens c.in_ok-tokens.ensures)
