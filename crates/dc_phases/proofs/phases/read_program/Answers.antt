use Rattle.std.proofs.lemmas.Result.{err_from_is_err_and}
use Rattle.dc_phases.proofs.Answering.{lines-refused, tokens-refused, statements-refused, nested-so}
use Rattle.dc_phases.proofs.phases.read_program.Goals as goal

pub returns-in_err-statements : goal.returns-in_err-statements
returns-in_err-statements c =
    let p = err_from_is_err_and c.from_residual.result c.from_residual.ensures.1 in
    rw (p.1, p.2) (lines-refused c.args.text.now c.in_err-statements.field-0.0 c.if-text-gt-MOST_BYTES.false c.in_err-statements.ensures)

pub returns-in_err-tokens : goal.returns-in_err-tokens
returns-in_err-tokens c =
    let p = err_from_is_err_and c.from_residual-in_err-tokens.result c.from_residual-in_err-tokens.ensures.1 in
    rw (p.1, p.2) (tokens-refused c.args.text.now c.in_ok-statements.statements c.in_err-tokens.field-0.0 c.if-text-gt-MOST_BYTES.false c.in_ok-statements.ensures c.in_err-tokens.ensures)

pub returns-in_err-list : goal.returns-in_err-list
returns-in_err-list c =
    let p = err_from_is_err_and c.from_residual-in_err-list.result c.from_residual-in_err-list.ensures.1 in
    rw (p.1, p.2) (statements-refused c.args.text.now c.in_ok-statements.statements c.in_ok-tokens.tokens c.in_err-list.field-0.0 c.if-text-gt-MOST_BYTES.false c.in_ok-statements.ensures c.in_ok-tokens.ensures c.in_err-list.ensures)

pub returns : goal.returns
returns c =
    nested-so c.args.text.now c.in_ok-statements.statements c.in_ok-tokens.tokens c.in_ok-list.list c.nest.result c.if-text-gt-MOST_BYTES.false c.in_ok-statements.ensures c.in_ok-tokens.ensures c.in_ok-list.ensures c.nest.ensures
