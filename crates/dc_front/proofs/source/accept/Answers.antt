use Rattle.std.proofs.lemmas.Result.{err_from_is_err_and}
use Rattle.dc_tree.specs.Blocks.{source_of}
use Rattle.dc_front.proofs.Accepting.{refused-so, refused-types}
use Rattle.dc_front.proofs.source.accept.Goals as goal

pub returns-in_err-program : goal.returns-in_err-program
returns-in_err-program c =
    let p = err_from_is_err_and c.from_residual.result c.from_residual.ensures.1 in
    rw (p.1, p.2) (refused-so c.args.text.now c.in_err-program.field-0.0 c.in_err-program.ensures)

pub returns-in_err-check_types : goal.returns-in_err-check_types
returns-in_err-check_types c =
    let p = err_from_is_err_and c.from_residual-in_err-check_types.result c.from_residual-in_err-check_types.ensures.1 in
    rw (p.1, p.2)
    (refused-types c.args.text.now (source_of c.in_ok-program.program) c.in_ok-symbols.symbols c.in_err-check_types.field-0.0 c.in_ok-program.ensures c.in_ok-symbols.ensures c.in_err-check_types.ensures)
