use Rattle.std.proofs.Common.{arith, refl}
use Rattle.std.proofs.lemmas.Option.{slice_get_read}
use Rattle.dc_plain.proofs.Variables.{put-found, put-past}
use Rattle.dc_plain.proofs.ledger.put.Goals as goal

pub returns-then-place-len : goal.returns-then-place-len
returns-then-place-len c =
    let variables = c.args.variables.now.items in
    let found = slice_get_read variables _ c.args.element.variable c.index_mut.result.now refl (omega (arith, c.len.ensures, c.if-place-len.true)) c.index_mut.ensures.value in
    put-found variables c.args.element c.args.state c.index_mut.result.now c.put_cell.new.variable found c.put_cell.ensures

pub returns-else-place-len : goal.returns-else-place-len
returns-else-place-len c = put-past c.args.variables.now.items c.args.element c.args.state (omega (arith, c.len.ensures, c.if-place-len.false))
