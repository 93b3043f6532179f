use Rattle.dc_meaning.proofs.Referring.{outside-walks, outside-bad}
use Rattle.dc_meaning.proofs.Walking.{handed}
use Rattle.dc_meaning.proofs.reading.read_at.Goals as goal

pub returns-in_err-element : goal.returns-in_err-element
returns-in_err-element c = λ own sort.
    handed c.from_residual.result _ c.from_residual.ensures.1
    (outside-bad c.args.line c.args.variable sort c.args.bounds.now c.args.subscripts.now (c.in_err-element.ensures own c.args.ledger.now sort))

pub returns : goal.returns
returns c = λ own sort.
    outside-walks c.args.line c.args.variable sort c.args.bounds.now c.args.subscripts.now c.in_ok-element.element (c.in_ok-element.ensures own c.args.ledger.now sort) (c.read.ensures own)
