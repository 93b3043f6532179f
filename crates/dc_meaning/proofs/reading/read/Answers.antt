use Rattle.dc_meaning.proofs.Referring.{read-walks}
use Rattle.dc_meaning.proofs.reading.read.Goals as goal

pub returns : goal.returns
returns c = λ own.
    read-walks c.args.line c.args.element _ c.in_ok-state.ensures.state c.in_ok-state.ensures.noted (c.required.ensures own c.get.new.self)
