use Rattle.dc_code.proofs.Runs.{untouched}
use Rattle.dc_code.proofs.law.untouched_elements_stay.Goals as goal

pub returns : goal.returns
returns c = λ entries store x apart. untouched entries store x apart
