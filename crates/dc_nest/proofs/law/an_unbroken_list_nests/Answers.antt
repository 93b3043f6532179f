use Rattle.dc_nest.proofs.Made.{some-source}
use Rattle.dc_nest.proofs.law.an_unbroken_list_nests.Goals as goal

pub returns : goal.returns
returns c = some-source
