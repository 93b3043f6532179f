use Rattle.dc_nest.proofs.Unique.{one-source}
use Rattle.dc_nest.proofs.law.a_list_nests_to_one_program.Goals as goal

pub returns : goal.returns
returns c = one-source
