use Rattle.dc_tree.proofs.Findings.{first_is_one}
use Rattle.dc_nest.specs.Answer.{broken_in}
use Rattle.dc_nest.proofs.law.the_first_refusal_is_one.Goals as goal

pub returns : goal.returns
returns c list = first_is_one (broken_in list)
