use Rattle.dc_flows.proofs.FlowParts.{part-law}
use Rattle.dc_flows.proofs.law.instructions_of_a_part_with_branches_carry_it_out.Goals as goal

pub returns : goal.returns
returns c = λ code scope call before main labels block line so there. part-law code scope call before main labels block line so there
