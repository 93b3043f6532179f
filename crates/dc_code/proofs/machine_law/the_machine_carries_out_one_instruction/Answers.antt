use Rattle.dc_code.proofs.Unfolding.{unfolds}
use Rattle.dc_code.proofs.machine_law.the_machine_carries_out_one_instruction.Goals as goal

pub returns : goal.returns
returns c = λ code at frame turns. unfolds code at frame turns
