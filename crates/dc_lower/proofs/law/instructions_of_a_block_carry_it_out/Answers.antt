use Rattle.dc_lower.proofs.PartLaws.{all-blocks-run}
use Rattle.dc_lower.proofs.law.instructions_of_a_block_carry_it_out.Goals as goal

pub returns : goal.returns
returns c = λ code scope call next free number line loops block. all-blocks-run code scope call next free number line loops block
