use Rattle.dc_code.specs.Machine.{machine}
use Rattle.dc_actions.proofs.Going.{machine-goes}
use Rattle.dc_actions.proofs.OutputLaws.{printing-law}
use Rattle.dc_actions.proofs.law.instructions_of_output_carry_it_out.Goals as goal

pub returns : goal.returns
returns c = λ code scope call line next items so there at frame state names start stand rest later.
    printing-law code (machine code) (machine-goes code) scope call line at next frame state items names start there stand so rest later
