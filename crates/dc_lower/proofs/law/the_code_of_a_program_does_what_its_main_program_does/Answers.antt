use Rattle.dc_lower.proofs.MainPrograms.{main-law}
use Rattle.dc_lower.proofs.law.the_code_of_a_program_does_what_its_main_program_does.Goals as goal

pub returns : goal.returns
returns c = λ symbols source is turns. main-law symbols source is turns
