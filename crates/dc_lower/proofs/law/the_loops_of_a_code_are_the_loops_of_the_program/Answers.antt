use Rattle.dc_lower.proofs.LoopForms.{forms-law}
use Rattle.dc_lower.proofs.law.the_loops_of_a_code_are_the_loops_of_the_program.Goals as goal

pub returns : goal.returns
returns c = λ symbols source is turns number loop at. forms-law symbols source is turns number loop at
