use Rattle.dc_lower.proofs.LoopForms.{none-law}
use Rattle.dc_lower.proofs.law.a_code_has_no_other_loops_than_its_program.Goals as goal

pub returns : goal.returns
returns c = λ symbols source is turns number none. none-law symbols source is turns number none
