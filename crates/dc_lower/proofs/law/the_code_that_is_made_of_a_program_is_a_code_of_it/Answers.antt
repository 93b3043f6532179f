use Rattle.dc_lower.proofs.CodesOf.{is-code-of}
use Rattle.dc_lower.proofs.law.the_code_that_is_made_of_a_program_is_a_code_of_it.Goals as goal

pub returns : goal.returns
returns c = λ symbols source able held. is-code-of symbols source able held
