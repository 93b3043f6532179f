use Rattle.dc_lower.proofs.WellFormedCodes.{code-is-well-formed}
use Rattle.dc_lower.proofs.law.the_code_of_a_program_is_well_formed.Goals as goal

pub returns : goal.returns
returns c = λ symbols source able held. code-is-well-formed symbols source able held
