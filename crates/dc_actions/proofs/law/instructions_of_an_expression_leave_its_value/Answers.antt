use Rattle.dc_actions.proofs.DeedLaws.{all-values-left}
use Rattle.dc_actions.proofs.law.instructions_of_an_expression_leave_its_value.Goals as goal

pub returns : goal.returns
returns c = λ code scope call line tree. all-values-left code scope call line tree
