use Rattle.dc_code.proofs.Orders.{bad-ends}
use Rattle.dc_code.proofs.loop_law.a_bad_iteration_ends_its_orders.Goals as goal

pub returns : goal.returns
returns c = λ loop store iterations met at told rest. bad-ends loop store iterations met at told rest
