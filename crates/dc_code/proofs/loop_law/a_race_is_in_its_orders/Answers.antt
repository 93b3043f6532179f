use Rattle.dc_code.proofs.Judged.{race-names}
use Rattle.dc_code.proofs.Orders.{race-in_order}
use Rattle.dc_code.proofs.loop_law.a_race_is_in_its_orders.Goals as goal

pub returns-clause-names : goal.returns-clause-names
returns-clause-names c = λ loop store iterations found first second told. race-names loop store iterations found first second told

pub returns-clause-begins : goal.returns-clause-begins
returns-clause-begins c = λ loop store iterations found first second told rest. race-in_order loop store iterations found first second told rest
