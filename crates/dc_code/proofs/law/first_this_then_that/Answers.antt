use Rattle.dc_code.proofs.Runs.{over-then}
use Rattle.dc_code.proofs.law.first_this_then_that.Goals as goal

pub returns : goal.returns
returns g c = λ store c next. over-then store c next
