use Rattle.dc_lower.proofs.LoopForms.{has-header}
use Rattle.dc_lower.proofs.law.the_header_of_a_loop_leaves_its_limits.Goals as goal

pub returns : goal.returns
returns c = λ symbols source is turns number loop at. has-header symbols source is turns number loop at
