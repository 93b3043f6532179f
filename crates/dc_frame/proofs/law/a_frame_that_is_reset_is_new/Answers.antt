use Rattle.dc_frame.proofs.Restarted.{restarted-new}
use Rattle.dc_frame.proofs.law.a_frame_that_is_reset_is_new.Goals as goal

pub returns : goal.returns
returns c = restarted-new
