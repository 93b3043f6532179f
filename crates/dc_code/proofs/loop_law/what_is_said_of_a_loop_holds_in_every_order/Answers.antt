use Rattle.dc_code.proofs.EveryOrder.{says-of-orders}
use Rattle.dc_code.proofs.Reduced.{fits-holds}
use Rattle.dc_code.proofs.loop_law.what_is_said_of_a_loop_holds_in_every_order.Goals as goal

pub returns : goal.returns
returns c = λ loop turns store framed differs shapes matches fits keep.
    says-of-orders loop store framed differs (fits-holds loop.form.localities shapes store matches fits) turns keep
