use Rattle.dc_code.proofs.GoesOn.{goes-on_alike}
use Rattle.dc_code.proofs.Reduced.{fits-holds}
use Rattle.dc_code.proofs.loop_law.a_loop_that_goes_on_ends_alike_in_every_order.Goals as goal

pub returns : goal.returns
returns c = λ loop store framed differs shapes matches fits iterations keep told ordered permuted.
    goes-on_alike loop store framed differs (fits-holds loop.form.localities shapes store matches fits) iterations keep told ordered permuted
