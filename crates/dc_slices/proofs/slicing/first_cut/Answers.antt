use Rattle.std.proofs.Common.{◌<◌, length, arith}
use Rattle.dc_slices.proofs.CutSteps.{first-made}
use Rattle.dc_slices.proofs.slicing.first_cut.Goals as goal

pub returns : goal.returns
returns c =
    let some : 0 < length c.args.tokens.now = grind arith in
    first-made c.args.stop c.args.tokens.now c.past_first-behind.result.now c.up_to.result.now c.after.result.now c.width-at.result c.past_first-behind.ensures.same c.up_to.ensures c.after.ensures
    c.width-at.ensures.front c.width-at.ensures.back c.requires some
