use Rattle.std.proofs.Common.{◌<◌, arith}
use Rattle.dc_int.specs.Store.{elements_in}
use Rattle.dc_actions.proofs.Listing.{handing-next}
use Rattle.dc_actions.proofs.lists.handing.Goals as goal

pub loop-before-preserved : goal.loop-before-preserved
loop-before-preserved c =
    let below : c.loop-before.before < elements_in c.args.bounds.now = omega (arith, c.loop-before-test.true, c.elements-before-end.ensures) in
    handing-next c.args.variable c.args.bounds.now c.args.group c.loop-before.before (elements_in c.args.bounds.now) c.loop-before.whats _ _ _ _ _ below c.in_ok-slot.ensures c.in_ok-push.ensures.ok
    c.in_ok-element.ensures c.in_ok-push-2.ensures.ok c.loop-before.invariant
