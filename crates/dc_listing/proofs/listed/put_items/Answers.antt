use Rattle.std.proofs.Common.{◌≤◌, length, arith}
use Rattle.dc_listing.proofs.Fields.{one_item, all_items}
use Rattle.dc_listing.proofs.listed.put_items.Goals as goal

pub loop-item-preserved : goal.loop-item-preserved
loop-item-preserved g c =
    one_item g.T.Listed.words c.loop-item.text c.put.new.text c.args.items.now c.loop-item.item-index c.item-item.result _ c.loop-item-test.true c.item-item.is c.in_ok-put.ensures c.loop-item.invariant

pub returns : goal.returns
returns g c =
    let done : length c.args.items.now ≤ c.loop-item.item-index = omega arith in
    all_items g.T.Listed.words c.loop-item.text c.args.items.now c.loop-item.item-index _ done c.loop-item.invariant
