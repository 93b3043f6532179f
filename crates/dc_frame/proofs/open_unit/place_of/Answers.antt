use Rattle.std.proofs.Common.{ap, arith}
use Rattle.std.proofs.lemmas.List.{take_all}
use Rattle.dc_frame.proofs.Numbered.{slot_count, slot-there, slot-past}
use Rattle.dc_frame.proofs.open_unit.place_of.Goals as goal

pub returns-then-position-len : goal.returns-then-position-len
returns-then-position-len c = λ state.
    slot-there c.args.rows.now c.loop-group.group c.loop-group.position c.args.slot c.index-rows-group.result state c.loop-group.invariant (omega arith) c.index-rows-group.is (omega arith)

pub returns : goal.returns
returns c =
    let all = ap slot_count (take_all c.loop-group.group c.args.rows.now (omega arith)) in
    λ state. slot-past c.args.rows.now c.loop-group.position c.args.slot state (omega (arith, c.loop-group.invariant, all))
