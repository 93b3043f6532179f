use Rattle.std.proofs.Common.{ap, ◌-◌, ◌∙◌, arith}
use Rattle.dc_code.specs.Frames.{innermost_changed}
use Rattle.dc_frame.specs.contracts.frame.Frame.{the_view}
use Rattle.dc_frame.specs.Units.{with_slot}
use Rattle.dc_frame.proofs.Innermost.{innermost-put}
use Rattle.dc_frame.proofs.frame.Frame.set_slot.Goals as goal

pub returns : goal.returns
returns c =
    let units = c.self.inside.units in
    let change = with_slot c.args.slot c.args.value in
    innermost-put change (the_view c.self.inside) (c.len-last.result - 1) c.index_mut.result.now c.put_slot.new.self c.self.invariant.0 (omega (arith, units.ok.0)) c.index_mut.ensures.value c.put_slot.ensures
    ∙ ap (innermost_changed change) c.self.view_is
