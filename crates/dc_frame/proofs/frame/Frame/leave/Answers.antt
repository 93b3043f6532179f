use Rattle.std.proofs.Common.{◌≤◌, length, ◌-◌, ap, ◌∙◌, arith}
use Rattle.dc_code.specs.Frames.{Frame, with_returned, left_unit}
use Rattle.dc_frame.specs.contracts.frame.Frame.{the_view}
use Rattle.dc_frame.proofs.Innermost.{one-less, innermost-left}
use Rattle.dc_frame.proofs.frame.Frame.leave.Goals as goal

pub returns : goal.returns
returns c =
    let rest = c.pop.new.self in
    let units = c.self.inside.units in
    let unit = c.in-Some.unit in
    let outer = c.index_mut.result.now in
    let same = ap (λ (frame : Frame). length frame.units) c.self.view_is in
    let less = one-less units.items rest.items unit c.in-Some.ensures.items in
    let some : 1 ≤ length rest.items = omega (arith, same, less, c.requires) in
    innermost-left (the_view c.self.inside) rest.items unit outer c.put_returned.new.self (c.len-last.result - 1) c.in-Some.ensures.items some (omega (arith, rest.ok.0)) c.index_mut.ensures.value (c.put_returned.ensures ∙ ap (λ result. with_returned result outer) c.state.ensures)
    ∙ ap left_unit c.self.view_is
