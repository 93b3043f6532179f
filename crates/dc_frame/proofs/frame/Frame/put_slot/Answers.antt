use Rattle.std.proofs.Common.{ap, sym, ◌∙◌, arith}
use Rattle.dc_code.specs.Frames.{Frame, with_units, slot_put}
use Rattle.dc_frame.specs.contracts.frame.Frame.{the_view}
use Rattle.dc_frame.specs.Units.{with_state}
use Rattle.dc_frame.proofs.Changing.{changed_item, changed_past}
use Rattle.dc_frame.proofs.frame.Frame.put_slot.Goals as goal

pub returns-then-level-len : goal.returns-then-level-len
returns-then-level-len c =
    let units = c.self.inside.units in
    let change = with_state c.args.group c.args.position c.args.state in
    let one = changed_item change units.items c.args.level c.index_mut.result.now c.put_state.new.self (omega (arith, units.ok.0)) c.index_mut.ensures.value c.put_state.ensures in
    ap (λ units. with_units units (the_view c.self.inside)) one
    ∙ ap (λ (frame : Frame). with_units (slot_put c.args.level c.args.group c.args.position c.args.state frame.units) frame) c.self.view_is

pub returns-else-level-len : goal.returns-else-level-len
returns-else-level-len c =
    let units = c.self.inside.units in
    let change = with_state c.args.group c.args.position c.args.state in
    let none = changed_past change units.items c.args.level (omega (arith, units.ok.0)) in
    sym c.self.view_is
    ∙ (ap (λ units. with_units units (the_view c.self.inside)) none
    ∙ ap (λ (frame : Frame). with_units (slot_put c.args.level c.args.group c.args.position c.args.state frame.units) frame) c.self.view_is)
