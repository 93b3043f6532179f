use Rattle.std.proofs.Common.{ap, sym, ◌∙◌, arith}
use Rattle.std.specs.Prelude.{slice_set}
use Rattle.dc_code.specs.Frames.{with_slots}
use Rattle.dc_frame.specs.contracts.open_unit.OpenUnit.{the_view}
use Rattle.dc_frame.specs.Units.{with_state}
use Rattle.dc_frame.proofs.Changing.{changed_item, changed_past}
use Rattle.dc_frame.proofs.open_unit.OpenUnit.put_state.Goals as goal

pub returns-then-group-len : goal.returns-then-group-len
returns-then-group-len c =
    let slots = c.self.inside.slots in
    let one = changed_item (λ cells. slice_set cells c.args.position c.args.state) slots.items c.args.group c.index_mut.result.now c.put.new.self (omega (arith, slots.ok.0)) c.index_mut.ensures.value c.put.ensures in
    ap (λ rows. with_slots rows (the_view c.self.inside)) one ∙ ap (with_state c.args.group c.args.position c.args.state) c.self.view_is

pub returns-else-group-len : goal.returns-else-group-len
returns-else-group-len c =
    let slots = c.self.inside.slots in
    let none = changed_past (λ cells. slice_set cells c.args.position c.args.state) slots.items c.args.group (omega (arith, slots.ok.0)) in
    sym c.self.view_is
    ∙ (ap (λ rows. with_slots rows (the_view c.self.inside)) none ∙ ap (with_state c.args.group c.args.position c.args.state) c.self.view_is)
