use Rattle.std.proofs.Common.{rules, ap, sym, ◌∙◌, map, Some, FitsSigned, w64, arith}
use Rattle.std.proofs.lemmas.Int.{to_z-of_z}
use Rattle.dc_code.specs.Frames.{with_slots}
use Rattle.dc_code.specs.Reaching.{group_set}
use Rattle.dc_frame.specs.contracts.open_unit.OpenUnit.{the_view}
use Rattle.dc_frame.proofs.Changing.{changed_item, changed_past}
use Rattle.dc_frame.proofs.open_unit.OpenUnit.fill.Goals as goal

pub returns-then-group-len : goal.returns-then-group-len
returns-then-group-len c =
    let slots = c.self.inside.slots in
    let fits : FitsSigned w64 c.args.value = search rules in
    let one = changed_item (λ cells. map (λ cell. Some c.args.value) cells) slots.items c.args.group c.index_mut.result.now c.put_all.new.self (omega (arith, slots.ok.0)) c.index_mut.ensures.value (simp to_z-of_z at c.put_all.ensures) in
    ap (λ rows. with_slots rows (the_view c.self.inside)) one ∙ ap (group_set c.args.group c.args.value) c.self.view_is

pub returns-else-group-len : goal.returns-else-group-len
returns-else-group-len c =
    let slots = c.self.inside.slots in
    let none = changed_past (λ cells. map (λ cell. Some c.args.value) cells) slots.items c.args.group (omega (arith, slots.ok.0)) in
    sym c.self.view_is ∙ (ap (λ rows. with_slots rows (the_view c.self.inside)) none ∙ ap (group_set c.args.group c.args.value) c.self.view_is)
