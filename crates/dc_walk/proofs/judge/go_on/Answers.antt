use Rattle.std.proofs.Common.{rules, ◌≡◌, [], map, sym, subst}
use Rattle.dc_int.specs.Store.{Store}
use Rattle.dc_code.specs.Loops.{order}
use Rattle.dc_plain.proofs.Sizes.{fit-runs}
use Rattle.dc_walk.specs.Judging.{combination}
use Rattle.dc_plain.specs.Marks.{Marks, blank_marks, forget_from}
use Rattle.dc_plain.specs.MarkViews.{marks_of, FitStore}
use Rattle.dc_walk.proofs.Racing.{closed_by}
use Rattle.dc_walk.proofs.judge.go_on.Goals as goal

pub returns : goal.returns
returns g c =
    let store : Store = c.args.ledger.now.store in
    let left : Store = c.run_in_order.new.ledger.store in
    let after : Marks = marks_of c.run_in_order.new.rows.items in
    let copy_is : c.in_ok-after.after.store ≡ store = search rules in
    let blank : marks_of c.in_ok-rows.rows.items ≡ blank_marks store = search rules in
    let final : c.forget_touched_twice.new.self.store ≡ forget_from 0 after left = search rules in
    closed_by g.parts c.requires.0.plainly c.args.active.now store c.in_ok-after.after.store left c.forget_touched_twice.new.self.store (marks_of c.in_ok-rows.rows.items) after
    copy_is blank c.in_ok-run_in_order.ensures final

pub forget_touched_twice-requires : goal.forget_touched_twice-requires
forget_touched_twice-requires g c =
    subst FitStore (sym c.as_slice.ensures.value)
    (fit-runs 0 (order g.parts [] c.in_ok-after.after.store (map combination c.args.active.now)).runs c.in_ok-rows.rows.items c.run_in_order.new.rows.items c.in_ok-run_in_order.ensures.marks
    c.in_ok-rows.ensures.fit)
