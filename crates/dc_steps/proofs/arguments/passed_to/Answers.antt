use Rattle.std.proofs.Common.{◌<◌, length, subst, sym, arith}
use Rattle.std.proofs.lemmas.List.{drop_more}
use Rattle.dc_steps.proofs.Passes.{PassedLeft, passed_first, passed_apart, passed_next, passed_not}
use Rattle.dc_steps.proofs.arguments.passed_to.Goals as goal

pub returns-then-dummies-items : goal.returns-then-dummies-items
returns-then-dummies-items c = λ line. passed_apart c.args.dummies.now c.args.items.now line c.if-dummies-items.true

pub loop-at-init : goal.loop-at-init
loop-at-init c =
    subst (λ passed. PassedLeft c.args.dummies.now c.args.items.now passed c.args.dummies.now c.args.items.now) (sym c.new-passed.ensures)
    (passed_first c.args.dummies.now c.args.items.now)

pub returns-in-Err : goal.returns-in-Err
returns-in-Err c = λ line.
    let within : c.loop-at.at < length c.args.items.now = omega (arith, c.if-dummies-items.false, c.loop-at-test.true) in
    passed_not c.args.dummies.now c.args.items.now c.loop-at.passed c.loop-at.at _ _ c.in-Err.halt (λ passed. passed) line c.loop-at.invariant
    (drop_more c.args.dummies.now c.loop-at.at _ c.loop-at-test.true) (drop_more c.args.items.now c.loop-at.at _ within) (c.in-Err.ensures line)

pub loop-at-preserved : goal.loop-at-preserved
loop-at-preserved c =
    let within : c.loop-at.at < length c.args.items.now = omega (arith, c.if-dummies-items.false, c.loop-at-test.true) in
    passed_next c.args.dummies.now c.args.items.now c.loop-at.passed c.push.new.self c.loop-at.at _ _ c.in-Ok.given c.loop-at.invariant
    (drop_more c.args.dummies.now c.loop-at.at _ c.loop-at-test.true) (drop_more c.args.items.now c.loop-at.at _ within) c.in_ok-push-in-Ok.ensures.ok c.in-Ok.ensures
