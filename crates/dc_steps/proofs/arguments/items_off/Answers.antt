use Rattle.std.proofs.Common.{suc, ◌-◌, ◌≡◌, [], ◌∷◌, ◌∙◌, ap, sym, subst, arith}
use Rattle.std.specs.Prelude.{reverse}
use Rattle.std.proofs.lemmas.List.{reverse-append}
use Rattle.dc_steps.proofs.Passes.{ItemsLeft, items_first, items_missing, items_more}
use Rattle.dc_steps.proofs.arguments.items_off.Goals as goal

pub loop-left-init : goal.loop-left-init
loop-left-init c = subst (λ later. ItemsLeft c.args.count c.args.frame.now c.args.count c.args.frame.now later) (sym (ap reverse c.new-items.ensures)) (items_first c.args.count c.args.frame.now)

pub returns-in_default : goal.returns-in_default
returns-in_default c =
    let left : c.loop-left.left ≡ suc (c.loop-left.left - 1) = omega (arith, c.loop-left-test.true) in
    items_missing c.args.count c.args.frame.now c.loop-left.frame (c.loop-left.left - 1) (reverse c.loop-left.items)
    (subst (λ left. ItemsLeft c.args.count c.args.frame.now left c.loop-left.frame (reverse c.loop-left.items)) left c.loop-left.invariant)
    c.take.new.self c.in_default.ensures

pub loop-left-preserved : goal.loop-left-preserved
loop-left-preserved c =
    let left : c.loop-left.left ≡ suc (c.loop-left.left - 1) = omega (arith, c.loop-left-test.true) in
    subst (λ later. ItemsLeft c.args.count c.args.frame.now (c.loop-left.left - 1) c.take.new.self later)
    (sym (ap reverse c.in_ok-push.ensures.ok ∙ reverse-append c.loop-left.items (c.in-Some.item ∷ [])))
    (items_more c.args.count c.args.frame.now c.loop-left.frame (c.loop-left.left - 1) (reverse c.loop-left.items)
    (subst (λ left. ItemsLeft c.args.count c.args.frame.now left c.loop-left.frame (reverse c.loop-left.items)) left c.loop-left.invariant)
    c.take.new.self c.in-Some.item c.in-Some.ensures)
