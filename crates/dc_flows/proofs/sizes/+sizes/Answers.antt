-- One arm more of IF.
use Rattle.std.proofs.Common.{◌≡◌, ◌+◌, ◌<◌, length, map, drop, ap, subst, ◌∙◌, sym, true}
use Rattle.dc_tree.specs.declared.program.Part.{out-Part}
use Rattle.dc_tree.specs.Blocks.{Arms, arms_from, items, part_items}
use Rattle.dc_tree.specs.Statements.{statement}
use Rattle.dc_actions.specs.Naming.{scope_of}
use Rattle.dc_actions.proofs.Facts.{both-true}
use Rattle.dc_flows.specs.Flows.{arms_size, arm_size, block_size, tested}
use Rattle.dc_flows.specs.FlowsHeld.{arms_have_code, block_has_code, is_held_test}
use Rattle.dc_flows.proofs.Arms.{arms-next, arm-added}
use Rattle.dc_flows.proofs.sizes.+sizes.Goals as goal

pub arms_size-loop-arm-preserved : goal.arms_size-loop-arm-preserved
arms_size-loop-arm-preserved t c =
    let scope = scope_of c.args.names.now in
    let arms = c.args.arms.now in
    let at = c.loop-arm.arm-index in
    let item = c.arm-item.result in
    let head = statement (out-Part item).head.stmt in
    let body = block_size scope (items (out-Part item).body) in
    let rest = arms_from (map part_items (drop (at + 1) arms)) in
    let next = arms-next arms at item c.loop-arm-test.true c.arm-item.is in
    let all = both-true (subst (λ given. arms_have_code scope given ≡ true) next c.loop-arm.invariant.held) in
    record {
      held = (both-true (both-true all.1).1).0;
      size =
          arm-added c.loop-arm.size c.in_ok-test-in-Some.test c.in_ok-body.body (arms_size scope rest) _ _ _ _ _ c.in_ok-sum-in-Some.ensures c.in_ok-sum-in-Some-2.ensures
          c.in_ok-sum-in-Some-3.ensures c.in_ok-size-in-Some.ensures
          (ap (λ n. c.loop-arm.size + n)
          ((λ i. c.in_ok-test-in-Some.ensures i + 1 + (c.in_ok-body.ensures i + 1 + arms_size scope rest)) ∙ ap (λ found. arm_size scope found body (arms_size scope rest)) c.in-Some.ensures
          ∙ ap (arms_size scope) (sym next))
          ∙ c.loop-arm.invariant.size);
    }
