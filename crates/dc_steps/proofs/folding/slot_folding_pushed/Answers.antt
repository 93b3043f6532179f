use Rattle.std.proofs.Common.{◌≡◌, FitsSigned, w64, Some, rules}
use Rattle.std.proofs.lemmas.Int.{to_z-of_z}
use Rattle.dc_code.specs.Reaching.{group_planned}
use Rattle.dc_steps.proofs.Folds.{slot_folding_so, slot_folding_halts}
use Rattle.dc_steps.proofs.folding.slot_folding_pushed.Goals as goal

pub returns-in-Err : goal.returns-in-Err
returns-in-Err c = λ line.
    let found : group_planned c.args.code.now c.args.frame.now c.args.group ≡ Some c.in-Some.found.now = cc (c.in-Some.ensures.group, c.plan.ensures) in
    slot_folding_halts line c.args.folding c.args.group (group_planned c.args.code.now c.args.frame.now c.args.group) c.in-Some.found.now found c.args.frame.now _
    c.group.result.now c.in-Err.halt _ c.group.ensures (c.in-Err.ensures line)

pub returns-in-Ok : goal.returns-in-Ok
returns-in-Ok c = λ line.
    let fits : FitsSigned w64 c.in-Ok.value = search rules in
    let found : group_planned c.args.code.now c.args.frame.now c.args.group ≡ Some c.in-Some.found.now = cc (c.in-Some.ensures.group, c.plan.ensures) in
    slot_folding_so line c.args.folding c.args.group (group_planned c.args.code.now c.args.frame.now c.args.group) c.in-Some.found.now found c.args.frame.now
    c.group.result.now c.in-Ok.value _ c.value_pushed.result c.value_pushed.new.frame c.group.ensures (c.in-Ok.ensures line) (to_z-of_z w64 c.in-Ok.value fits) (c.value_pushed.ensures line)
