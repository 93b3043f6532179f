use Rattle.std.proofs.Common.{ap}
use Rattle.dc_tree.specs.Statements.{deed}
use Rattle.dc_tree.specs.Syntax.{tree}
use Rattle.dc_meaning.specs.WalkScope.{scope_of}
use Rattle.dc_meaning.proofs.Walking.{handed, stays-as, stays-bad, stays-then, stays-just}
use Rattle.dc_walk.specs.declared.flow.Flow.{Flow}
use Rattle.dc_walk.specs.Flows.{flow_of}
use Rattle.dc_walk.proofs.Taking.{done-if, if-statement}
use Rattle.dc_walk.proofs.lines.perform_tested.Goals as goal

pub returns-in_err-holds : goal.returns-in_err-holds
returns-in_err-holds c =
    let scope = scope_of c.args.walk.now in
    let done = deed c.args.action.now in
    handed c.from_residual.result _ c.from_residual.ensures.1
    (stays-as (λ call. if-statement scope call c.args.line (tree c.args.test.now) done)
    (stays-bad {A = Flow} {tell = flow_of} (λ call. done-if scope call c.args.line done) c.in_err-holds.ensures))

pub returns-then-branch : goal.returns-then-branch
returns-then-branch c =
    let scope = scope_of c.args.walk.now in
    let done = deed c.args.action.now in
    stays-as (λ call. if-statement scope call c.args.line (tree c.args.test.now) done)
    (stays-then (λ call. done-if scope call c.args.line done) c.in_ok-holds.ensures
    (stays-as (λ call. ap (done-if scope call c.args.line done) c.if-branch.true) c.perform_action.ensures))

pub returns-else-branch : goal.returns-else-branch
returns-else-branch c =
    let scope = scope_of c.args.walk.now in
    let done = deed c.args.action.now in
    stays-as (λ call. if-statement scope call c.args.line (tree c.args.test.now) done)
    (stays-then (λ call. done-if scope call c.args.line done) c.in_ok-holds.ensures
    (stays-just Flow.On (λ call. ap (done-if scope call c.args.line done) c.if-branch.false)))
