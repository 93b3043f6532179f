use Rattle.std.proofs.Common.{ap, sym, ◌∙◌, rules}
use Rattle.std.specs.Int.{w64}
use Rattle.std.proofs.lemmas.Int.{to_z-of_z}
use Rattle.dc_tree.specs.Statements.{counted_ranging}
use Rattle.dc_meaning.specs.Execution.{checked_span}
use Rattle.dc_meaning.specs.WalkScope.{scope_of, own_of}
use Rattle.dc_meaning.proofs.Walking.{handed, stays-as, stays-bad, stays-then}
use Rattle.dc_walk.specs.declared.counting.Steps.{Steps}
use Rattle.dc_walk.specs.Counting.{span_with, span_at}
use Rattle.dc_walk.proofs.Counts.{held-ranging, limits, behind-first, behind-last}
use Rattle.dc_walk.proofs.counting.steps_of.Goals as goal

pub value-requires-2-clause-held : goal.value-requires-2-clause-held
value-requires-2-clause-held c = (held-ranging (scope_of c.args.walk.now) (counted_ranging c.args.counted.now) c.requires.walked).last

pub step_value-requires-clause-held : goal.step_value-requires-clause-held
step_value-requires-clause-held c = (held-ranging (scope_of c.args.walk.now) (counted_ranging c.args.counted.now) c.requires.walked).step

pub returns-in_err-first-clause-is : goal.returns-in_err-first-clause-is
returns-in_err-first-clause-is c =
    handed c.from_residual.result _ c.from_residual.ensures.1
    (stays-bad {A = Steps} {tell = span_with} (limits (scope_of c.args.walk.now) c.args.line c.args.kind (counted_ranging c.args.counted.now)) c.in_err-first.ensures)

pub returns-in_err-last-clause-is : goal.returns-in_err-last-clause-is
returns-in_err-last-clause-is c =
    let scope = scope_of c.args.walk.now in
    let ranging = counted_ranging c.args.counted.now in
    handed c.from_residual-in_err-last.result _ c.from_residual-in_err-last.ensures.1
    (stays-then (limits scope c.args.line c.args.kind ranging) c.in_ok-first.ensures
    (stays-bad {A = Steps} {tell = span_with} (behind-first scope c.args.line c.args.kind ranging c.in_ok-first.first) c.in_err-last.ensures))

pub returns-in_err-step-clause-is : goal.returns-in_err-step-clause-is
returns-in_err-step-clause-is c =
    let scope = scope_of c.args.walk.now in
    let ranging = counted_ranging c.args.counted.now in
    handed c.from_residual-in_err-step.result _ c.from_residual-in_err-step.ensures.1
    (stays-then (limits scope c.args.line c.args.kind ranging) c.in_ok-first.ensures
    (stays-then (behind-first scope c.args.line c.args.kind ranging c.in_ok-first.first) c.in_ok-last.ensures
    (stays-bad {A = Steps} {tell = span_with} (behind-last scope c.args.line c.args.kind ranging c.in_ok-first.first c.in_ok-last.last) c.in_err-step.ensures)))

pub returns-clause-is : goal.returns-clause-is
returns-clause-is c =
    let scope = scope_of c.args.walk.now in
    let ranging = counted_ranging c.args.counted.now in
    let first = to_z-of_z w64 c.in_ok-first.first (search rules) in
    let last = to_z-of_z w64 c.in_ok-last.last (search rules) in
    let step = to_z-of_z w64 c.in_ok-step.step (search rules) in
    stays-then (limits scope c.args.line c.args.kind ranging) c.in_ok-first.ensures
    (stays-then (behind-first scope c.args.line c.args.kind ranging c.in_ok-first.first) c.in_ok-last.ensures
    (stays-then (behind-last scope c.args.line c.args.kind ranging c.in_ok-first.first c.in_ok-last.last) c.in_ok-step.ensures
    (stays-as (λ call. ap (checked_span c.args.line) (sym (c.steps_at.ensures ∙ (λ i. span_at c.args.kind (first i) (last i) (step i)))))
    (c.moving.ensures.is (own_of c.args.walk.now) c.step_value.new.ledger))))
