use Rattle.std.proofs.Common.{ap, sym, ◌∙◌, rules}
use Rattle.std.specs.Int.{w64}
use Rattle.std.specs.Prelude.{◌+ℤ◌}
use Rattle.std.proofs.lemmas.Int.{to_z-of_z}
use Rattle.dc_int.specs.declared.access.ElementId.{ElementId}
use Rattle.dc_int.specs.Kinds.{wrapped}
use Rattle.dc_int.specs.Sorts.{whole}
use Rattle.dc_code.specs.declared.frame.Place.{Place}
use Rattle.dc_meaning.specs.Execution.{stepped}
use Rattle.dc_meaning.proofs.Walking.{handed, stays-as}
use Rattle.dc_walk.proofs.Counts.{stepped-on, stepped-bad}
use Rattle.dc_walk.proofs.counting.step.Goals as goal

pub returns-in_err-value : goal.returns-in_err-value
returns-in_err-value c = λ own.
    let x = c.element-element.result in
    handed c.from_residual.result _ c.from_residual.ensures.1
    (stays-as (λ call. ap (λ (y : ElementId). stepped c.args.line (Place.Outer y) (whole c.args.scalar.kind) c.args.by) (sym c.element-element.ensures))
    (stepped-bad c.args.line x c.args.scalar.kind c.args.by (c.in_err-value.ensures own)))

pub returns : goal.returns
returns c = λ own.
    let x = c.element-element.result in
    let by = to_z-of_z w64 c.args.by (search rules) in
    let z = to_z-of_z w64 c.in_ok-value.value (search rules) in
    let next = to_z-of_z w64 c.sum.result (search rules) ∙ c.sum.ensures ∙ (λ i. wrapped c.args.scalar.kind (z i +ℤ by i)) in
    stays-as (λ call. ap (λ (y : ElementId). stepped c.args.line (Place.Outer y) (whole c.args.scalar.kind) c.args.by) (sym c.element-element.ensures))
    (stepped-on c.args.line x c.args.scalar.kind c.args.by c.in_ok-value.value _ next c.in_ok-set.ensures.ok (c.in_ok-value.ensures own))
