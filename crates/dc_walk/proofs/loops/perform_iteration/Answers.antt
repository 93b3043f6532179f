use Rattle.std.proofs.Common.{ap, rules, Some, [], ◌∷◌}
use Rattle.std.specs.Prelude.{ℤ}
use Rattle.std.specs.Int.{w64}
use Rattle.std.proofs.lemmas.Int.{to_z-of_z}
use Rattle.dc_sorts.specs.Standing.{standing_of, scope_at}
use Rattle.dc_meaning.specs.Execution.{exec_all}
use Rattle.dc_meaning.proofs.Looping.{block-items}
use Rattle.dc_walk.proofs.Spending.{finishes-well, finishes-badly}
use Rattle.dc_walk.proofs.Tasks.{finishes-in, finishes-as}
use Rattle.dc_walk.proofs.loops.perform_iteration.Goals as goal

pub returns : goal.returns
returns c = λ number.
    let told = to_z-of_z w64 c.args.value (search rules) in
    finishes-in (ap (λ (z : ℤ). (Some z ∷ []) ∷ []) told)
    (finishes-as (λ call. ap (exec_all (scope_at (standing_of c.args.task.standing)) call number) (block-items c.args.task.body.now c.as_slice.result.now c.as_slice.ensures))
    (finishes-well _ (c.in_ok-perform_all.ensures number)))

pub returns-in_err-perform_all : goal.returns-in_err-perform_all
returns-in_err-perform_all c = λ number.
    let told = to_z-of_z w64 c.args.value (search rules) in
    finishes-in (ap (λ (z : ℤ). (Some z ∷ []) ∷ []) told)
    (finishes-as (λ call. ap (exec_all (scope_at (standing_of c.args.task.standing)) call number) (block-items c.args.task.body.now c.as_slice.result.now c.as_slice.ensures))
    (finishes-badly c.from_residual.result _ c.from_residual.ensures.1 (c.in_err-perform_all.ensures number)))
