use Rattle.std.proofs.Common.{rules, ap, sym, ◌∙◌}
use Rattle.std.specs.Prelude.{ℤ}
use Rattle.std.specs.Int.{w64}
use Rattle.std.proofs.lemmas.Int.{to_z-of_z}
use Rattle.dc_int.specs.Sorts.{fitted}
use Rattle.dc_sorts.specs.Forms.{sort_of_form}
use Rattle.dc_tree.specs.Syntax.{tree}
use Rattle.dc_tree.specs.Typing.{sort_of}
use Rattle.dc_meaning.specs.Acts.{just}
use Rattle.dc_meaning.specs.WalkScope.{scope_of}
use Rattle.dc_meaning.proofs.Inquiring.{known-sort}
use Rattle.dc_meaning.proofs.Walking.{handed, stays-as, stays-bad, stays-then, stays-just}
use Rattle.dc_walk.proofs.Taking.{selector-is}
use Rattle.dc_walk.proofs.cases.selector.Goals as goal

pub returns-in_err-given-in-Select : goal.returns-in_err-given-in-Select
returns-in_err-given-in-Select c =
    let sort = sort_of (scope_of c.args.walk.now) (tree c.in-Select.expr) in
    handed c.from_residual.result _ c.from_residual.ensures.1
    (stays-as (λ call. selector-is (scope_of c.args.walk.now) call c.args.head.now c.in-Select.expr c.in-Select.is)
    (stays-bad {A = ℤ} {tell = λ z. z} (λ call z. just (fitted sort z)) c.in_err-given-in-Select.ensures))

pub returns : goal.returns
returns c =
    let scope = scope_of c.args.walk.now in
    let expr = c.in-Select.expr in
    let given = c.in_ok-given-in-Select.given in
    let told = to_z-of_z w64 c.fitted.result (search rules) ∙ c.fitted.ensures ∙ ap (fitted (sort_of_form c.in_ok-known-in-Select.known.form)) (to_z-of_z w64 given (search rules))
    ∙ ap (λ sort. fitted sort given) (known-sort scope (tree expr) c.in_ok-known-in-Select.known c.in_ok-known-in-Select.ensures) in
    stays-as (λ call. selector-is scope call c.args.head.now expr c.in-Select.is)
    (stays-then (λ call z. just (fitted (sort_of scope (tree expr)) z)) c.in_ok-given-in-Select.ensures (stays-just _ (λ call. ap just (sym told))))
