use Rattle.std.proofs.Common.{rules, ap, ◌≡◌, Bool, Some, Option}
use Rattle.std.specs.Option.{option_copied}
use Rattle.std.specs.Prelude.{option_map}
use Rattle.dc_int.specs.Reductions.{truth}
use Rattle.dc_tree.specs.declared.expr.Expr.{Expr}
use Rattle.dc_tree.specs.Syntax.{tree}
use Rattle.dc_meaning.specs.Acts.{just}
use Rattle.dc_meaning.specs.WalkScope.{scope_of}
use Rattle.dc_meaning.proofs.Walking.{handed, stays-as, stays-bad, stays-then, stays-just}
use Rattle.dc_walk.specs.Arms.{tested}
use Rattle.dc_walk.proofs.testing.holds.Goals as goal

pub returns-in_err-value-in-Some : goal.returns-in_err-value-in-Some
returns-in_err-value-in-Some c =
    let is : option_copied c.args.test ≡ Some c.in-Some.test.now = search rules in
    handed c.from_residual.result _ c.from_residual.ensures.1
    (stays-as (λ call. ap (λ (t : Option Expr). tested (scope_of c.args.walk.now) call c.args.line (option_map tree t)) is)
    (stays-bad {A = Bool} {tell = λ holds. holds} (λ call z. just (truth z)) c.in_err-value-in-Some.ensures))

pub returns-in_ok-value-in-Some : goal.returns-in_ok-value-in-Some
returns-in_ok-value-in-Some c =
    let is : option_copied c.args.test ≡ Some c.in-Some.test.now = search rules in
    stays-as (λ call. ap (λ (t : Option Expr). tested (scope_of c.args.walk.now) call c.args.line (option_map tree t)) is)
    (stays-then (λ call z. just (truth z)) c.in_ok-value-in-Some.ensures (stays-just _ (λ call. ap just (search rules))))
