use Rattle.std.proofs.Common.{ap, ◌∙◌, ◌++◌, [], ◌∷◌, rules, map}
use Rattle.std.specs.Prelude.{ℤ}
use Rattle.std.specs.Int.{w64}
use Rattle.std.proofs.lemmas.Int.{to_z-of_z}
use Rattle.dc_tree.specs.Syntax.{tree}
use Rattle.dc_meaning.specs.WalkScope.{scope_of}
use Rattle.dc_meaning.proofs.Cycling.{expr-held, exprs-held, exprs-next, exprs-bad, exprs-none, exprs-all}
use Rattle.dc_meaning.proofs.Walking.{handed}
use Rattle.dc_meaning.proofs.expressions.all_values.Goals as goal

pub loop-expr-init : goal.loop-expr-init
loop-expr-init c = record {
  held = c.requires.held;
  left = λ after r walks. exprs-all (map tree c.args.exprs.now) (scope_of c.args.walk.now) c.args.line _ c.new-given.ensures walks;
}

pub value-requires-clause-held : goal.value-requires-clause-held
value-requires-clause-held c = expr-held c.args.exprs.now c.loop-expr.expr-index c.expr-item.result c.loop-expr-test.true c.expr-item.is c.loop-expr.invariant.held

pub returns-in_err-value : goal.returns-in_err-value
returns-in_err-value c =
    handed c.from_residual.result _ c.from_residual.ensures.1
    (c.loop-expr.invariant.left _ _
    (exprs-bad c.args.exprs.now c.loop-expr.expr-index c.expr-item.result c.loop-expr-test.true c.expr-item.is (scope_of c.args.walk.now) c.args.line c.loop-expr.given c.in_err-value.ensures))

pub loop-expr-preserved : goal.loop-expr-preserved
loop-expr-preserved c =
    let told = to_z-of_z w64 c.in_ok-value.field-0 (search rules) in
    record {
      held = exprs-held c.args.exprs.now c.loop-expr.expr-index c.expr-item.result c.loop-expr-test.true c.expr-item.is c.loop-expr.invariant.held;
      left = λ after r walks.
          c.loop-expr.invariant.left after r
          (exprs-next c.args.exprs.now c.loop-expr.expr-index c.expr-item.result c.loop-expr-test.true c.expr-item.is (scope_of c.args.walk.now) c.args.line c.loop-expr.given _ _
          (c.in_ok-push.ensures.ok ∙ ap (λ (z : ℤ). c.loop-expr.given ++ z ∷ []) told) c.in_ok-value.ensures walks);
    }

pub returns : goal.returns
returns c = c.loop-expr.invariant.left _ _ (exprs-none c.args.exprs.now c.loop-expr.expr-index c.loop-expr-test.false (scope_of c.args.walk.now) c.args.line c.loop-expr.given)
