use Rattle.std.proofs.Common.{sym, ap, ap₂, ◌∙◌, rules, [], ◌∷◌, ◌++◌}
use Rattle.std.specs.Int.{w64}
use Rattle.std.specs.Prelude.{map, option_map, ℤ}
use Rattle.std.proofs.lemmas.Int.{to_z-of_z}
use Rattle.dc_tree.specs.declared.expr.Expr.{the_lemmas}
use Rattle.dc_tree.specs.Syntax.{tree, arg_tree, args_from}
use Rattle.dc_sorts.specs.Functions.{function_of}
use Rattle.dc_entities.specs.Found.{entity_of}
use Rattle.dc_meaning.specs.Evaluating.{referred_at, joined_at, led_at}
use Rattle.dc_meaning.specs.WalkScope.{scope_of}
use Rattle.dc_meaning.proofs.Cycling.{value-of_refer, value-of_paren, value-of_unary, value-of_binary, first-of_args, held-right, item-held, rest-held, arguments-next, arguments-bad, arguments-none, arguments-all}
use Rattle.dc_meaning.proofs.Valuing.{name-value, refer-all, refer-all_bad, refer-first, refer-first_bad, refer-none, unary-value, unary-bad, left-bad, right-bad, binary-value}
use Rattle.dc_meaning.proofs.Walking.{handed, stays-as}
use Rattle.dc_meaning.proofs.expressions.+values.Goals as goal

-- ---- values of arguments

pub first_value-returns-in-len1-up : goal.first_value-returns-in-len1-up
first_value-returns-in-len1-up t c =
    first-of_args (scope_of c.args.walk.now) c.args.line c.args.args.now c.first-item.result c.in-len1-up.len_at_least c.first-item.is c.value.ensures

-- ---- a name

pub value-returns-in-Name : goal.value-returns-in-Name
value-returns-in-Name t c =
    name-value (scope_of c.args.walk.now) c.args.line c.args.expr.now c.in-Name.text _ _ c.in-Name.is c.as_bytes-in-Name.ensures c.find-found.ensures.found c.value_at.ensures

-- ---- a reference

pub value-returns-in_err-given-in-All : goal.value-returns-in_err-given-in-All
value-returns-in_err-given-in-All t c =
    let args = args_from (map arg_tree c.as_slice-args.result.now) in
    handed c.from_residual.result _ c.from_residual.ensures.1
    (value-of_refer (scope_of c.args.walk.now) c.args.line c.args.expr.now c.in-Refer.name c.in-Refer.args _ _ c.in-Refer.is c.as_bytes-text.ensures c.as_slice-args.ensures
    (refer-all_bad (scope_of c.args.walk.now) c.args.line c.as_bytes-text.result.now args c.find-found-in-Refer.result (option_map function_of c.function_named-function.result) c.find-found-in-Refer.ensures.found
    c.function_named-function.ensures (sym c.evaluated.ensures ∙ c.in-All.is) c.in_err-given-in-All.ensures))

pub value-returns-in_ok-given-in-All : goal.value-returns-in_ok-given-in-All
value-returns-in_ok-given-in-All t c =
    let args = args_from (map arg_tree c.as_slice-args.result.now) in
    value-of_refer (scope_of c.args.walk.now) c.args.line c.args.expr.now c.in-Refer.name c.in-Refer.args _ _ c.in-Refer.is c.as_bytes-text.ensures c.as_slice-args.ensures
    (refer-all (scope_of c.args.walk.now) c.args.line c.as_bytes-text.result.now args c.find-found-in-Refer.result (option_map function_of c.function_named-function.result) c.find-found-in-Refer.ensures.found
    c.function_named-function.ensures _ (sym c.evaluated.ensures ∙ c.in-All.is) c.in_ok-given-in-All.ensures
    (stays-as (λ call. ap (referred_at (scope_of c.args.walk.now) c.args.line (entity_of c.find-found-in-Refer.result) (option_map function_of c.function_named-function.result) args) (sym c.as_slice-given.ensures)) c.referred.ensures))

pub value-returns-in_err-given-in-First : goal.value-returns-in_err-given-in-First
value-returns-in_err-given-in-First t c =
    let args = args_from (map arg_tree c.as_slice-args.result.now) in
    handed c.from_residual-in_err-given-in-First.result _ c.from_residual-in_err-given-in-First.ensures.1
    (value-of_refer (scope_of c.args.walk.now) c.args.line c.args.expr.now c.in-Refer.name c.in-Refer.args _ _ c.in-Refer.is c.as_bytes-text.ensures c.as_slice-args.ensures
    (refer-first_bad (scope_of c.args.walk.now) c.args.line c.as_bytes-text.result.now args c.find-found-in-Refer.result (option_map function_of c.function_named-function.result) c.find-found-in-Refer.ensures.found
    c.function_named-function.ensures (sym c.evaluated.ensures ∙ c.in-First.is) c.in_err-given-in-First.ensures))

pub value-returns-in_ok-converted-in-First : goal.value-returns-in_ok-converted-in-First
value-returns-in_ok-converted-in-First t c =
    let args = args_from (map arg_tree c.as_slice-args.result.now) in
    value-of_refer (scope_of c.args.walk.now) c.args.line c.args.expr.now c.in-Refer.name c.in-Refer.args _ _ c.in-Refer.is c.as_bytes-text.ensures c.as_slice-args.ensures
    (refer-first (scope_of c.args.walk.now) c.args.line c.as_bytes-text.result.now args c.find-found-in-Refer.result (option_map function_of c.function_named-function.result) c.find-found-in-Refer.ensures.found
    c.function_named-function.ensures c.in_ok-given-in-First.given _ (sym c.evaluated.ensures ∙ c.in-First.is)
    (search rules) c.in_ok-given-in-First.ensures)

pub value-returns-in-Some : goal.value-returns-in-Some
value-returns-in-Some t c =
    let args = args_from (map arg_tree c.as_slice-args.result.now) in
    value-of_refer (scope_of c.args.walk.now) c.args.line c.args.expr.now c.in-Refer.name c.in-Refer.args _ _ c.in-Refer.is c.as_bytes-text.ensures c.as_slice-args.ensures
    (refer-none (scope_of c.args.walk.now) c.args.line c.as_bytes-text.result.now args c.find-found-in-Refer.result (option_map function_of c.function_named-function.result) c.find-found-in-Refer.ensures.found
    c.function_named-function.ensures (function_of c.in-Some.function) (ap (option_map function_of) c.in-Some.is) (sym c.evaluated.ensures ∙ c.in-Nothing.is) c.unevaluated.ensures)

-- ---- brackets and marks

pub value-returns-in-Paren : goal.value-returns-in-Paren
value-returns-in-Paren t c =
    value-of_paren (scope_of c.args.walk.now) c.args.line c.args.expr.now c.in-Paren.inside _ c.in-Paren.is c.get.ensures c.value.ensures

pub value-returns-in_err-a-in-Unary : goal.value-returns-in_err-a-in-Unary
value-returns-in_err-a-in-Unary t c =
    handed c.from_residual-in_err-a-in-Unary.result _ c.from_residual-in_err-a-in-Unary.ensures.1
    (value-of_unary (scope_of c.args.walk.now) c.args.line c.args.expr.now c.in-Unary.mark c.in-Unary.right _ c.in-Unary.is c.get-right.ensures
    (unary-bad (scope_of c.args.walk.now) c.args.line c.in-Unary.mark (tree c.get-right.result.now) c.in_err-a-in-Unary.ensures))

pub value-returns-in_ok-a-in-Unary : goal.value-returns-in_ok-a-in-Unary
value-returns-in_ok-a-in-Unary t c =
    let a = to_z-of_z w64 c.in_ok-a-in-Unary.a (search rules) in
    value-of_unary (scope_of c.args.walk.now) c.args.line c.args.expr.now c.in-Unary.mark c.in-Unary.right _ c.in-Unary.is c.get-right.ensures
    (unary-value (scope_of c.args.walk.now) c.args.line c.in-Unary.mark (tree c.get-right.result.now) c.in_ok-a-in-Unary.a c.in_ok-a-in-Unary.ensures
    (stays-as (λ call. ap (led_at (scope_of c.args.walk.now) c.args.line c.in-Unary.mark (tree c.get-right.result.now)) (sym a)) (c.led.ensures c.value-in-Unary.new.ledger)))

pub value-returns-in_err-a-in-Binary : goal.value-returns-in_err-a-in-Binary
value-returns-in_err-a-in-Binary t c =
    handed c.from_residual-in_err-a-in-Binary.result _ c.from_residual-in_err-a-in-Binary.ensures.1
    (value-of_binary (scope_of c.args.walk.now) c.args.line c.args.expr.now c.in-Binary.mark c.in-Binary.left c.in-Binary.right _ _ c.in-Binary.is c.get-left.ensures c.get-right-in-Binary.ensures
    (left-bad (scope_of c.args.walk.now) c.args.line c.in-Binary.mark (tree c.get-left.result.now) (tree c.get-right-in-Binary.result.now) c.in_err-a-in-Binary.ensures))

pub value-value-requires-in-Binary-2 : goal.value-value-requires-in-Binary-2
value-value-requires-in-Binary-2 t c =
    (search (rules, the_lemmas), (c.requires.walk, held-right c.args.expr.now c.in-Binary.mark c.in-Binary.left c.in-Binary.right _ c.in-Binary.is c.get-right-in-Binary.ensures c.requires.held))

pub value-returns-in_err-b-in-Binary : goal.value-returns-in_err-b-in-Binary
value-returns-in_err-b-in-Binary t c =
    handed c.from_residual-in_err-b-in-Binary.result _ c.from_residual-in_err-b-in-Binary.ensures.1
    (value-of_binary (scope_of c.args.walk.now) c.args.line c.args.expr.now c.in-Binary.mark c.in-Binary.left c.in-Binary.right _ _ c.in-Binary.is c.get-left.ensures c.get-right-in-Binary.ensures
    (right-bad (scope_of c.args.walk.now) c.args.line c.in-Binary.mark (tree c.get-left.result.now) (tree c.get-right-in-Binary.result.now) c.in_ok-a-in-Binary.a c.in_ok-a-in-Binary.ensures c.in_err-b-in-Binary.ensures))

pub value-returns-in_ok-b-in-Binary : goal.value-returns-in_ok-b-in-Binary
value-returns-in_ok-b-in-Binary t c =
    let a = to_z-of_z w64 c.in_ok-a-in-Binary.a (search rules) in
    let b = to_z-of_z w64 c.in_ok-b-in-Binary.b (search rules) in
    value-of_binary (scope_of c.args.walk.now) c.args.line c.args.expr.now c.in-Binary.mark c.in-Binary.left c.in-Binary.right _ _ c.in-Binary.is c.get-left.ensures c.get-right-in-Binary.ensures
    (binary-value (scope_of c.args.walk.now) c.args.line c.in-Binary.mark (tree c.get-left.result.now) (tree c.get-right-in-Binary.result.now) c.in_ok-a-in-Binary.a c.in_ok-b-in-Binary.b c.in_ok-a-in-Binary.ensures c.in_ok-b-in-Binary.ensures
    (stays-as
    (λ call. ap₂ (joined_at (scope_of c.args.walk.now) c.args.line c.in-Binary.mark (tree c.get-left.result.now) (tree c.get-right-in-Binary.result.now)) (sym a) (sym b))
    (c.joined.ensures c.value-in-Binary-2.new.ledger)))

-- ---- the loop over arguments

pub values_of-value-requires : goal.values_of-value-requires
values_of-value-requires t c =
    (search (rules, the_lemmas), (c.requires.walk, item-held c.args.args.now c.loop-arg.arg-index c.arg-item.result c.loop-arg-test.true c.arg-item.is c.loop-arg.invariant.held))

pub values_of-loop-arg-init : goal.values_of-loop-arg-init
values_of-loop-arg-init t c = record {
  held = c.requires.held;
  left = λ after r walks. arguments-all c.args.args.now (scope_of c.args.walk.now) c.args.line _ c.new-given.ensures walks;
}

pub values_of-returns-in_err-value : goal.values_of-returns-in_err-value
values_of-returns-in_err-value t c =
    handed c.from_residual.result _ c.from_residual.ensures.1
    (c.loop-arg.invariant.left _ _
    (arguments-bad c.args.args.now c.loop-arg.arg-index c.arg-item.result c.loop-arg-test.true c.arg-item.is (scope_of c.args.walk.now) c.args.line c.loop-arg.given c.in_err-value.ensures))

pub values_of-loop-arg-preserved : goal.values_of-loop-arg-preserved
values_of-loop-arg-preserved t c =
    let told = to_z-of_z w64 c.in_ok-value.field-0 (search rules) in
    record {
      held = rest-held c.args.args.now c.loop-arg.arg-index c.arg-item.result c.loop-arg-test.true c.arg-item.is c.loop-arg.invariant.held;
      left = λ after r walks.
          c.loop-arg.invariant.left after r
          (arguments-next c.args.args.now c.loop-arg.arg-index c.arg-item.result c.loop-arg-test.true c.arg-item.is (scope_of c.args.walk.now) c.args.line c.loop-arg.given _ _
          (c.in_ok-push.ensures.ok ∙ ap (λ (z : ℤ). c.loop-arg.given ++ z ∷ []) told) c.in_ok-value.ensures walks);
    }

pub values_of-returns : goal.values_of-returns
values_of-returns t c =
    c.loop-arg.invariant.left _ _ (arguments-none c.args.args.now c.loop-arg.arg-index c.loop-arg-test.false (scope_of c.args.walk.now) c.args.line c.loop-arg.given)
