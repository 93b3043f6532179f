-- One argument more, and the parts of a reference and of two operands.
use Rattle.std.proofs.Common.{◌≡◌, ◌+◌, ◌<◌, List, [], ◌∷◌, ◌++◌, length, map, drop, get_or, option_map, ap, sym, ◌∙◌, append_assoc, rules, arith}
use Rattle.dc_code.specs.declared.instr.What.{What}
use Rattle.dc_tree.specs.declared.expr.Arg.{Arg, out-Arg}
use Rattle.dc_tree.specs.declared.expr.Expr.{the_lemmas}
use Rattle.dc_form.specs.BuiltPrograms.{is_held}
use Rattle.dc_tree.specs.Syntax.{Tree, arg_tree, args_from, tree}
use Rattle.dc_sorts.specs.declared.known.Known.{Known}
use Rattle.dc_sorts.specs.Functions.{function_of}
use Rattle.dc_sorts.specs.Knowing.{known_of, known_args, known_referred}
use Rattle.dc_sorts.proofs.Knowing.{known-refer}
use Rattle.dc_entities.specs.Found.{entity_of}
use Rattle.dc_meaning.proofs.Cycling.{item-held, rest-held}
use Rattle.dc_actions.specs.Expressions.{value_code, values_code, further_code}
use Rattle.dc_actions.specs.Naming.{scope_of}
use Rattle.dc_actions.specs.References.{arguments_code, behind_code}
use Rattle.dc_actions.proofs.Making.{grown, args-next, code-refer, code-binary}
use Rattle.dc_actions.proofs.values.+values.Goals as goal

pub values-loop-arg-preserved : goal.values-loop-arg-preserved
values-loop-arg-preserved t c =
    let scope = scope_of c.args.names.now in
    let args = c.args.args.now in
    let at = c.loop-arg.arg-index in
    let item = c.arg-item.result in
    let one = tree (out-Arg item).value in
    let here = args_from (map arg_tree (drop at args)) in
    let rest = args_from (map arg_tree (drop (at + 1) args)) in
    let next = args-next args at item c.loop-arg-test.true c.arg-item.is in
    record {
      held = rest-held args at item c.loop-arg-test.true c.arg-item.is c.loop-arg.invariant.held;
      known =
          grown c.loop-arg.known (known_of scope one ∷ []) _ (known_args scope here) (known_args scope rest) _ (ap (known_args scope) next)
          (c.in_ok-push.ensures.ok ∙ ap (λ (k : Known). c.loop-arg.known ++ k ∷ []) c.in_ok-value.ensures.known) c.loop-arg.invariant.known;
      code =
          grown c.loop-arg.whats (value_code scope one) _ (values_code scope here) (values_code scope rest) _ (ap (values_code scope) next) c.in_ok-value.ensures.code
          c.loop-arg.invariant.code;
    }

pub further-value-requires : goal.further-value-requires
further-value-requires t c =
    let below : c.loop-at.at < length c.args.args.now = omega (arith, c.loop-at-test.true) in
    let same : tree (out-Arg (get_or c.args.args.now c.loop-at.at c.index-args-at.result)).value ≡ tree (out-Arg c.index-args-at.result).value =
    ap (λ (one : Arg). tree (out-Arg one).value) (sym c.index-args-at.is) in
    (search (rules, the_lemmas), (c.requires.names, ap is_held same ∙ item-held c.args.args.now c.loop-at.at c.index-args-at.result below c.index-args-at.is c.loop-at.invariant.held))

pub further-loop-at-preserved : goal.further-loop-at-preserved
further-loop-at-preserved t c =
    let scope = scope_of c.args.names.now in
    let args = c.args.args.now in
    let at = c.loop-at.at in
    let item = c.index-args-at.result in
    let one = tree (out-Arg item).value in
    let here = args_from (map arg_tree (drop at args)) in
    let rest = args_from (map arg_tree (drop (at + 1) args)) in
    let below : at < length args = omega (arith, c.loop-at-test.true) in
    let next = args-next args at item below c.index-args-at.is in
    let same : tree (out-Arg (get_or args at item)).value ≡ one = ap (λ (x : Arg). tree (out-Arg x).value) (sym c.index-args-at.is) in
    let operation = What.Arith c.args.op c.args.kind in
    let behind = operation ∷ further_code scope c.args.op c.args.kind rest in
    record {
      held = rest-held args at item below c.index-args-at.is c.loop-at.invariant.held;
      known =
          grown c.loop-at.known (known_of scope one ∷ []) _ (known_args scope here) (known_args scope rest) _ (ap (known_args scope) next)
          (c.in_ok-push.ensures.ok ∙ ap (λ (k : Known). c.loop-at.known ++ k ∷ []) (c.in_ok-value.ensures.known ∙ ap (known_of scope) same)) c.loop-at.invariant.known;
      code =
          grown c.value.new.whats (operation ∷ []) _ behind (further_code scope c.args.op c.args.kind rest) _ (search rules) c.in_ok-push-2.ensures.ok
          (grown c.loop-at.whats (value_code scope one) _ (further_code scope c.args.op c.args.kind here) behind _ (ap (further_code scope c.args.op c.args.kind) next)
          (c.in_ok-value.ensures.code ∙ ap (λ (t : Tree). c.loop-at.whats ++ value_code scope t) same) c.loop-at.invariant.code);
    }

pub reference-returns-clause-known : goal.reference-returns-clause-known
reference-returns-clause-known t c =
    let scope = scope_of c.args.names.now in
    let args = args_from (map arg_tree c.args.args.now) in
    c.known_referred.ensures ∙ ap (known_referred scope c.args.text.now) (c.as_slice-2.ensures ∙ c.in_ok-known.ensures.known) ∙ sym (known-refer scope c.args.text.now args)

pub reference-returns-clause-code : goal.reference-returns-clause-code
reference-returns-clause-code t c =
    let scope = scope_of c.args.names.now in
    let args = args_from (map arg_tree c.args.args.now) in
    let found = entity_of c.find-found.result in
    let function = option_map function_of c.function_named-function.result in
    c.in_ok-behind.ensures ∙ ap (λ (w : List What). w ++ behind_code scope found function args) c.in_ok-known.ensures.code
    ∙ append_assoc c.args.whats.now (arguments_code scope function args) (behind_code scope found function args)
    ∙ ap (λ (w : List What). c.args.whats.now ++ w) (sym (code-refer scope c.args.text.now args found function c.find-found.ensures.found c.function_named-function.ensures))

pub value-returns-in_ok-joined-in-Binary-clause-code : goal.value-returns-in_ok-joined-in-Binary-clause-code
value-returns-in_ok-joined-in-Binary-clause-code t c =
    code-binary (scope_of c.args.names.now) c.args.expr.now c.in-Binary.mark c.in-Binary.left c.in-Binary.right c.get-in-Binary.result.now c.get-in-Binary-2.result.now c.in_ok-left-in-Binary.left
    c.in_ok-right-in-Binary.right c.joined_form.result c.args.whats.now _ _ _ c.in-Binary.is c.get-in-Binary.ensures c.get-in-Binary-2.ensures c.in_ok-left-in-Binary.ensures.known
    c.in_ok-right-in-Binary.ensures.known c.joined_form.ensures c.in_ok-left-in-Binary.ensures.code c.in_ok-right-in-Binary.ensures.code c.in_ok-joined-in-Binary.ensures
