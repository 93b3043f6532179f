use Rattle.std.proofs.Common.{◌≡◌, ◌+◌, ◌-◌, ◌∙◌, suc, true, false, Some, map, refl, sym, ap, rules, arith, None}
use Rattle.std.specs.Prelude.{option_map}
use Rattle.std.specs.Option.{option_copied}
use Rattle.std.specs.Int.{w64}
use Rattle.std.proofs.lemmas.Int.{to_z-of_z}
use Rattle.dc_int.specs.Sorts.{whole}
use Rattle.dc_code.specs.declared.frame.Place.{Place}
use Rattle.dc_code.specs.Combinations.{value_count}
use Rattle.dc_tree.specs.declared.program.Block.{the_lemmas}
use Rattle.dc_tree.specs.Blocks.{Line, Items, arms_from, items, part_items}
use Rattle.dc_tree.specs.Entities.{entity}
use Rattle.dc_tree.specs.Statements.{counted_ranging}
use Rattle.dc_tree.specs.Syntax.{tree}
use Rattle.dc_meaning.specs.Acts.{just, store}
use Rattle.dc_meaning.specs.Actions.{on}
use Rattle.dc_meaning.specs.Values.{Callee}
use Rattle.dc_meaning.specs.Execution.{exec_all, exec_cases, stepped}
use Rattle.dc_meaning.specs.WalkScope.{scope_of, own_of, index_names}
use Rattle.dc_meaning.proofs.Looping.{block-items}
use Rattle.dc_meaning.proofs.Walking.{stays-as}
use Rattle.dc_walk.specs.Arms.{tested, chosen_from}
use Rattle.dc_walk.specs.Counting.{scalar_element, span_with}
use Rattle.dc_walk.specs.declared.flow.Flow.{Flow}
use Rattle.dc_walk.specs.Walked.{is_walked_block}
use Rattle.dc_walk.proofs.Spending.{spends-handed, spends-as, spends-stays, spends-bad, spends-behind, spends-just}
use Rattle.dc_walk.proofs.Blocking.{rest-walked, block-next, block-left, block-bad, block-none}
use Rattle.dc_walk.proofs.Arming.{part-is, arms-walked, arm-taken, arm-passed, arm-bad, arms-none}
use Rattle.dc_walk.proofs.Choosing.{done-at, block-at, cases-done, got-at}
use Rattle.dc_walk.proofs.Rounding.{round-unspent, round-bad, round-left, round-on, rounds, while-bad, while-over, while-on, while-none, while-all, counts, behind-step, count-next, count-none, step-bad, step-on, counted-is, behind-limits, behind-first}
use Rattle.dc_walk.proofs.Noding.{exec-plain, exec-if, exec-select, exec-loop, loop-walked, loop-counted, loop-forever, loop-while, place-walked}
use Rattle.dc_walk.proofs.block.+blocks.Goals as goal

-- ---- the statements of a block

pub perform_all-returns-in_err-flow : goal.perform_all-returns-in_err-flow
perform_all-returns-in_err-flow t c = λ number.
    let i = c.loop-node.invariant in
    spends-handed c.from_residual.result _ c.from_residual.ensures.1
    (i.rest number _ _ _
    (block-bad (scope_of c.args.walk.now) (index_names c.args.walk.now.standing) c.args.nodes.now c.loop-node.node-index c.node-item.result c.loop-node-test.true c.node-item.is i.walked number
    (c.in_err-flow.ensures number)))

pub perform_all-returns-in_default : goal.perform_all-returns-in_default
perform_all-returns-in_default t c = λ number.
    let i = c.loop-node.invariant in
    i.rest number _ _ _
    (block-left (scope_of c.args.walk.now) (index_names c.args.walk.now.standing) c.args.nodes.now c.loop-node.node-index c.node-item.result c.loop-node-test.true c.node-item.is i.walked number
    c.in_ok-flow.flow c.in_default.not-On (c.in_ok-flow.ensures number))

pub perform_all-loop-node-preserved : goal.perform_all-loop-node-preserved
perform_all-loop-node-preserved t c =
    let i = c.loop-node.invariant in
    let scope = scope_of c.args.walk.now in
    let names = index_names c.args.walk.now.standing in
    record {
      walked = rest-walked scope names c.args.nodes.now c.loop-node.node-index c.node-item.result c.loop-node-test.true c.node-item.is i.walked;
      rest = λ number left after r spent.
          i.rest number left after r
          (block-next scope names c.args.nodes.now c.loop-node.node-index c.node-item.result c.loop-node-test.true c.node-item.is i.walked number c.in_ok-flow.flow c.in-On.is
          (c.in_ok-flow.ensures number) spent);
    }

pub perform_all-returns : goal.perform_all-returns
perform_all-returns t c = λ number.
    c.loop-node.invariant.rest number _ _ _ (block-none (scope_of c.args.walk.now) number c.args.nodes.now c.loop-node.node-index c.loop-node-test.false)

-- ---- the arms of IF

pub perform_arms-returns-in_err-holds : goal.perform_arms-returns-in_err-holds
perform_arms-returns-in_err-holds t c = λ number.
    let i = c.loop-arm.invariant in
    let scope = scope_of c.args.walk.now in
    spends-handed c.from_residual.result _ c.from_residual.ensures.1
    (i.rest number _ _ _
    (arm-bad scope (index_names c.args.walk.now.standing) c.args.arms.now c.loop-arm.arm-index c.arm-item.result c.loop-arm-test.true c.arm-item.is i.walked number
    (stays-as (λ call. ap (tested scope call c.arm-item.result.head.line) (sym c.test_of.ensures)) c.in_err-holds.ensures)))

pub perform_arms-returns-then-branch : goal.perform_arms-returns-then-branch
perform_arms-returns-then-branch t c = λ number.
    let i = c.loop-arm.invariant in
    let scope = scope_of c.args.walk.now in
    i.rest number _ _ _
    (arm-taken scope (index_names c.args.walk.now.standing) c.args.arms.now c.loop-arm.arm-index c.arm-item.result c.loop-arm-test.true c.arm-item.is i.walked number
    c.in_ok-holds.field-0 c.if-branch.true
    (stays-as (λ call. ap (tested scope call c.arm-item.result.head.line) (sym c.test_of.ensures)) c.in_ok-holds.ensures)
    (spends-as (λ call. ap (exec_all scope call number) (block-items c.arm-item.result.body c.as_slice.result.now c.as_slice.ensures)) (c.perform_all.ensures number)))

pub perform_arms-loop-arm-preserved : goal.perform_arms-loop-arm-preserved
perform_arms-loop-arm-preserved t c =
    let i = c.loop-arm.invariant in
    let scope = scope_of c.args.walk.now in
    let names = index_names c.args.walk.now.standing in
    record {
      walked = arms-walked scope names c.args.arms.now c.loop-arm.arm-index c.arm-item.result c.loop-arm-test.true c.arm-item.is i.walked;
      rest = λ number left after r spent.
          i.rest number left after r
          (arm-passed scope names c.args.arms.now c.loop-arm.arm-index c.arm-item.result c.loop-arm-test.true c.arm-item.is i.walked number c.in_ok-holds.field-0 c.if-branch.false
          (stays-as (λ call. ap (tested scope call c.arm-item.result.head.line) (sym c.test_of.ensures)) c.in_ok-holds.ensures) spent);
    }

pub perform_arms-returns : goal.perform_arms-returns
perform_arms-returns t c = λ number.
    c.loop-arm.invariant.rest number _ _ _ (arms-none (scope_of c.args.walk.now) number c.args.arms.now c.loop-arm.arm-index c.loop-arm-test.false)

-- ---- the arm of SELECT CASE that is taken

pub perform_cases-perform_all-requires : goal.perform_cases-perform_all-requires
perform_cases-perform_all-requires t c =
    let within = rw c.in-Some.is at c.in_ok-place.ensures.within in
    let part = c.index-arms-place.result in
    let walked = place-walked (scope_of c.args.walk.now) (index_names c.args.walk.now.standing) c.args.arms.now c.in-Some.place part within c.index-arms-place.is c.requires.walked in
    let body = ap (λ (w : Line × Items). w.1) (part-is part) ∙ block-items part.body c.as_slice.result.now c.as_slice.ensures in
    (search (rules, the_lemmas), (c.requires.walk, ap (is_walked_block (scope_of c.args.walk.now) (index_names c.args.walk.now.standing)) (sym body) ∙ walked))

pub perform_cases-returns-in-Some : goal.perform_cases-returns-in-Some
perform_cases-returns-in-Some t c = λ number.
    let scope = scope_of c.args.walk.now in
    let names = index_names c.args.walk.now.standing in
    let told = to_z-of_z w64 c.args.given (search rules) in
    let parts = c.args.arms.now in
    let part = c.index-arms-place.result in
    let within = rw c.in-Some.is at c.in_ok-place.ensures.within in
    let found = ap (λ z. chosen_from scope z 0 (arms_from (map part_items parts)) None) (sym told) ∙ sym c.in_ok-place.ensures.is ∙ c.in-Some.is in
    let body = ap (λ (w : Line × Items). w.1) (part-is part) ∙ block-items part.body c.as_slice.result.now c.as_slice.ensures in
    spends-as
    (λ call.
    cases-done scope names call number c.args.given parts c.requires.walked
    ∙ ap (done-at scope names call number c.args.given parts) found
    ∙ ap (block-at scope names call number c.args.given parts) (got-at parts c.in-Some.place part within c.index-arms-place.is)
    ∙ ap (exec_all scope call number) body)
    (c.perform_all.ensures number)

pub perform_cases-returns-in-None : goal.perform_cases-returns-in-None
perform_cases-returns-in-None t c = λ number.
    let scope = scope_of c.args.walk.now in
    let names = index_names c.args.walk.now.standing in
    let told = to_z-of_z w64 c.args.given (search rules) in
    let parts = c.args.arms.now in
    let found = ap (λ z. chosen_from scope z 0 (arms_from (map part_items parts)) None) (sym told) ∙ sym c.in_ok-place.ensures.is ∙ c.in-None.is in
    spends-just Flow.On (λ call. cases-done scope names call number c.args.given parts c.requires.walked ∙ ap (done-at scope names call number c.args.given parts) found)

-- ---- one statement or construct

pub perform_node-returns-in-Plain : goal.perform_node-returns-in-Plain
perform_node-returns-in-Plain t c = λ number.
    spends-as (λ call. exec-plain (scope_of c.args.walk.now) call number c.args.node.now c.in-Plain.lined c.in-Plain.is) (spends-stays c.perform_line.ensures)

pub perform_node-returns-in-If : goal.perform_node-returns-in-If
perform_node-returns-in-If t c = λ number.
    spends-as (λ call. exec-if (scope_of c.args.walk.now) call number c.args.node.now c.in-If.arms c.as_slice.result.now c.in-If.close c.in-If.is c.as_slice.ensures) (c.perform_arms.ensures number)

pub perform_node-returns-in_err-given-in-Select : goal.perform_node-returns-in_err-given-in-Select
perform_node-returns-in_err-given-in-Select t c = λ number.
    let scope = scope_of c.args.walk.now in
    spends-handed c.from_residual.result _ c.from_residual.ensures.1
    (spends-as (λ call. exec-select scope call number c.args.node.now c.in-Select.head c.in-Select.arms c.in-Select.arms c.in-Select.close c.in-Select.is refl)
    (spends-bad (λ call z. exec_cases scope call number z (arms_from (map part_items c.in-Select.arms)) (just on)) c.in_err-given-in-Select.ensures))

pub perform_node-returns-in_ok-given-in-Select : goal.perform_node-returns-in_ok-given-in-Select
perform_node-returns-in_ok-given-in-Select t c = λ number.
    let scope = scope_of c.args.walk.now in
    let given = c.in_ok-given-in-Select.given in
    let arms = c.as_slice-in-Select.result.now in
    let told = to_z-of_z w64 given (search rules) in
    spends-as (λ call. exec-select scope call number c.args.node.now c.in-Select.head c.in-Select.arms arms c.in-Select.close c.in-Select.is c.as_slice-in-Select.ensures)
    (spends-behind (λ call z. exec_cases scope call number z (arms_from (map part_items arms)) (just on)) c.in_ok-given-in-Select.ensures
    (spends-as (λ call. ap (λ z. exec_cases scope call number z (arms_from (map part_items arms)) (just on)) (sym told)) (c.perform_cases.ensures number)))

pub perform_node-perform_loop-requires : goal.perform_node-perform_loop-requires
perform_node-perform_loop-requires t c =
    let both = loop-walked (scope_of c.args.walk.now) (index_names c.args.walk.now.standing) c.args.node.now c.in-Loop.head c.in-Loop.body c.in-Loop.close c.in-Loop.is c.requires.walked in
    (search (rules, the_lemmas), (c.requires.walk, (both.0, both.1)))

pub perform_node-returns-in-Loop : goal.perform_node-returns-in-Loop
perform_node-returns-in-Loop t c = λ number.
    spends-as (λ call. exec-loop (scope_of c.args.walk.now) call number c.args.node.now c.in-Loop.head c.in-Loop.body c.in-Loop.close c.in-Loop.is) (c.perform_loop.ensures number)

-- ---- loops

pub perform_loop-returns-in-Some : goal.perform_loop-returns-in-Some
perform_loop-returns-in-Some t c = λ number.
    let scope = scope_of c.args.walk.now in
    spends-as (λ call. loop-counted scope call number c.args.head.now c.in-Do.label (exec_all scope call number (items c.args.body.now)) c.in-Do.counted c.in-Some.counted c.in-Do.is c.in-Some.is)
    (c.perform_counted.ensures number)

pub perform_loop-returns-in-None : goal.perform_loop-returns-in-None
perform_loop-returns-in-None t c = λ number.
    let scope = scope_of c.args.walk.now in
    spends-as (λ call. loop-forever scope call number c.args.head.now c.in-Do.label (exec_all scope call number (items c.args.body.now)) c.in-Do.counted c.in-Do.is c.in-None.is)
    (c.perform_while.ensures number)

pub perform_loop-returns-in-DoWhile : goal.perform_loop-returns-in-DoWhile
perform_loop-returns-in-DoWhile t c = λ number.
    let scope = scope_of c.args.walk.now in
    spends-as (λ call. loop-while scope call number c.args.head.now c.in-DoWhile.label (exec_all scope call number (items c.args.body.now)) c.in-DoWhile.test c.in-DoWhile.is)
    (c.perform_while-in-DoWhile.ensures number)

-- ---- a counted DO

pub perform_counted-returns-in_err-steps : goal.perform_counted-returns-in_err-steps
perform_counted-returns-in_err-steps t c = λ number.
    let scope = scope_of c.args.walk.now in
    let ranging = counted_ranging c.args.counted.now in
    let scalar = c.scalar_named-scalar.result in
    let variable = c.scalar_named-scalar.ensures ∙ ap (entity scope) c.as_bytes.ensures in
    let body = λ (call : Callee). exec_all scope call number (items c.args.body.now) in
    spends-handed c.from_residual.result _ c.from_residual.ensures.1
    (spends-as (λ call. counted-is scope c.args.line c.args.label.now ranging scalar body _ variable call)
    (spends-bad (behind-limits scope c.args.line c.args.label.now ranging scalar body) c.in_err-steps.ensures.is))

pub perform_counted-returns-in_err-begin : goal.perform_counted-returns-in_err-begin
perform_counted-returns-in_err-begin t c = λ number.
    let scope = scope_of c.args.walk.now in
    let ranging = counted_ranging c.args.counted.now in
    let scalar = c.scalar_named-scalar.result in
    let variable = c.scalar_named-scalar.ensures ∙ ap (entity scope) c.as_bytes.ensures in
    let body = λ (call : Callee). exec_all scope call number (items c.args.body.now) in
    let steps = c.in_ok-steps.steps in
    let first = to_z-of_z w64 steps.first (search rules) in
    spends-handed c.from_residual-in_err-begin.result _ c.from_residual-in_err-begin.ensures.1
    (spends-as (λ call. counted-is scope c.args.line c.args.label.now ranging scalar body _ variable call)
    (spends-behind (behind-limits scope c.args.line c.args.label.now ranging scalar body) c.in_ok-steps.ensures.is
    (spends-bad (λ call done. behind-first scope c.args.line c.args.label.now ranging scalar body (span_with steps) call)
    (stays-as (λ call. ap (store c.args.line (Place.Outer (scalar_element scalar))) (sym first)) (c.in_err-begin.ensures (own_of c.args.walk.now))))))

pub perform_counted-returns : goal.perform_counted-returns
perform_counted-returns t c = λ number.
    let scope = scope_of c.args.walk.now in
    let ranging = counted_ranging c.args.counted.now in
    let scalar = c.scalar_named-scalar.result in
    let variable = c.scalar_named-scalar.ensures ∙ ap (entity scope) c.as_bytes.ensures in
    let body = λ (call : Callee). exec_all scope call number (items c.args.body.now) in
    let steps = c.in_ok-steps.steps in
    let first = to_z-of_z w64 steps.first (search rules) in
    spends-as (λ call. counted-is scope c.args.line c.args.label.now ranging scalar body _ variable call)
    (spends-behind (behind-limits scope c.args.line c.args.label.now ranging scalar body) c.in_ok-steps.ensures.is
    (spends-behind (λ call done. behind-first scope c.args.line c.args.label.now ranging scalar body (span_with steps) call)
    (stays-as (λ call. ap (store c.args.line (Place.Outer (scalar_element scalar))) (sym first)) (c.in_ok-begin.ensures (own_of c.args.walk.now)))
    (c.perform_rounds.ensures number)))

-- ---- rounds while a test holds

pub perform_while-loop-init : goal.perform_while-loop-init
perform_while-loop-init t c = λ number left after r rest.
    let end : c.most_tests-end.result ≡ suc c.args.turns.now = omega (arith, c.most_tests-end.ensures) in
    while-all (scope_of c.args.walk.now) c.args.line c.args.label.now (option_map tree (option_copied c.args.test)) (λ call. exec_all (scope_of c.args.walk.now) call number (items c.args.body.now))
    c.most_tests-end.result end rest

pub perform_while-returns-in_err-holds : goal.perform_while-returns-in_err-holds
perform_while-returns-in_err-holds t c = λ number.
    spends-handed c.from_residual.result _ c.from_residual.ensures.1
    (c.loop.invariant number _ _ _
    (while-bad (scope_of c.args.walk.now) c.args.line c.args.label.now (option_map tree (option_copied c.args.test)) (λ call. exec_all (scope_of c.args.walk.now) call number (items c.args.body.now))
    c.most_tests-end.result c.loop.counter c.loop-test.true c.in_err-holds.ensures))

pub perform_while-returns-then-not-branch : goal.perform_while-returns-then-not-branch
perform_while-returns-then-not-branch t c = λ number.
    let over : c.in_ok-holds.field-0 ≡ false = search rules in
    c.loop.invariant number _ _ _
    (while-over (scope_of c.args.walk.now) c.args.line c.args.label.now (option_map tree (option_copied c.args.test)) (λ call. exec_all (scope_of c.args.walk.now) call number (items c.args.body.now))
    c.most_tests-end.result c.loop.counter c.loop-test.true c.in_ok-holds.field-0 over c.in_ok-holds.ensures)

pub perform_while-returns-in_err-spend : goal.perform_while-returns-in_err-spend
perform_while-returns-in_err-spend t c = λ number.
    let scope = scope_of c.args.walk.now in
    let test = option_map tree (option_copied c.args.test) in
    let body = λ (call : Callee). exec_all scope call number (items c.args.body.now) in
    let on : c.in_ok-holds.field-0 ≡ true = search rules in
    spends-handed c.from_residual-in_err-spend.result _ c.from_residual-in_err-spend.ensures.1
    (c.loop.invariant number _ _ _
    (while-on scope c.args.line c.args.label.now test body c.most_tests-end.result c.loop.counter c.loop-test.true c.in_ok-holds.field-0 on c.in_ok-holds.ensures
    (round-unspent c.args.line c.args.label.now body (rounds scope c.args.line c.args.label.now test body (c.most_tests-end.result - (c.loop.counter + 1)))
    (record { walks = c.in_err-spend.ensures (own_of c.args.walk.now) c.holds.new.ledger }))))

pub perform_while-returns-in_err-flow : goal.perform_while-returns-in_err-flow
perform_while-returns-in_err-flow t c = λ number.
    let scope = scope_of c.args.walk.now in
    let test = option_map tree (option_copied c.args.test) in
    let body = λ (call : Callee). exec_all scope call number (items c.args.body.now) in
    let on : c.in_ok-holds.field-0 ≡ true = search rules in
    spends-handed c.from_residual-in_err-flow.result _ c.from_residual-in_err-flow.ensures.1
    (c.loop.invariant number _ _ _
    (while-on scope c.args.line c.args.label.now test body c.most_tests-end.result c.loop.counter c.loop-test.true c.in_ok-holds.field-0 on c.in_ok-holds.ensures
    (round-bad c.args.line c.args.label.now body (rounds scope c.args.line c.args.label.now test body (c.most_tests-end.result - (c.loop.counter + 1)))
    (record { walks = c.in_ok-spend.ensures (own_of c.args.walk.now) c.holds.new.ledger })
    (spends-as (λ call. ap (exec_all scope call number) (block-items c.args.body.now c.as_slice.result.now c.as_slice.ensures)) (c.in_err-flow.ensures number)))))

pub perform_while-returns-in-Some : goal.perform_while-returns-in-Some
perform_while-returns-in-Some t c = λ number.
    let scope = scope_of c.args.walk.now in
    let test = option_map tree (option_copied c.args.test) in
    let body = λ (call : Callee). exec_all scope call number (items c.args.body.now) in
    let on : c.in_ok-holds.field-0 ≡ true = search rules in
    c.loop.invariant number _ _ _
    (while-on scope c.args.line c.args.label.now test body c.most_tests-end.result c.loop.counter c.loop-test.true c.in_ok-holds.field-0 on c.in_ok-holds.ensures
    (round-left c.args.line c.args.label.now body (rounds scope c.args.line c.args.label.now test body (c.most_tests-end.result - (c.loop.counter + 1)))
    (record { walks = c.in_ok-spend.ensures (own_of c.args.walk.now) c.holds.new.ledger }) c.in_ok-flow.flow (Some c.in-Some.flow) c.in-Some.flow c.in-Some.ensures refl
    (spends-as (λ call. ap (exec_all scope call number) (block-items c.args.body.now c.as_slice.result.now c.as_slice.ensures)) (c.in_ok-flow.ensures number))))

pub perform_while-loop-preserved : goal.perform_while-loop-preserved
perform_while-loop-preserved t c = λ number left after r rest.
    let scope = scope_of c.args.walk.now in
    let test = option_map tree (option_copied c.args.test) in
    let body = λ (call : Callee). exec_all scope call number (items c.args.body.now) in
    let on : c.in_ok-holds.field-0 ≡ true = search rules in
    let further : c.leaving.result ≡ None = search rules in
    c.loop.invariant number left after r
    (while-on scope c.args.line c.args.label.now test body c.most_tests-end.result c.loop.counter c.loop-test.true c.in_ok-holds.field-0 on c.in_ok-holds.ensures
    (round-on c.args.line c.args.label.now body (rounds scope c.args.line c.args.label.now test body (c.most_tests-end.result - (c.loop.counter + 1)))
    (record { walks = c.in_ok-spend.ensures (own_of c.args.walk.now) c.holds.new.ledger }) c.in_ok-flow.flow c.leaving.result c.leaving.ensures further
    (spends-as (λ call. ap (exec_all scope call number) (block-items c.args.body.now c.as_slice.result.now c.as_slice.ensures)) (c.in_ok-flow.ensures number)) rest))

pub perform_while-returns : goal.perform_while-returns
perform_while-returns t c = λ number.
    c.loop.invariant number _ _ _
    (while-none (scope_of c.args.walk.now) c.args.line c.args.label.now (option_map tree (option_copied c.args.test)) (λ call. exec_all (scope_of c.args.walk.now) call number (items c.args.body.now))
    c.most_tests-end.result c.loop.counter c.loop-test.false)

-- ---- rounds for each value of a variable

pub perform_rounds-loop-init : goal.perform_rounds-loop-init
perform_rounds-loop-init t c = λ number left after r rest.
    let scope = scope_of c.args.walk.now in
    let step = stepped c.args.line (Place.Outer (scalar_element c.args.scalar)) (whole c.args.scalar.kind) c.args.steps.step in
    let body = λ (call : Callee). exec_all scope call number (items c.args.body.now) in
    let same : value_count (span_with c.args.steps) ≡ c.count-end.result - 0 = omega (arith, c.count-end.ensures) in
    spends-as (λ call. ap (λ n. counts c.args.line c.args.label.now step body n call) same) rest

pub perform_rounds-returns-in_err-spend : goal.perform_rounds-returns-in_err-spend
perform_rounds-returns-in_err-spend t c = λ number.
    let scope = scope_of c.args.walk.now in
    let step = stepped c.args.line (Place.Outer (scalar_element c.args.scalar)) (whole c.args.scalar.kind) c.args.steps.step in
    let body = λ (call : Callee). exec_all scope call number (items c.args.body.now) in
    let left = c.count-end.result - (c.loop.counter + 1) in
    spends-handed c.from_residual.result _ c.from_residual.ensures.1
    (c.loop.invariant number _ _ _
    (count-next c.args.line c.args.label.now step body c.count-end.result c.loop.counter c.loop-test.true
    (round-unspent c.args.line c.args.label.now body (behind-step c.args.line c.args.label.now step body left) (record { walks = c.in_err-spend.ensures (own_of c.args.walk.now) c.loop.ledger }))))

pub perform_rounds-returns-in_err-flow : goal.perform_rounds-returns-in_err-flow
perform_rounds-returns-in_err-flow t c = λ number.
    let scope = scope_of c.args.walk.now in
    let step = stepped c.args.line (Place.Outer (scalar_element c.args.scalar)) (whole c.args.scalar.kind) c.args.steps.step in
    let body = λ (call : Callee). exec_all scope call number (items c.args.body.now) in
    let left = c.count-end.result - (c.loop.counter + 1) in
    spends-handed c.from_residual-in_err-flow.result _ c.from_residual-in_err-flow.ensures.1
    (c.loop.invariant number _ _ _
    (count-next c.args.line c.args.label.now step body c.count-end.result c.loop.counter c.loop-test.true
    (round-bad c.args.line c.args.label.now body (behind-step c.args.line c.args.label.now step body left) (record { walks = c.in_ok-spend.ensures (own_of c.args.walk.now) c.loop.ledger })
    (spends-as (λ call. ap (exec_all scope call number) (block-items c.args.body.now c.as_slice.result.now c.as_slice.ensures)) (c.in_err-flow.ensures number)))))

pub perform_rounds-returns-in-Some : goal.perform_rounds-returns-in-Some
perform_rounds-returns-in-Some t c = λ number.
    let scope = scope_of c.args.walk.now in
    let step = stepped c.args.line (Place.Outer (scalar_element c.args.scalar)) (whole c.args.scalar.kind) c.args.steps.step in
    let body = λ (call : Callee). exec_all scope call number (items c.args.body.now) in
    let left = c.count-end.result - (c.loop.counter + 1) in
    c.loop.invariant number _ _ _
    (count-next c.args.line c.args.label.now step body c.count-end.result c.loop.counter c.loop-test.true
    (round-left c.args.line c.args.label.now body (behind-step c.args.line c.args.label.now step body left) (record { walks = c.in_ok-spend.ensures (own_of c.args.walk.now) c.loop.ledger })
    c.in_ok-flow.flow (Some c.in-Some.flow) c.in-Some.flow c.in-Some.ensures refl
    (spends-as (λ call. ap (exec_all scope call number) (block-items c.args.body.now c.as_slice.result.now c.as_slice.ensures)) (c.in_ok-flow.ensures number))))

pub perform_rounds-returns-in_err-step : goal.perform_rounds-returns-in_err-step
perform_rounds-returns-in_err-step t c = λ number.
    let scope = scope_of c.args.walk.now in
    let by = to_z-of_z w64 c.args.steps.step (search rules) in
    let step = stepped c.args.line (Place.Outer (scalar_element c.args.scalar)) (whole c.args.scalar.kind) c.args.steps.step in
    let body = λ (call : Callee). exec_all scope call number (items c.args.body.now) in
    let left = c.count-end.result - (c.loop.counter + 1) in
    let further : c.leaving.result ≡ None = search rules in
    spends-handed c.from_residual-in_err-step.result _ c.from_residual-in_err-step.ensures.1
    (c.loop.invariant number _ _ _
    (count-next c.args.line c.args.label.now step body c.count-end.result c.loop.counter c.loop-test.true
    (round-on c.args.line c.args.label.now body (behind-step c.args.line c.args.label.now step body left) (record { walks = c.in_ok-spend.ensures (own_of c.args.walk.now) c.loop.ledger })
    c.in_ok-flow.flow c.leaving.result c.leaving.ensures further
    (spends-as (λ call. ap (exec_all scope call number) (block-items c.args.body.now c.as_slice.result.now c.as_slice.ensures)) (c.in_ok-flow.ensures number))
    (step-bad c.args.line c.args.label.now step body left
    (stays-as (λ call. ap (stepped c.args.line (Place.Outer (scalar_element c.args.scalar)) (whole c.args.scalar.kind)) (sym by)) (c.in_err-step.ensures (own_of c.args.walk.now)))))))

pub perform_rounds-loop-preserved : goal.perform_rounds-loop-preserved
perform_rounds-loop-preserved t c = λ number later after r rest.
    let scope = scope_of c.args.walk.now in
    let by = to_z-of_z w64 c.args.steps.step (search rules) in
    let step = stepped c.args.line (Place.Outer (scalar_element c.args.scalar)) (whole c.args.scalar.kind) c.args.steps.step in
    let body = λ (call : Callee). exec_all scope call number (items c.args.body.now) in
    let left = c.count-end.result - (c.loop.counter + 1) in
    let further : c.leaving.result ≡ None = search rules in
    c.loop.invariant number later after r
    (count-next c.args.line c.args.label.now step body c.count-end.result c.loop.counter c.loop-test.true
    (round-on c.args.line c.args.label.now body (behind-step c.args.line c.args.label.now step body left) (record { walks = c.in_ok-spend.ensures (own_of c.args.walk.now) c.loop.ledger })
    c.in_ok-flow.flow c.leaving.result c.leaving.ensures further
    (spends-as (λ call. ap (exec_all scope call number) (block-items c.args.body.now c.as_slice.result.now c.as_slice.ensures)) (c.in_ok-flow.ensures number))
    (step-on c.args.line c.args.label.now step body left
    (stays-as (λ call. ap (stepped c.args.line (Place.Outer (scalar_element c.args.scalar)) (whole c.args.scalar.kind)) (sym by)) (c.in_ok-step.ensures (own_of c.args.walk.now))) rest)))

pub perform_rounds-returns : goal.perform_rounds-returns
perform_rounds-returns t c = λ number.
    let scope = scope_of c.args.walk.now in
    let step = stepped c.args.line (Place.Outer (scalar_element c.args.scalar)) (whole c.args.scalar.kind) c.args.steps.step in
    let body = λ (call : Callee). exec_all scope call number (items c.args.body.now) in
    c.loop.invariant number _ _ _ (count-none c.args.line c.args.label.now step body c.count-end.result c.loop.counter c.loop-test.false)
