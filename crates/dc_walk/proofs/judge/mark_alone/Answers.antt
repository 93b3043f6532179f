use Rattle.std.proofs.Common.{rules, ◌≡◌, ◌∙◌, sym, subst, slice_index_or, pos, arith, Option, Some, None, ℤ, ℕ, to_z, of_z, w64}
use Rattle.dc_int.specs.declared.fault.Why.{Why}
use Rattle.dc_code.specs.Loops.{alone}
use Rattle.dc_walk.specs.Judging.{combination, IsOne}
use Rattle.dc_plain.specs.MarkViews.{marks_of}
use Rattle.dc_walk.proofs.Judging.{value-at, left-bad, left-good}
use Rattle.dc_walk.proofs.judge.mark_alone.Goals as goal

pub returns-in-Some : goal.returns-in-Some
returns-in-Some g c =
    let store = c.args.opening.now.store in
    let active = c.args.active.now in
    let i = c.loop-value.value-index in
    let n = c.loop-value.iteration in
    let z : ℤ = slice_index_or active i (pos 0) in
    let given : ℤ = to_z w64 (of_z w64 z) in
    let same : given ≡ z = search rules in
    let before = marks_of c.loop-value.rows.items in
    let after = marks_of c.mark_one.new.rows.items in
    let counted = c.loop-value.invariant.0 in
    let one : IsOne (alone g.parts store (combination given)) n before after (Some (c.in-Some.why, c.in-Some.line)) =
    subst (λ (m : Option (Why × ℕ)). IsOne (alone g.parts store (combination given)) n before after m) c.in-Some.is c.in_ok-why.ensures.one in (
      z,
      sym c.loop-value.invariant.2 ∙ left-bad g.parts store active i given n before after c.in-Some.why c.in-Some.line c.loop-value-test.true same one,
      i,
      value-at active i c.loop-value-test.true,
      omega (arith, counted),
    )

pub loop-value-preserved : goal.loop-value-preserved
loop-value-preserved g c =
    let store = c.args.opening.now.store in
    let active = c.args.active.now in
    let i = c.loop-value.value-index in
    let n = c.loop-value.iteration in
    let z : ℤ = slice_index_or active i (pos 0) in
    let given : ℤ = to_z w64 (of_z w64 z) in
    let same : given ≡ z = search rules in
    let before = marks_of c.loop-value.rows.items in
    let after = marks_of c.mark_one.new.rows.items in
    let none : c.in_ok-why.field-0 ≡ None = search rules in
    let one : IsOne (alone g.parts store (combination given)) n before after None =
    subst (λ (m : Option (Why × ℕ)). IsOne (alone g.parts store (combination given)) n before after m) none c.in_ok-why.ensures.one in
    let goes = left-good g.parts store active i given n before after c.loop-value-test.true same one in
    let counted = c.loop-value.invariant.0 in
    (omega (arith, counted), goes.marks ∙ c.loop-value.invariant.1, goes.bad ∙ c.loop-value.invariant.2, c.in_ok-why.ensures.back)
