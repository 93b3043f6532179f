-- A step of the choice.
use Rattle.std.proofs.Common.{◌≡◌, sym, ◌∙◌, to_z, of_z, w64, arith, rules}
use Rattle.std.proofs.lemmas.Int.{ints}
use Rattle.dc_sorts.specs.Forms.{sort_of_form}
use Rattle.dc_sorts.proofs.References.{chosen_from-next}
use Rattle.dc_sorts.proofs.called.chosen_from.Goals as goal

pub loop-arg-preserved : goal.loop-arg-preserved
loop-arg-preserved c =
    let number : to_z w64 (of_z w64 c.number_given.result) ≡ c.number_given.result = search (rules, ints) in
    let value : to_z w64 (of_z w64 c.in-Some.value) ≡ c.in-Some.value = omega (arith, ints) in
    rw value (sym (chosen_from-next c.args.op (sort_of_form c.args.form) _ _ c.in-Some.value c.args.rest.now c.loop-arg.arg-index _ c.loop-arg-test.true (number ∙ c.number_given.ensures) c.in-Some.ensures) ∙ c.loop-arg.invariant)
