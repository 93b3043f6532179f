-- A step of the choice, and a fault.
use Rattle.std.proofs.Common.{◌≡◌, ℤ, pos, get_or, ap, sym, ◌∙◌, to_z, of_z, w64, arith, rules}
use Rattle.std.proofs.lemmas.Int.{ints}
use Rattle.dc_tree.specs.Operating.{chosen_from}
use Rattle.dc_sorts.specs.Forms.{sort_of_form}
use Rattle.dc_sorts.proofs.References.{chosen_from-on, chosen_from-stop}
use Rattle.dc_sorts.proofs.operating.chosen_from.Goals as goal

pub returns-in-Err : goal.returns-in-Err
returns-in-Err c =
    let place = c.loop-value.value-index in
    let number : to_z w64 (of_z w64 (get_or c.args.rest.now place (pos 0))) ≡ get_or c.args.rest.now place (pos 0) = search (rules, ints) in
    let first : to_z w64 (of_z w64 c.args.first) ≡ c.args.first = omega (arith, ints) in
    chosen_from-stop c.args.op (sort_of_form c.args.form) _ _ c.in-Err.fault c.args.rest.now place (pos 0) c.loop-value-test.true number c.in-Err.ensures
    ∙ c.loop-value.invariant ∙ ap (λ (z : ℤ). chosen_from c.args.op (sort_of_form c.args.form) z c.args.rest.now) first

pub loop-value-preserved : goal.loop-value-preserved
loop-value-preserved c =
    let place = c.loop-value.value-index in
    let number : to_z w64 (of_z w64 (get_or c.args.rest.now place (pos 0))) ≡ get_or c.args.rest.now place (pos 0) = search (rules, ints) in
    let value : to_z w64 (of_z w64 c.in-Ok.next) ≡ c.in-Ok.next = omega (arith, ints) in
    rw value
    (sym (chosen_from-on c.args.op (sort_of_form c.args.form) _ _ c.in-Ok.next c.args.rest.now place (pos 0) c.loop-value-test.true number c.in-Ok.ensures)
    ∙ c.loop-value.invariant)
