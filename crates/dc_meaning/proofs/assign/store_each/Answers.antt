use Rattle.std.proofs.Common.{◌<◌, ◌-◌, ◌+◌, ◌≡◌, suc, get_or, drop-cons, ◌∷◌, ◌∙◌, arith, ap, drop, rules}
use Rattle.std.specs.Prelude.{pos}
use Rattle.std.specs.Int.{w64}
use Rattle.std.proofs.lemmas.Int.{to_z-of_z}
use Rattle.dc_int.specs.Entries.{Defines}
use Rattle.dc_int.specs.Sorts.{fitted}
use Rattle.dc_plain.specs.Views.{noted}
use Rattle.dc_sorts.specs.Forms.{sort_of_form}
use Rattle.dc_meaning.specs.Storing.{listed}
use Rattle.dc_meaning.proofs.Walking.{stays-as}
use Rattle.dc_meaning.proofs.Storing.{listed-on, listed-full, listed-past}
use Rattle.dc_meaning.proofs.assign.store_each.Goals as goal

pub loop-value-init : goal.loop-value-init
loop-value-init c =
    record {
      few = omega arith;
      stays = λ own after r walks. stays-as (λ call. ap (λ n. listed c.args.line c.args.variable (sort_of_form c.args.form) n 0 c.args.given.now) (omega arith)) walks;
    }

pub loop-value-preserved : goal.loop-value-preserved
loop-value-preserved c =
    let sort = sort_of_form c.args.form in
    let at = c.loop-value.position in
    let few = c.loop-value.invariant.few in
    let below : at < c.args.size = omega (arith, few, c.if-position-size.false) in
    let index = c.loop-value.value-index in
    let item = get_or c.args.given.now index (pos 0) in
    let after : suc index ≡ index + 1 = omega arith in
    let next = drop-cons c.args.given.now index (pos 0) c.loop-value-test.true ∙ ap (λ k. item ∷ drop k c.args.given.now) after in
    let value : _ ≡ fitted sort item = to_z-of_z w64 c.fitted.result (search rules) ∙ c.fitted.ensures ∙ ap (fitted sort) (to_z-of_z w64 item (search rules)) in
    record {
      few = omega (arith, below);
      stays = λ own after r walks.
          c.loop-value.invariant.stays own after r
          (stays-as (λ call. ap (listed c.args.line c.args.variable sort (c.args.size - at) at) next)
          (listed-on c.args.line c.args.variable sort c.args.size at item (drop (c.loop-value.value-index + 1) c.args.given.now) below
          (c.in_ok-set.ensures.ok ∙ ap (λ z. noted (Defines (record { variable = c.args.variable; position = at }) z c.args.line) c.loop-value.ledger) value) walks));
    }

pub returns-then-position-size : goal.returns-then-position-size
returns-then-position-size c = λ own.
    let same = c.if-position-size.true in
    c.loop-value.invariant.stays own _ _
    (listed-full c.args.line c.args.variable (sort_of_form c.args.form) (c.args.size - c.loop-value.position) c.loop-value.position (drop c.loop-value.value-index c.args.given.now) (omega (arith, same)))

pub returns : goal.returns
returns c = λ own.
    c.loop-value.invariant.stays own _ _
    (listed-past c.args.line c.args.variable (sort_of_form c.args.form) (c.args.size - c.loop-value.position) c.loop-value.position c.args.given.now c.loop-value.value-index (omega (arith, c.loop-value-test.false)))
