use Rattle.std.proofs.Common.{◌-◌, ◌+◌, [], ◌∷◌, ◌++◌, ◌≡◌, ◌∙◌, arith, rules, ap, ap₂, sym}
use Rattle.std.specs.Prelude.{ℤ}
use Rattle.std.specs.Int.{w64}
use Rattle.std.proofs.lemmas.Int.{to_z-of_z}
use Rattle.dc_code.specs.declared.frame.Place.{Place}
use Rattle.dc_meaning.specs.Acts.{refer_to}
use Rattle.dc_meaning.specs.Gathering.{gathered, places_from}
use Rattle.dc_meaning.proofs.Walking.{handed, stays-as}
use Rattle.dc_meaning.proofs.Gathering.{gathered-on, gathered-bad, gathered-none, count-step}
use Rattle.dc_meaning.proofs.wholes.read_elements.Goals as goal

pub loop-position-init : goal.loop-position-init
loop-position-init c = λ own after r walks.
    let all : c.args.count ≡ c.args.count - 0 = omega arith in
    stays-as (λ call. ap₂ (λ zs n. gathered (refer_to c.args.line) zs (places_from c.args.variable n 0)) (sym c.new-values.ensures) all) walks

pub returns-in_err-read : goal.returns-in_err-read
returns-in_err-read c = λ own.
    let at = c.loop-position.position in
    handed c.from_residual.result _ c.from_residual.ensures.1
    (c.loop-position.invariant own _ _
    (stays-as (λ call. ap (λ n. gathered (refer_to c.args.line) c.loop-position.values (places_from c.args.variable n at)) (count-step c.args.count at c.loop-position-test.true))
    (gathered-bad (λ call. refer_to c.args.line) c.loop-position.values (Place.Outer (record { variable = c.args.variable; position = at })) (places_from c.args.variable (c.args.count - (at + 1)) (at + 1))
    (c.in_err-read.ensures own))))

pub loop-position-preserved : goal.loop-position-preserved
loop-position-preserved c = λ own after r walks.
    let at = c.loop-position.position in
    let told = to_z-of_z w64 c.in_ok-read.field-0 (search rules) in
    c.loop-position.invariant own after r
    (stays-as (λ call. ap (λ n. gathered (refer_to c.args.line) c.loop-position.values (places_from c.args.variable n at)) (count-step c.args.count at c.loop-position-test.true))
    (gathered-on (λ call. refer_to c.args.line) c.loop-position.values _ (Place.Outer (record { variable = c.args.variable; position = at })) (places_from c.args.variable (c.args.count - (at + 1)) (at + 1)) c.in_ok-read.field-0
    (c.in_ok-push.ensures.ok ∙ ap (λ (z : ℤ). c.loop-position.values ++ z ∷ []) told) (c.in_ok-read.ensures own) walks))

pub returns : goal.returns
returns c = λ own.
    let none : c.args.count - c.loop-position.position ≡ 0 = omega (arith, c.loop-position-test.false) in
    c.loop-position.invariant own _ _
    (stays-as (λ call. ap (λ n. gathered (refer_to c.args.line) c.loop-position.values (places_from c.args.variable n c.loop-position.position)) none)
    (gathered-none (λ call. refer_to c.args.line) c.loop-position.values))
