use Rattle.std.proofs.Common.{◌∙◌, ◌/◌, ◌%◌, ◌≡◌, ap, rules, arith}
use Rattle.std.specs.Prelude.{FitsSigned, ◌*ℤ◌}
use Rattle.std.specs.Int.{w64, int_wrap}
use Rattle.std.proofs.lemmas.Int.{to_z-of_z, wrapping_mul_is}
use Rattle.dc_int.specs.Operations.{power}
use Rattle.dc_int.proofs.Exact.{halves-even, halves-odd}
use Rattle.dc_int.proofs.arithmetic.+power.Goals as goal

pub returns-then-exponent-eq1 : goal.returns-then-exponent-eq1
returns-then-exponent-eq1 t c =
    let base = c.args.base in
    let fits : FitsSigned w64 c.power-rest.result = search rules in
    wrapping_mul_is w64 c.power-rest.result base fits c.ranges.base
    ∙ ap (λ z. int_wrap w64 (z *ℤ base)) (c.power-rest.ensures ∙ ap (λ z. int_wrap w64 (power z (c.args.exponent / 2))) (wrapping_mul_is w64 base base c.ranges.base c.ranges.base))
    ∙ halves-odd base c.args.exponent c.if-exponent-eq1.true

pub returns-else-exponent-eq1 : goal.returns-else-exponent-eq1
returns-else-exponent-eq1 t c =
    let base = c.args.base in
    let fits : FitsSigned w64 c.power-rest.result = search rules in
    let even : c.args.exponent % 2 ≡ 0 = omega (arith, c.if-exponent-eq1.false) in
    to_z-of_z w64 c.power-rest.result fits ∙ c.power-rest.ensures
    ∙ ap (λ z. int_wrap w64 (power z (c.args.exponent / 2))) (wrapping_mul_is w64 base base c.ranges.base c.ranges.base)
    ∙ halves-even base c.args.exponent even
