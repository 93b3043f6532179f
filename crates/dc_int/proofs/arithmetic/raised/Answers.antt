use Rattle.std.proofs.Common.{◌∙◌, ap, ap₂, rules, arith}
use Rattle.std.specs.Prelude.{FitsSigned, unsigned_abs}
use Rattle.std.specs.Int.{w64}
use Rattle.std.proofs.lemmas.Int.{ints, to_z-of_z}
use Rattle.dc_int.specs.declared.kind.Kind.{Kind}
use Rattle.dc_int.specs.Kinds.{wrapped}
use Rattle.dc_int.specs.Operations.{power}
use Rattle.dc_int.proofs.Exact.{raised-exit}
use Rattle.dc_int.proofs.arithmetic.raised.Goals as goal

pub returns-then-b-ge0 : goal.returns-then-b-ge0
returns-then-b-ge0 c =
    let fits : FitsSigned w64 c.power.result = search rules in
    let exponent = c.unsigned_abs.ensures.value ∙ ap unsigned_abs (to_z-of_z w64 c.args.b c.ranges.b) in
    let value = c.power.ensures ∙ ap₂ (λ z n. wrapped Kind.K8 (power z n)) (to_z-of_z w64 c.args.a c.ranges.a) exponent in
    raised-exit c.args.a c.args.b _ (omega (arith, ints, c.if-b-ge0.true)) (omega (arith, ints, c.from.ensures) ∙ value)
