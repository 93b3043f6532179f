use Rattle.std.proofs.Common.{rules, arith}
use Rattle.std.specs.Prelude.{FitsSigned}
use Rattle.std.specs.Int.{w128}
use Rattle.std.proofs.lemmas.Int.{ints}
use Rattle.dc_int.proofs.Exact.{modulo-below}
use Rattle.dc_int.proofs.arithmetic.modulo.Goals as goal

pub returns-then-b-lt0 : goal.returns-then-b-lt0
returns-then-b-lt0 c =
    let fits : FitsSigned w128 c.rem_euclid.result = search rules in
    modulo-below c.args.a c.args.b _ _ c.rem_euclid.result _ (omega (arith, ints, c.if-b-lt0.true, c.from-b.ensures)) c.rem_euclid.ensures.value
    (omega (arith, ints, c.from-a.ensures)) (omega (arith, ints, c.from-b.ensures)) (omega (arith, ints, c.rem_euclid.ensures.lower_bound))
