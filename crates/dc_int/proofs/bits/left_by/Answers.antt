use Rattle.std.proofs.Common.{arith}
use Rattle.std.proofs.lemmas.Int.{ints}
use Rattle.dc_int.proofs.Exact.{product-fits, product-exit, factor-is}
use Rattle.dc_int.proofs.bits.left_by.Goals as goal

pub overflow_mul-result : goal.overflow_mul-result
overflow_mul-result c =
    product-fits c.args.a _ _ c.args.places c.ranges.a c.requires (omega (arith, ints, c.from.ensures)) (factor-is c.args.places c.requires)

pub returns : goal.returns
returns c =
    product-exit c.args.a _ _ c.args.places c.ranges.a c.requires (omega (arith, ints, c.from.ensures)) (factor-is c.args.places c.requires)
