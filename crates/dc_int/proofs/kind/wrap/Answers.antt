use Rattle.std.proofs.Common.{rules, arith}
use Rattle.std.proofs.lemmas.Int.{ints}
use Rattle.dc_int.proofs.Wraps.{low_exit, high_exit}
use Rattle.dc_int.proofs.kind.wrap.Goals as goal

pub returns-then-rest-half : goal.returns-then-rest-half
returns-then-rest-half g c =
    low_exit g.row.BITS c.requires c.args.z c.rem_euclid-rest.result c.ranges.z (search rules) c.rem_euclid-rest.ensures.value (omega (arith, ints, c.rem_euclid-rest.ensures.lower_bound)) c.if-rest-half.true

pub returns-else-rest-half : goal.returns-else-rest-half
returns-else-rest-half g c =
    high_exit g.row.BITS c.requires c.args.z c.rem_euclid-rest.result c.ranges.z (search rules) c.rem_euclid-rest.ensures.value c.rem_euclid-rest.ensures.upper_bound c.if-rest-half.false
