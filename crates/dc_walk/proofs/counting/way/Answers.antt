use Rattle.std.proofs.Common.{arith}
use Rattle.std.proofs.lemmas.Int.{ints, to_z-of_z}
use Rattle.dc_walk.proofs.counting.way.Goals as goal

pub returns-clause-is : goal.returns-clause-is
returns-clause-is c = grind (arith, ints, to_z-of_z)

pub returns-clause-short : goal.returns-clause-short
returns-clause-short c = grind (arith, ints, to_z-of_z)
