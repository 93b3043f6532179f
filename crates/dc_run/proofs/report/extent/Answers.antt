use Rattle.std.proofs.Common.{arith}
use Rattle.std.proofs.lemmas.Int.{ints}
use Rattle.dc_run.proofs.Extents.{extent-is}
use Rattle.dc_run.proofs.report.extent.Goals as goal

pub overflow_cast-result : goal.overflow_cast-result
overflow_cast-result c = let gap = extent-is c.args.low c.args.high c.requires.some in search (arith, ints)

pub returns : goal.returns
returns c = let gap = extent-is c.args.low c.args.high c.requires.some in search (arith, ints)
