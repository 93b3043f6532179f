-- What is kept so far and what is kept of the rest is all together.
use Rattle.std.proofs.Common.{◌≡◌, ◌++◌, drop}
use Rattle.dc_types.specs.Loops.{still_indexes}
use Rattle.dc_types.proofs.naming.still_indexes.Given as goal

abbrev pub invariant-loop-index : goal.invariant-loop-index
invariant-loop-index l = l.list ++ still_indexes l.locality (drop l.index-index l.indexes) ≡ still_indexes l.locality l.indexes
