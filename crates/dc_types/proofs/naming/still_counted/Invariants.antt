-- What is kept so far and what is kept of the rest is all together.
use Rattle.std.proofs.Common.{◌≡◌, ◌++◌, drop}
use Rattle.dc_types.specs.Loops.{still_counted}
use Rattle.dc_types.proofs.naming.still_counted.Given as goal

abbrev pub invariant-loop-name : goal.invariant-loop-name
invariant-loop-name l = l.list ++ still_counted l.locality (drop l.name-index l.counted) ≡ still_counted l.locality l.counted
