-- What is added so far and the rest are all together.
use Rattle.std.proofs.Common.{◌≡◌, ◌++◌, drop}
use Rattle.dc_flows.proofs.looping.repeat.Given as goal

abbrev pub invariant-loop-what : goal.invariant-loop-what
invariant-loop-what l = l.whats ++ drop l.what-index l.more ≡ l.fn.whats ++ l.more
