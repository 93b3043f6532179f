-- What is added so far and what the rest adds is all together.
use Rattle.std.proofs.Common.{◌≡◌, ◌++◌, drop}
use Rattle.dc_actions.specs.Deeds.{lined}
use Rattle.dc_lower.proofs.blocks.add_lined.Given as goal

abbrev pub invariant-loop-what : goal.invariant-loop-what
invariant-loop-what l = l.instructions ++ lined l.line (drop l.what-index l.whats) ≡ l.fn.instructions ++ lined l.line l.whats
