-- What is added so far and the rest are all together.
use Rattle.std.proofs.Common.{◌≡◌, ◌∷◌, ◌++◌, drop}
use Rattle.dc_flows.proofs.looping.around_block.Given as goal

abbrev pub invariant-loop-one : goal.invariant-loop-one
invariant-loop-one l = l.all ++ drop l.one-index l.around ≡ l.first ∷ l.around
