use Rattle.std.proofs.Common.{◌≡◌, ◌++◌, drop}
use Rattle.dc_plain.proofs.listing.add_states.Given as goal

abbrev pub invariant-loop-state : goal.invariant-loop-state
invariant-loop-state l = l.made ++ drop l.state-index l.states ≡ l.fn.made ++ l.states
