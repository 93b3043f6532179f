use Rattle.std.proofs.Common.{◌≡◌, ◌++◌, map, length}
use Rattle.dc_slices.specs.Cutting.{cuts, past_first, Stopped, later}
use Rattle.dc_slices.proofs.slicing.later.Given as goal

abbrev pub invariant-loop-slice : goal.invariant-loop-slice
invariant-loop-slice l = Stopped l.stop l.rest × (map (λ slice. slice.now) l.slices ++ map past_first (cuts l.stop 0 l.rest) ≡ later l.stop l.tokens)

abbrev pub decreases-loop-slice : goal.decreases-loop-slice
decreases-loop-slice l = length l.rest
