use Rattle.std.proofs.Common.{◌≡◌, ◌++◌, map, length}
use Rattle.dc_slices.specs.Cutting.{cuts, Stopped}
use Rattle.dc_slices.proofs.slicing.cuts.Given as goal

abbrev pub invariant-loop-slice : goal.invariant-loop-slice
invariant-loop-slice l = Stopped l.stop l.rest × (map (λ slice. slice.now) l.slices ++ cuts l.stop 0 l.rest ≡ cuts l.stop 0 l.tokens)

abbrev pub decreases-loop-slice : goal.decreases-loop-slice
decreases-loop-slice l = length l.rest
