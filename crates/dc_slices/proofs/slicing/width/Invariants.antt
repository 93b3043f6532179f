use Rattle.std.proofs.Common.{◌≡◌, ◌≤◌, ◌++◌, take, drop}
use Rattle.dc_slices.specs.Cutting.{before, from}
use Rattle.dc_slices.proofs.slicing.width.Given as goal

abbrev pub invariant-loop-i : goal.invariant-loop-i
invariant-loop-i l =
    (l.depth ≤ l.i) × (take l.i l.tokens ++ before l.stop l.depth (drop l.i l.tokens) ≡ before l.stop 0 l.tokens)
    × (from l.stop l.depth (drop l.i l.tokens) ≡ from l.stop 0 l.tokens)
