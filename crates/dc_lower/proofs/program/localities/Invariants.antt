-- What is made so far and what comes of the rest is all together.
use Rattle.std.proofs.Common.{◌≡◌, ◌++◌, drop}
use Rattle.dc_lower.specs.Wholes.{plain_localities}
use Rattle.dc_lower.proofs.program.localities.Given as goal

abbrev pub invariant-loop-shape : goal.invariant-loop-shape
invariant-loop-shape l = l.made ++ plain_localities (drop l._shape-index l.shapes) ≡ plain_localities l.shapes
