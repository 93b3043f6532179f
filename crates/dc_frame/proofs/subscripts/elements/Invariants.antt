use Rattle.std.proofs.Common.{◌≡◌, ◌*◌, drop}
use Rattle.dc_int.specs.Store.{elements_in}
use Rattle.dc_frame.proofs.subscripts.elements.Given as goal

abbrev pub invariant-loop-dimension : goal.invariant-loop-dimension
invariant-loop-dimension l = l.size * elements_in (drop l.dimension-index l.bounds) ≡ elements_in l.bounds
