use Rattle.std.proofs.Common.{◌≡◌, ◌*◌, ◌≤◌, drop}
use Rattle.dc_int.specs.Store.{elements_in}
use Rattle.dc_declare.specs.Totals.{capped, size_of}
use Rattle.dc_declare.proofs.totals.size_of.Given as goal

abbrev pub invariant-loop-dimension : goal.invariant-loop-dimension
invariant-loop-dimension l = (capped (l.size * elements_in (drop l.dimension-index l.bounds)) ≡ size_of l.bounds) × (l.size ≤ 4194305)
