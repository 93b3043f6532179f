use Rattle.std.proofs.Common.{◌≡◌, ◌*◌, ◌-◌, ◌^◌, drop}
use Rattle.std.specs.Prelude.{min}
use Rattle.dc_int.specs.Store.{elements_in}
use Rattle.dc_plain.proofs.size.size_of.Given as goal

abbrev pub invariant-loop-dimension : goal.invariant-loop-dimension
invariant-loop-dimension l = min (l.size * elements_in (drop l.dimension-index l.bounds)) (2 ^ 64 - 1) ≡ elements_in l.bounds
