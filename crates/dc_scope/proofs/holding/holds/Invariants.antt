use Rattle.std.proofs.Common.{◌≡◌, ◌*◌, drop}
use Rattle.std.specs.Prelude.{min}
use Rattle.dc_int.specs.Store.{elements_in}
use Rattle.dc_scope.proofs.holding.holds.Given as goal

abbrev pub invariant-loop-dimension : goal.invariant-loop-dimension
invariant-loop-dimension l =
    min (l.elements * elements_in (drop l.dimension-index l.bounds)) 18446744073709551616 ≡ min (elements_in l.bounds) 18446744073709551616
