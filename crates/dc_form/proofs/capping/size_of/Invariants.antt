-- The dimensions that come multiply the size, which is capped.
use Rattle.std.proofs.Common.{◌≡◌, ◌*◌, ◌≤◌, drop}
use Rattle.dc_int.specs.Store.{elements_in}
use Rattle.dc_form.specs.Capped.{capped, size_of}
use Rattle.dc_form.proofs.capping.size_of.Given as goal

abbrev pub invariant-loop-dimension : goal.invariant-loop-dimension
invariant-loop-dimension l = (capped (l.size * elements_in (drop l.dimension-index l.bounds)) ≡ size_of l.bounds) × (l.size ≤ 9223372036854775808)
