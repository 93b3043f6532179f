use Rattle.std.proofs.Common.{◌≡◌, ◌≤◌, drop}
use Rattle.dc_int.specs.Store.{elements_in}
use Rattle.dc_entities.proofs.positions.has_elements.Given as goal

-- There are elements where there are some within the dimensions that are left.
abbrev pub invariant-loop-dimension : goal.invariant-loop-dimension
invariant-loop-dimension l =
    record {
      some : 1 ≤ elements_in (drop l.dimension-index l.bounds) → 1 ≤ elements_in l.bounds;
      none : elements_in (drop l.dimension-index l.bounds) ≡ 0 → elements_in l.bounds ≡ 0;
    }
