use Rattle.std.proofs.Common.{◌≡◌, ◌≤◌, drop}
use Rattle.dc_int.specs.Store.{elements_in}
use Rattle.dc_frame.proofs.subscripts.has_elements.Given as goal

-- There are elements where there are some within the dimensions that are left.
abbrev pub invariant-loop-low : goal.invariant-loop-low
invariant-loop-low l =
    record {
      some : 1 ≤ elements_in (drop l.low-index l.bounds) → 1 ≤ elements_in l.bounds;
      none : elements_in (drop l.low-index l.bounds) ≡ 0 → elements_in l.bounds ≡ 0;
    }
