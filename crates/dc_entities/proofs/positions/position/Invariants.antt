use Rattle.std.proofs.Common.{◌≡◌, ◌≤◌, Some, drop, length}
use Rattle.dc_int.specs.Store.{position_in}
use Rattle.dc_entities.proofs.positions.position.Given as goal

-- The position by the later subscripts.
abbrev pub invariant-loop-rank : goal.invariant-loop-rank
invariant-loop-rank l =
    record {
      rank : l.rank ≤ length l.bounds;
      later : position_in (drop l.rank l.bounds) (drop l.rank l.subscripts) ≡ Some l.position;
    }

abbrev pub decreases-loop-rank : goal.decreases-loop-rank
decreases-loop-rank l = l.rank
