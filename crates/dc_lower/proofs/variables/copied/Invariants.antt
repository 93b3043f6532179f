-- What is copied so far and the rest is all together.
use Rattle.std.proofs.Common.{◌≡◌, ◌++◌, drop, IsTrue}
use Rattle.dc_actions.specs.Typed.{are_held_bounds}
use Rattle.dc_lower.proofs.variables.copied.Given as goal

abbrev pub invariant-loop-dimension : goal.invariant-loop-dimension
invariant-loop-dimension l =
    record {
      copy : l.made ++ drop l.dimension-index l.bounds ≡ l.bounds;
      held : IsTrue (are_held_bounds (drop l.dimension-index l.bounds)) → IsTrue (are_held_bounds l.bounds);
    }
