use Rattle.std.proofs.Common.{◌≡◌, ◌≤◌, ◌+◌, drop, length}
use Rattle.std.specs.Prelude.{filter}
use Rattle.dc_int.specs.Reductions.{truth}
use Rattle.dc_meaning.proofs.arrays.count.Given as goal

abbrev pub invariant-loop-value : goal.invariant-loop-value
invariant-loop-value l =
    record {
      counted : l.count + length (filter truth (drop l.value-index l.values)) ≡ length (filter truth l.values);
      few : l.count ≤ l.value-index;
    }
