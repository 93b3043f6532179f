use Rattle.std.proofs.Common.{◌≡◌, ◌-◌, ◌++◌, length}
use Rattle.std.specs.Prelude.{pos, ◌+ℤ◌}
use Rattle.dc_code.specs.Combinations.{values_from, values_of, value_count}
use Rattle.dc_entities.proofs.indexes.values.Given as goal

abbrev pub invariant-loop-offset : goal.invariant-loop-offset
invariant-loop-offset l =
    record {
      made : l.made ++ values_from (l.first +ℤ pos l.offset) (pos 1) (l.offset-end - l.offset) ≡ values_of (record { first = l.first; last = l.last; step = pos 1 });
      count : length l.made ≡ l.offset;
      end : l.offset-end ≡ value_count (record { first = l.first; last = l.last; step = pos 1 });
    }
