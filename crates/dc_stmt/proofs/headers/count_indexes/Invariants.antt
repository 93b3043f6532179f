use Rattle.std.proofs.Common.{◌≡◌, ◌+◌, map, drop}
use Rattle.dc_stmt.specs.Reading.{count_indexes}
use Rattle.dc_stmt.proofs.headers.count_indexes.Given as goal

abbrev pub invariant-loop-i : goal.invariant-loop-i
invariant-loop-i l = l.i + count_indexes (map (λ slice. slice.now) (drop l.i l.slices)) ≡ count_indexes (map (λ slice. slice.now) l.slices)
