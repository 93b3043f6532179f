use Rattle.std.proofs.Common.{◌≡◌, ◌+◌, map, drop}
use Rattle.dc_stmt.specs.Headings.{count_in_front}
use Rattle.dc_stmt.proofs.headings.count_in_front.Given as goal

abbrev pub invariant-loop-i : goal.invariant-loop-i
invariant-loop-i l = l.i + count_in_front (map (λ slice. slice.now) (drop l.i l.slices)) ≡ count_in_front (map (λ slice. slice.now) l.slices)
