use Rattle.std.proofs.Common.{◌≡◌, length, map}
use Rattle.dc_lexer.specs.Scan.{first_mark}
use Rattle.dc_lexer.proofs.marks.first_mark.Given as goal

abbrev pub invariant-loop-table : goal.invariant-loop-table
invariant-loop-table l =
    first_mark (map (λ entry. record { bytes = entry.0.now; mark = entry.1 }) l.table) l.bytes ≡ first_mark (map (λ entry. record { bytes = entry.0.now; mark = entry.1 }) l.initial.table) l.bytes

abbrev pub decreases-loop-table : goal.decreases-loop-table
decreases-loop-table l = length l.table
