use Rattle.std.proofs.Common.{◌≡◌, length, map}
use Rattle.dc_lexer.specs.Scan.{split_in}
use Rattle.dc_lexer.proofs.words.split_in.Given as goal

abbrev pub invariant-loop-table : goal.invariant-loop-table
invariant-loop-table l =
    split_in (map (λ entry. record { whole = entry.0.now; first = entry.1.now; second = entry.2.now }) l.table) l.word
    ≡ split_in (map (λ entry. record { whole = entry.0.now; first = entry.1.now; second = entry.2.now }) l.initial.table) l.word

abbrev pub decreases-loop-table : goal.decreases-loop-table
decreases-loop-table l = length l.table
