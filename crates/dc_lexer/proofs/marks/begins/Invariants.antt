use Rattle.std.proofs.Common.{◌≡◌, length}
use Rattle.dc_lexer.specs.Scan.{begins}
use Rattle.dc_lexer.proofs.marks.begins.Given as goal

abbrev pub invariant-loop-spelling : goal.invariant-loop-spelling
invariant-loop-spelling l = begins l.spelling l.bytes ≡ begins l.initial.spelling l.initial.bytes

abbrev pub decreases-loop-spelling : goal.decreases-loop-spelling
decreases-loop-spelling l = length l.spelling
