use Rattle.std.proofs.Common.{◌≡◌, ◌++◌, length}
use Rattle.dc_lexer.specs.Scan.{undoubled}
use Rattle.dc_lexer.proofs.literals.undoubled.Given as goal

abbrev pub invariant-loop-rest : goal.invariant-loop-rest
invariant-loop-rest l = l.text ++ undoubled l.quote l.rest ≡ undoubled l.quote l.bytes

abbrev pub decreases-loop-rest : goal.decreases-loop-rest
decreases-loop-rest l = length l.rest
