use Rattle.std.proofs.Common.{◌≡◌, ◌≤◌, ◌+◌, length}
use Rattle.std.specs.Prelude.{IfSome}
use Rattle.dc_lexer.specs.Scan.{closes, closed_later}
use Rattle.dc_lexer.proofs.literals.closes.Given as goal

abbrev pub invariant-loop-rest : goal.invariant-loop-rest
invariant-loop-rest l = (closed_later l.closed l.passed (closes l.quote l.rest) ≡ closes l.quote l.bytes) × (l.passed + length l.rest ≡ length l.bytes) × IfSome l.closed (λ n. (1 ≤ n) × (n ≤ l.passed))

abbrev pub decreases-loop-rest : goal.decreases-loop-rest
decreases-loop-rest l = length l.rest
