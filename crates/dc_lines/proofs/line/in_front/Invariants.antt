use Rattle.std.proofs.Common.{◌≡◌, length}
use Rattle.dc_lines.specs.Line.{in_front}
use Rattle.dc_lines.proofs.line.in_front.Given as goal

abbrev pub invariant-loop-rest : goal.invariant-loop-rest
invariant-loop-rest l = in_front l.rest ≡ in_front l.line

abbrev pub decreases-loop-rest : goal.decreases-loop-rest
decreases-loop-rest l = length l.rest
