use Rattle.std.proofs.Common.{◌≡◌, length}
use Rattle.dc_lines.specs.Line.{past_blanks}
use Rattle.dc_lines.proofs.line.past_blanks.Given as goal

abbrev pub invariant-loop-rest : goal.invariant-loop-rest
invariant-loop-rest l = past_blanks l.rest ≡ past_blanks l.line

abbrev pub decreases-loop-rest : goal.decreases-loop-rest
decreases-loop-rest l = length l.rest
