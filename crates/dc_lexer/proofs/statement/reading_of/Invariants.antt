use Rattle.std.proofs.Common.{length}
use Rattle.dc_lexer.specs.Progress.{Reached}
use Rattle.dc_lexer.proofs.statement.reading_of.Given as goal

abbrev pub invariant-loop-rest : goal.invariant-loop-rest
invariant-loop-rest l = Reached l.text l.reading l.rest

abbrev pub decreases-loop-rest : goal.decreases-loop-rest
decreases-loop-rest l = length l.rest
