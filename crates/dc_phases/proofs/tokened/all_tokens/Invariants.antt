use Rattle.std.proofs.Common.{length}
use Rattle.dc_lexer.specs.Answers.{broken_in}
use Rattle.dc_phases.specs.Phases.{HasTokens}
use Rattle.dc_phases.proofs.Gathered.{Progress}
use Rattle.dc_phases.proofs.tokened.all_tokens.Given as goal

abbrev pub invariant-loop-statement : goal.invariant-loop-statement
invariant-loop-statement l = Progress broken_in HasTokens l.fn.statements l.left l.gathered

abbrev pub decreases-loop-statement : goal.decreases-loop-statement
decreases-loop-statement l = length l.left
