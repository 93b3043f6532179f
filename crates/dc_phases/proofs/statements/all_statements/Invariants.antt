use Rattle.std.proofs.Common.{length}
use Rattle.dc_phases.specs.Phases.{IsStatement, breaks_statement}
use Rattle.dc_phases.proofs.Gathered.{Progress}
use Rattle.dc_phases.proofs.statements.all_statements.Given as goal

abbrev pub invariant-loop-from : goal.invariant-loop-from
invariant-loop-from l = Progress breaks_statement IsStatement l.fn.tokens l.left l.gathered

abbrev pub decreases-loop-from : goal.decreases-loop-from
decreases-loop-from l = length l.left
