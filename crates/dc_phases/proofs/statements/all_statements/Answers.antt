use Rattle.dc_phases.specs.Phases.{IsStatement, breaks_statement}
use Rattle.dc_phases.proofs.Gathered.{one-more}
use Rattle.dc_phases.proofs.statements.all_statements.Goals as goal

pub loop-from-preserved : goal.loop-from-preserved
loop-from-preserved c =
    one-more breaks_statement IsStatement c.args.tokens c.loop-from.left c.pop.new.self c.loop-from.gathered c.add.new.self c.in-Some.from c.statement.result c.loop-from.invariant c.in-Some.ensures c.statement.ensures
    c.in_ok-add.ensures
