use Rattle.dc_lexer.specs.Answers.{broken_in}
use Rattle.dc_phases.specs.Phases.{HasTokens}
use Rattle.dc_phases.proofs.Gathered.{one-more}
use Rattle.dc_phases.proofs.tokened.all_tokens.Goals as goal

pub loop-statement-preserved : goal.loop-statement-preserved
loop-statement-preserved c =
    one-more broken_in HasTokens c.args.statements c.loop-statement.left c.pop.new.self c.loop-statement.gathered c.add.new.self c.in-Some.statement c.tokens_of.result c.loop-statement.invariant c.in-Some.ensures
    c.tokens_of.ensures c.in_ok-add.ensures
