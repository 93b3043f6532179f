use Rattle.dc_stmt.proofs.StatementsComplete.{spelled-once}
use Rattle.dc_stmt.proofs.laws.tokens_spell_one_statement.Goals as goal

pub returns : goal.returns
returns c = spelled-once
