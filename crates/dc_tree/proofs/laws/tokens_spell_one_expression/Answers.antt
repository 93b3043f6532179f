use Rattle.dc_tree.proofs.ReadingComplete.{spelled-once}
use Rattle.dc_tree.proofs.laws.tokens_spell_one_expression.Goals as goal

pub returns : goal.returns
returns c = spelled-once
