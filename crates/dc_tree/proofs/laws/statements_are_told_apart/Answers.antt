use Rattle.dc_tree.proofs.StatementsBack.{statement-told_apart}
use Rattle.dc_tree.proofs.laws.statements_are_told_apart.Goals as goal

pub returns : goal.returns
returns c = statement-told_apart c.args.a.now c.args.b.now
