use Rattle.dc_tree.proofs.Back.{told_apart}
use Rattle.dc_tree.proofs.laws.trees_are_told_apart.Goals as goal

pub returns : goal.returns
returns c = told_apart c.args.a.now c.args.b.now
