use Rattle.dc_tree.proofs.BlocksBack.{program-told_apart}
use Rattle.dc_tree.proofs.laws.programs_are_told_apart.Goals as goal

pub returns : goal.returns
returns c = program-told_apart c.args.a.now c.args.b.now
