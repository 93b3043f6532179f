use Rattle.std.proofs.Common.{ap, ◌∙◌}
use Rattle.dc_meaning.specs.WalkScope.{is_slots}
use Rattle.dc_meaning.proofs.Defining.{defines-outside}
use Rattle.dc_meaning.proofs.assign.defined.Goals as goal

pub returns-clause-outside : goal.returns-clause-outside
returns-clause-outside c =
    ap is_slots c.find.ensures.found ∙ defines-outside c.args.walk.now.standing c.args.name.now c.requires.spared c.requires.walk.named.unit
