use Rattle.std.proofs.Common.{◌∙◌}
use Rattle.dc_slices.proofs.CutSteps.{stopped-from}
use Rattle.dc_slices.proofs.slicing.split.Goals as goal

pub returns-clause-stopped : goal.returns-clause-stopped
returns-clause-stopped c = stopped-from c.args.stop c.args.tokens.now c.after.result.now (c.after.ensures ∙ c.width-at.ensures.back)
