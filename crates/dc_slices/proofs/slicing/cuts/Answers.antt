use Rattle.std.proofs.Common.{ap, sym, ◌∙◌}
use Rattle.dc_slices.specs.Cutting.{cuts}
use Rattle.dc_slices.proofs.CutSteps.{begun, cuts-from}
use Rattle.dc_slices.proofs.slicing.cuts.Goals as goal

pub loop-slice-init : goal.loop-slice-init
loop-slice-init c = (
  c.split.ensures.stopped,
  begun _ c.new-slices.result _ _ c.new-slices.ensures (ap (cuts c.args.stop 0) c.split.ensures.back ∙ sym (cuts-from c.args.stop 0 c.args.tokens.now)),
)
