use Rattle.std.proofs.Common.{List, map, ap, sym, ◌∙◌}
use Rattle.dc_tree.specs.declared.token.Token.{Token}
use Rattle.dc_slices.specs.Cutting.{cuts, past_first}
use Rattle.dc_slices.proofs.CutSteps.{begun, cuts-from}
use Rattle.dc_slices.proofs.slicing.later.Goals as goal

pub loop-slice-init : goal.loop-slice-init
loop-slice-init c = (
  c.split.ensures.stopped,
  begun _ c.new-slices.result _ _ c.new-slices.ensures
      (ap (λ (tokens : List Token). map past_first (cuts c.args.stop 0 tokens)) c.split.ensures.back ∙ ap (map past_first) (sym (cuts-from c.args.stop 0 c.args.tokens.now))),
)
