use Rattle.std.proofs.Common.{List, map, ap, sym, ◌∙◌}
use Rattle.dc_tree.specs.declared.token.Token.{Token}
use Rattle.dc_slices.specs.Cutting.{cuts, past_first}
use Rattle.dc_slices.proofs.CutSteps.{begun-one, cuts-from}
use Rattle.dc_slices.proofs.slicing.pieces.Goals as goal

pub loop-slice-init : goal.loop-slice-init
loop-slice-init c = (
  c.split.ensures.stopped,
  begun-one _ c.push.new.self c.new-slices.result c.split.result.0 _ _ _ c.in_ok-push.ensures.ok c.new-slices.ensures c.split.ensures.front
      (ap (λ (tokens : List Token). map past_first (cuts c.args.stop 0 tokens)) c.split.ensures.back ∙ ap (map past_first) (sym (cuts-from c.args.stop 0 c.args.tokens.now))),
)
