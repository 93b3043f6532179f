use Rattle.std.proofs.Common.{◌≡◌, sym, subst}
use Rattle.dc_code.specs.Codes.{CodeLists}
use Rattle.dc_code.specs.WellFormed.{IsWellFormed}
use Rattle.listing_rows.specs.Small.{small}
use Rattle.listing_rows.proofs.Fitting.{small-well_formed}
use Rattle.listing_rows.proofs.looping.small.Goals as goal

pub new-requires : goal.new-requires
new-requires c =
    let made : CodeLists =
    record {
      instructions = c.in_ok-instructions.instructions;
      texts = c.new-texts.result;
      shapes = c.in_ok-shapes.shapes;
      bounds = c.in_ok-bounds.bounds;
      plans = c.in_ok-plans.plans;
      entries = c.new-entries.result;
      constructs = c.in_ok-constructs.constructs;
    } in
    let same : made ≡ small =
    λ i. record {
      instructions = c.in_ok-instructions.ensures i;
      texts = c.new-texts.ensures i;
      shapes = c.in_ok-shapes.ensures i;
      bounds = c.in_ok-bounds.ensures i;
      plans = c.in_ok-plans.ensures i;
      entries = c.new-entries.ensures i;
      constructs = c.in_ok-constructs.ensures i;
    } in
    subst IsWellFormed (sym same) small-well_formed
