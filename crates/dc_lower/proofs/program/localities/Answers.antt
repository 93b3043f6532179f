use Rattle.std.proofs.Common.{◌+◌, [], ◌∷◌, drop}
use Rattle.dc_int.specs.declared.variable.Locality.{Locality}
use Rattle.dc_lower.specs.Wholes.{plain_localities}
use Rattle.dc_lower.proofs.LoweredLoops.{plain-next}
use Rattle.dc_actions.proofs.Making.{grown}
use Rattle.dc_lower.proofs.program.localities.Goals as goal

pub loop-shape-preserved : goal.loop-shape-preserved
loop-shape-preserved c =
    let shapes = c.args.shapes.now in
    let at = c.loop-shape._shape-index in
    grown c.loop-shape.made (Locality.Plain ∷ []) _ (plain_localities (drop at shapes)) (plain_localities (drop (at + 1) shapes)) _ (plain-next shapes at c.loop-shape-test.true) c.in_ok-push.ensures.ok
    c.loop-shape.invariant
