use Rattle.std.proofs.Common.{length, ap, ◌∙◌}
use Rattle.dc_code.specs.Frames.{Frame}
use Rattle.dc_steps.proofs.Placing.{length_changed}
use Rattle.dc_steps.proofs.places.place_forgotten.Goals as goal

pub returns-in-InFrame-clause-units : goal.returns-in-InFrame-clause-units
returns-in-InFrame-clause-units g c =
    ap (λ (frame : Frame). length frame.units) c.put_slot.ensures ∙ length_changed _ c.args.frame.now.units c.in-InFrame.level
