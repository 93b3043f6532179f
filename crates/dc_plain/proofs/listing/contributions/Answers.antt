use Rattle.std.proofs.Common.{sym, ◌∙◌}
use Rattle.dc_plain.proofs.Touching.{no-contributions}
use Rattle.dc_plain.proofs.listing.contributions.Goals as goal

pub returns : goal.returns
returns c = c.new.ensures ∙ sym (no-contributions c.args._notes.now)
