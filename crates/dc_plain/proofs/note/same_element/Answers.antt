use Rattle.dc_plain.proofs.Sames.{same-one, same-other}
use Rattle.dc_plain.proofs.note.same_element.Goals as goal

pub returns-then-first-second : goal.returns-then-first-second
returns-then-first-second c = same-one c.args.first c.args.second c.if-first-second.true

pub returns-else-first-second : goal.returns-else-first-second
returns-else-first-second c = same-other c.args.first c.args.second c.if-first-second.false
