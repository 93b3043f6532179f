use Rattle.std.proofs.lemmas.List.{length-map}
use Rattle.dc_parts.proofs.Counts.{dimension-many}
use Rattle.dc_parts.proofs.bounds.more_pieces.Goals as goal

pub returns-in_default : goal.returns-in_default
returns-in_default c = dimension-many c.args.low.now c.args.high.now _ (simp length-map c.in_default.len_at_least)
