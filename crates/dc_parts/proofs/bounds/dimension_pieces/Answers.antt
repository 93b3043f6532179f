use Rattle.std.proofs.lemmas.List.{length-map}
use Rattle.dc_parts.proofs.Counts.{dimension-empty}
use Rattle.dc_parts.proofs.bounds.dimension_pieces.Goals as goal

pub returns-in_default : goal.returns-in_default
returns-in_default c = dimension-empty _ (simp length-map c.in_default.len_below)
