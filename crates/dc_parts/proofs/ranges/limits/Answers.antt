use Rattle.std.proofs.lemmas.List.{length-map}
use Rattle.dc_parts.proofs.Counts.{limits-empty}
use Rattle.dc_parts.proofs.ranges.limits.Goals as goal

pub returns-in-empty : goal.returns-in-empty
returns-in-empty c = limits-empty _ (simp length-map c.in-empty.len_below)
