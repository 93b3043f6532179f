use Rattle.std.proofs.lemmas.List.{length-map}
use Rattle.dc_parts.proofs.Counts.{step-empty}
use Rattle.dc_parts.proofs.ranges.step_of.Goals as goal

pub returns-in-empty : goal.returns-in-empty
returns-in-empty c = step-empty _ (simp length-map c.in-empty.len_below)
