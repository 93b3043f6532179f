use Rattle.std.proofs.lemmas.List.{length-map}
use Rattle.dc_parts.proofs.Counts.{limits-one}
use Rattle.dc_parts.proofs.ranges.limits_from.Goals as goal

pub returns-in-empty : goal.returns-in-empty
returns-in-empty c = limits-one c.args.first.now _ (simp length-map c.in-empty.len_below)
