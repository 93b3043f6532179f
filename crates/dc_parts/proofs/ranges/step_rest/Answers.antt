use Rattle.std.proofs.lemmas.List.{length-map}
use Rattle.dc_parts.proofs.Counts.{step-many}
use Rattle.dc_parts.proofs.ranges.step_rest.Goals as goal

pub returns-in_default : goal.returns-in_default
returns-in_default c = step-many c.args.step.now _ (simp length-map c.in_default.len_at_least)
