use Rattle.dc_phases.proofs.Unique.{one-refusal}
use Rattle.dc_phases.proofs.law.the_first_refusal_is_one.Goals as goal

pub returns : goal.returns
returns c = one-refusal
