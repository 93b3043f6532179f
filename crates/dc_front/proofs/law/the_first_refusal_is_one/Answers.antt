use Rattle.dc_front.proofs.Accepting.{one-refusal}
use Rattle.dc_front.proofs.law.the_first_refusal_is_one.Goals as goal

pub returns : goal.returns
returns c = one-refusal
