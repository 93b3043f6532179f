use Rattle.dc_phases.proofs.Unique.{one-answer}
use Rattle.dc_phases.proofs.law.a_text_that_spells_is_not_refused.Goals as goal

pub returns : goal.returns
returns c = one-answer
