use Rattle.dc_front.proofs.Accepting.{one-answer}
use Rattle.dc_front.proofs.law.a_refused_text_spells_no_program.Goals as goal

pub returns : goal.returns
returns c = one-answer
