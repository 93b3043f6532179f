use Rattle.dc_front.proofs.Accepting.{one-program}
use Rattle.dc_front.proofs.law.a_text_spells_one_program.Goals as goal

pub returns : goal.returns
returns c = one-program
