use Rattle.dc_phases.proofs.Unique.{one-program}
use Rattle.dc_phases.proofs.law.a_text_spells_one_program.Goals as goal

pub returns : goal.returns
returns c = one-program
