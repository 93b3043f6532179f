use Rattle.dc_declare.proofs.Apart.{symbols-good}
use Rattle.dc_declare.proofs.law.declared_names_are_sound_and_apart.Goals as goal

pub returns-clause-sound : goal.returns-clause-sound
returns-clause-sound c source = (symbols-good source).0

pub returns-clause-apart : goal.returns-clause-apart
returns-clause-apart c source = (symbols-good source).1
