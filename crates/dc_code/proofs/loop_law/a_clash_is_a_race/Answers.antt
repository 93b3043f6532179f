use Rattle.dc_code.proofs.Judged.{clash-is_race, nothing-wrong, nothing-goes_on}
use Rattle.dc_code.proofs.loop_law.a_clash_is_a_race.Goals as goal

pub returns-clause-race : goal.returns-clause-race
returns-clause-race c = λ loop store framed differs iterations keep well x clash. clash-is_race loop store framed differs iterations keep well x clash

pub returns-clause-only : goal.returns-clause-only
returns-clause-only c = λ loop store framed differs iterations keep told. nothing-wrong loop store framed differs iterations keep told

pub returns-clause-goes_on : goal.returns-clause-goes_on
returns-clause-goes_on c = λ loop store iterations nothing. nothing-goes_on loop store iterations nothing
