use Rattle.dc_lower.proofs.Accepting.{program-passes}
use Rattle.dc_lower.proofs.law.a_program_that_breaks_no_rule_is_lowerable.Goals as goal

pub returns : goal.returns
returns c = λ source names sorts built sound. program-passes source names sorts built sound
