use Rattle.dc_lower.proofs.TodaysCodes.{code-enters-its-loops}
use Rattle.dc_lower.proofs.law.a_code_of_today_enters_its_loops_alone.Goals as goal

pub returns : goal.returns
returns c = λ symbols source able. code-enters-its-loops symbols source able
