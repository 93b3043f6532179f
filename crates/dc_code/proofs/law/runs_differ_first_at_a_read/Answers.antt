use Rattle.dc_code.proofs.Runs.{first-difference}
use Rattle.dc_code.proofs.law.runs_differ_first_at_a_read.Goals as goal

pub returns : goal.returns
returns g c = λ comp first second shape. first-difference comp first second shape
