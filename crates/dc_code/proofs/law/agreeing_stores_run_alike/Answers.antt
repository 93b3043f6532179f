use Rattle.dc_code.proofs.Runs.{framed}
use Rattle.dc_code.proofs.law.agreeing_stores_run_alike.Goals as goal

pub returns : goal.returns
returns g c = λ comp first second agree. framed comp first second agree
