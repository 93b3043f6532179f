use Rattle.dc_code.proofs.Runs.{replayed}
use Rattle.dc_code.proofs.law.a_run_is_its_entries.Goals as goal

pub returns : goal.returns
returns g c = λ store c. replayed store c
