use Rattle.dc_meaning.proofs.Walking.{seen-run}
use Rattle.dc_meaning.proofs.law.what_is_seen_is_a_run.Goals as goal

pub returns : goal.returns
returns g c = λ view computation. seen-run view computation
