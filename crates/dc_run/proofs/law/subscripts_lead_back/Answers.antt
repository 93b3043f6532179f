use Rattle.dc_run.proofs.Subscripts.{leads_back}
use Rattle.dc_run.proofs.law.subscripts_lead_back.Goals as goal

pub returns : goal.returns
returns c = λ bounds position exists. leads_back bounds position exists
