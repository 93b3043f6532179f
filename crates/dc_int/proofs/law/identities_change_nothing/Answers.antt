use Rattle.dc_int.proofs.Reductions.{combined-identity, combined-identity_right}
use Rattle.dc_int.proofs.law.identities_change_nothing.Goals as goal

pub returns-clause-left : goal.returns-clause-left
returns-clause-left c = combined-identity

pub returns-clause-right : goal.returns-clause-right
returns-clause-right c = combined-identity_right
