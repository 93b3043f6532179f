use Rattle.dc_int.proofs.Reductions.{combined-comm, combined-assoc}
use Rattle.dc_int.proofs.law.reductions_combine_in_any_order.Goals as goal

pub returns-clause-commute : goal.returns-clause-commute
returns-clause-commute c = combined-comm

pub returns-clause-associate : goal.returns-clause-associate
returns-clause-associate c = combined-assoc
