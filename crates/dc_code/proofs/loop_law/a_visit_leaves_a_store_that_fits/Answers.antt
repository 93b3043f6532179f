use Rattle.dc_code.proofs.Fitting.{visited-fits, plain-fits}
use Rattle.dc_code.proofs.loop_law.a_visit_leaves_a_store_that_fits.Goals as goal

pub returns-clause-visit : goal.returns-clause-visit
returns-clause-visit c = λ shapes rule loop turns store matches keeps fits. visited-fits shapes loop matches keeps rule turns store fits

pub returns-clause-blocks : goal.returns-clause-blocks
returns-clause-blocks c = λ shapes enter form plain defines. plain-fits shapes enter form plain defines
