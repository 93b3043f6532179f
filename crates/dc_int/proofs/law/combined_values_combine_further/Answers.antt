use Rattle.dc_int.proofs.Reductions.{identity-inside, combined-inside}
use Rattle.dc_int.proofs.law.combined_values_combine_further.Goals as goal

pub returns-clause-identity : goal.returns-clause-identity
returns-clause-identity c = identity-inside

pub returns-clause-value : goal.returns-clause-value
returns-clause-value c = combined-inside
