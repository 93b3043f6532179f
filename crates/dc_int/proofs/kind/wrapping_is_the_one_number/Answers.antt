use Rattle.dc_int.proofs.Wraps.{wrapped_in_range, wrapped_congruent, wrapped_only}
use Rattle.dc_int.proofs.kind.wrapping_is_the_one_number.Goals as goal

pub returns-clause-in_range : goal.returns-clause-in_range
returns-clause-in_range c = wrapped_in_range

pub returns-clause-congruent : goal.returns-clause-congruent
returns-clause-congruent c = wrapped_congruent

pub returns-clause-only : goal.returns-clause-only
returns-clause-only c = wrapped_only
