use Rattle.dc_int.proofs.Powers.{one_over_power-is, modulo-by_positive, modulo-by_negative}
use Rattle.dc_int.proofs.law.powers_and_modulo_are_the_standards.Goals as goal

pub returns-clause-negative_power : goal.returns-clause-negative_power
returns-clause-negative_power c = one_over_power-is

pub returns-clause-positive_divisor : goal.returns-clause-positive_divisor
returns-clause-positive_divisor c = modulo-by_positive

pub returns-clause-negative_divisor : goal.returns-clause-negative_divisor
returns-clause-negative_divisor c = modulo-by_negative
