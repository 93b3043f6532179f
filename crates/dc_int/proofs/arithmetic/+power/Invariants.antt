use Rattle.dc_int.proofs.arithmetic.+power.Given as goal

abbrev pub decreases-power : goal.decreases-power
decreases-power l = l.exponent
