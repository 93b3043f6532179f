use Rattle.dc_run.proofs.Openings.{span-on}
use Rattle.dc_run.proofs.opening.open.Given as goal

abbrev pub ghost-limits_off : goal.ghost-limits_off
ghost-limits_off g a = span-on a.frame.now.stack
