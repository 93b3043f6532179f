use Rattle.dc_run.specs.Running.{loop_in}
use Rattle.dc_run.proofs.running.enter.Given as goal

abbrev pub ghost-judge_loop : goal.ghost-judge_loop
ghost-judge_loop g a = loop_in g.forms a.found.number
