use Rattle.dc_run.proofs.running.judge_loop.Given as goal

abbrev pub ghost-open : goal.ghost-open
ghost-open g a = g.parts

abbrev pub ghost-visit : goal.ghost-visit
ghost-visit g a = g.parts
