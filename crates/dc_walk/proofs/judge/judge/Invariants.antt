use Rattle.dc_walk.proofs.judge.judge.Given as goal

abbrev pub ghost-mark_alone : goal.ghost-mark_alone
ghost-mark_alone g a = g.parts

abbrev pub ghost-judge_marked : goal.ghost-judge_marked
ghost-judge_marked g a = g.parts
