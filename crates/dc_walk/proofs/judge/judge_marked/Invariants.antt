use Rattle.dc_walk.proofs.judge.judge_marked.Given as goal

abbrev pub ghost-race_among : goal.ghost-race_among
ghost-race_among g a = g.parts

abbrev pub ghost-go_on : goal.ghost-go_on
ghost-go_on g a = g.parts
