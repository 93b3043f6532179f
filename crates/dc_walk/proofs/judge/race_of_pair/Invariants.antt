use Rattle.dc_walk.proofs.judge.race_of_pair.Given as goal

abbrev pub ghost-replay : goal.ghost-replay
ghost-replay g a = g.parts
