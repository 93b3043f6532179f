use Rattle.dc_walk.proofs.judge.race_among.Given as goal

abbrev pub ghost-race_of_pair : goal.ghost-race_of_pair
ghost-race_of_pair g a = g.parts
