use Rattle.dc_walk.proofs.visits.visit_between.Given as goal

abbrev pub ghost-judge : goal.ghost-judge
ghost-judge g a = g.parts
