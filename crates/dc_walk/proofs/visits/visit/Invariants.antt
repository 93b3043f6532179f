use Rattle.dc_walk.proofs.visits.visit.Given as goal

abbrev pub ghost-visit_between : goal.ghost-visit_between
ghost-visit_between g a = g.parts
