use Rattle.dc_walk.proofs.judge.mark_one.Given as goal

abbrev pub ghost-iterate : goal.ghost-iterate
ghost-iterate g a = g.parts
