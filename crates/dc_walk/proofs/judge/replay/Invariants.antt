use Rattle.dc_walk.proofs.judge.replay.Given as goal

abbrev pub ghost-iterate : goal.ghost-iterate
ghost-iterate g a = g.parts
