use Rattle.dc_walk.proofs.judge.go_on.Given as goal

abbrev pub ghost-run_in_order : goal.ghost-run_in_order
ghost-run_in_order g a = g.parts
