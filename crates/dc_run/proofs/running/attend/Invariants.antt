use Rattle.dc_run.proofs.running.attend.Given as goal

abbrev pub ghost-enter : goal.ghost-enter
ghost-enter g a = g.forms
