use Rattle.dc_run.proofs.running.advance.Given as goal

abbrev pub ghost-attend : goal.ghost-attend
ghost-attend g a = g.forms
