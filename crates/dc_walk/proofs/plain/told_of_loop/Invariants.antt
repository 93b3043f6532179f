use Rattle.dc_walk.proofs.plain.told_of_loop.Given as goal

abbrev pub ghost-mark_alone : goal.ghost-mark_alone
ghost-mark_alone g a = g.parts

abbrev pub ghost-told_by_marks : goal.ghost-told_by_marks
ghost-told_by_marks g a = g.parts
