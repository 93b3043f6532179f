use Rattle.dc_tree.proofs.words.is_outer.Goals as goal

pub returns : goal.returns
returns c = c.is_among.ensures
