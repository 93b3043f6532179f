use Rattle.dc_tree.proofs.words.is_inner.Goals as goal

pub returns : goal.returns
returns c = c.is_among.ensures
