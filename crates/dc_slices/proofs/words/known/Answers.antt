use Rattle.dc_slices.specs.Words.{keyword}
use Rattle.dc_slices.proofs.words.known.Goals as goal

pub returns : goal.returns
unfolding keyword
returns c = c.among.ensures
