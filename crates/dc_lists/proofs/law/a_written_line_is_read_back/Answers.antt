use Rattle.dc_lists.proofs.Lines.{line_back}
use Rattle.dc_lists.proofs.law.a_written_line_is_read_back.Goals as goal

pub returns : goal.returns
returns c = λ items left fit. line_back items left fit
