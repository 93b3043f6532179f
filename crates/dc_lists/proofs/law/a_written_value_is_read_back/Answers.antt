use Rattle.dc_lists.proofs.Lines.{value_back}
use Rattle.dc_lists.proofs.law.a_written_value_is_read_back.Goals as goal

pub returns : goal.returns
returns c = λ sort z left fits. value_back sort z left fits
