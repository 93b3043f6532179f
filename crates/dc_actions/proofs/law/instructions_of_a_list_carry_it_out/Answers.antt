use Rattle.dc_actions.proofs.FillingLaws.{list-law}
use Rattle.dc_actions.proofs.Facts.{both-hold}
use Rattle.dc_actions.proofs.law.instructions_of_a_list_carry_it_out.Goals as goal

pub returns : goal.returns
returns c = λ code scope call line free text trees so takes at frame state names kept stand rest later.
    list-law code scope call line at free frame state text trees names kept stand (both-hold so takes) rest later
