use Rattle.dc_int.proofs.Stores.{cell-last_states}
use Rattle.dc_int.proofs.law.last_states_leave_the_same_cells.Goals as goal

pub returns : goal.returns
returns c = cell-last_states
