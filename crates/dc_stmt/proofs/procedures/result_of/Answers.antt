use Rattle.dc_stmt.proofs.Numbers.{result-empty}
use Rattle.dc_stmt.proofs.procedures.result_of.Goals as goal

pub returns-in-empty : goal.returns-in-empty
returns-in-empty c = result-empty _ c.args.slices.now c.in-empty.len_below
