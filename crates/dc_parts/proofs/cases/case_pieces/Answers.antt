use Rattle.dc_parts.proofs.Counts.{case-none}
use Rattle.dc_parts.proofs.cases.case_pieces.Goals as goal

pub returns-in-empty : goal.returns-in-empty
returns-in-empty c = case-none _ c.args.slices.now c.in-empty.len_below
