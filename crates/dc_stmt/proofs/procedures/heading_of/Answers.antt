use Rattle.std.proofs.lemmas.List.{length-map}
use Rattle.dc_stmt.proofs.Numbers.{heading-empty}
use Rattle.dc_stmt.proofs.procedures.heading_of.Goals as goal

pub returns-in-empty : goal.returns-in-empty
returns-in-empty c = heading-empty c.args.function _ (simp length-map c.in-empty.len_below)
