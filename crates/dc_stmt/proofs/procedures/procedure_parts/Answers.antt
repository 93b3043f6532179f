use Rattle.std.proofs.lemmas.List.{length-map}
use Rattle.dc_stmt.proofs.Numbers.{procedure-empty}
use Rattle.dc_stmt.proofs.procedures.procedure_parts.Goals as goal

pub returns-in-empty : goal.returns-in-empty
returns-in-empty c = procedure-empty _ _ (simp length-map c.in-empty.len_below)
