use Rattle.std.proofs.lemmas.List.{length-map}
use Rattle.dc_stmt.proofs.Numbers.{result-many}
use Rattle.dc_stmt.proofs.procedures.result_alone.Goals as goal

pub returns-in_default : goal.returns-in_default
returns-in_default c = result-many c.args.slice.now _ (simp length-map c.in_default.len_at_least)
