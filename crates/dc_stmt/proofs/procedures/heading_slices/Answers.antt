use Rattle.std.proofs.Common.{◌≡◌, subst}
use Rattle.std.specs.Prelude.{IfOk}
use Rattle.dc_tree.specs.Statements.{Statement, statement}
use Rattle.dc_slices.specs.Finding.{Found}
use Rattle.dc_slices.specs.Judging.{judged, seen}
use Rattle.dc_stmt.proofs.Counted.{heading-split}
use Rattle.dc_stmt.proofs.procedures.heading_slices.Goals as goal

pub returns : goal.returns
returns c =
    subst (λ (found : Found Statement). IfOk c.procedure_parts.result (λ r. seen statement r ≡ judged found))
    (heading-split _ c.args.slices.now c.split_at.result.0.now c.split_at.result.1.now c.count_in_front-at.result c.count_in_front-at.ensures.same c.split_at.ensures.front c.split_at.ensures.back)
    c.procedure_parts.ensures
