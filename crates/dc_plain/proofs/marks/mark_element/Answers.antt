use Rattle.std.proofs.Common.{arith, refl}
use Rattle.std.proofs.lemmas.Option.{slice_get_read}
use Rattle.dc_int.specs.Store.{changed_at}
use Rattle.dc_plain.specs.Marks as judge
use Rattle.dc_plain.specs.MarkViews.{row_of}
use Rattle.dc_plain.proofs.Changes.{changed-found, unchanged-past}
use Rattle.dc_plain.proofs.marks.mark_element.Goals as goal

pub returns-then-variable-len : goal.returns-then-variable-len
returns-then-variable-len c =
    let rows = c.args.rows.now.items in
    let found = slice_get_read rows _ c.args.element.variable c.index_mut.result.now refl (omega (arith, c.len.ensures, c.if-variable-len.true)) c.index_mut.ensures.value in
    changed-found row_of rows c.args.element.variable c.index_mut.result.now c.mark_in_row.new.row
    (λ row. changed_at (judge.changed_by c.args.is_touch c.args.iteration) row c.args.element.position) found c.mark_in_row.ensures

pub returns-else-variable-len : goal.returns-else-variable-len
returns-else-variable-len c =
    unchanged-past row_of c.args.rows.now.items c.args.element.variable (λ row. changed_at (judge.changed_by c.args.is_touch c.args.iteration) row c.args.element.position)
    (omega (arith, c.len.ensures, c.if-variable-len.false))
