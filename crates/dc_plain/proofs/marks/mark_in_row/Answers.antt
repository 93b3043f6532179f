use Rattle.std.proofs.Common.{arith, refl, ◌≡◌, rules}
use Rattle.std.proofs.lemmas.Option.{slice_get_read}
use Rattle.dc_plain.specs.Marks as judge
use Rattle.dc_plain.specs.MarkViews.{mark_of}
use Rattle.dc_plain.proofs.Changes.{changed-found, unchanged-past}
use Rattle.dc_plain.proofs.marks.mark_in_row.Goals as goal
use Rattle.dc_plain.proofs.marks.mark_in_row.Goals.{then-is_touch, else-is_touch}

pub returns-after-is_touch : goal.returns-after-is_touch
returns-after-is_touch c =
    let items = c.args.row.now.items in
    let found = slice_get_read items _ c.args.position c.index-mark.result.now refl (omega (arith, c.len.ensures, c.if-position-len.true)) c.index-mark.ensures in
    let is : mark_of _ ≡ judge.changed_by c.args.is_touch c.args.iteration (mark_of c.index-mark.result.now) = elim c.if-is_touch.branch [ then-is_touch w ↦ search rules | else-is_touch w ↦ search rules ] in
    changed-found mark_of items c.args.position c.index-mark.result.now _ (judge.changed_by c.args.is_touch c.args.iteration) found is

pub returns-else-position-len : goal.returns-else-position-len
returns-else-position-len c = unchanged-past mark_of c.args.row.now.items c.args.position (judge.changed_by c.args.is_touch c.args.iteration) (omega (arith, c.len.ensures, c.if-position-len.false))
