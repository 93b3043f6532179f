use Rattle.std.proofs.Common.{◌≡◌, drop, map}
use Rattle.dc_plain.specs.Marks.{marked_all}
use Rattle.dc_plain.specs.MarkViews.{marks_of}
use Rattle.dc_plain.specs.Views.{entry_of}
use Rattle.dc_plain.proofs.marks.mark_notes.Given as goal

abbrev pub invariant-loop-note : goal.invariant-loop-note
invariant-loop-note l =
    marked_all l.iteration (map entry_of (drop l.note-index l.notes)) (marks_of l.rows.items) ≡ marked_all l.iteration (map entry_of l.notes) (marks_of l.fn.rows.items)
