use Rattle.std.proofs.Common.{◌≡◌, drop, map}
use Rattle.dc_plain.specs.Marks.{named_in_row}
use Rattle.dc_plain.specs.MarkViews.{mark_of}
use Rattle.dc_plain.proofs.marks.named_in_row.Given as goal

abbrev pub invariant-loop-mark : goal.invariant-loop-mark
invariant-loop-mark l =
    (l.position ≡ l.mark-index) × (named_in_row l.variable l.position (map mark_of (drop l.mark-index l.row)) ≡ named_in_row l.variable 0 (map mark_of l.row))
