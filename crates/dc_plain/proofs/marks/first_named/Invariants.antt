use Rattle.std.proofs.Common.{◌≡◌, drop}
use Rattle.dc_plain.specs.Marks.{named_from}
use Rattle.dc_plain.specs.MarkViews.{marks_of}
use Rattle.dc_plain.proofs.marks.first_named.Given as goal

abbrev pub invariant-loop-row : goal.invariant-loop-row
invariant-loop-row l = (l.variable ≡ l.row-index) × (named_from l.variable (marks_of (drop l.row-index l.rows)) ≡ named_from 0 (marks_of l.rows))
