use Rattle.std.proofs.Common.{◌≡◌, drop, map}
use Rattle.dc_plain.specs.Marks.{forget_from}
use Rattle.dc_plain.specs.MarkViews.{marks_of}
use Rattle.dc_plain.specs.Views.{variable_of}
use Rattle.dc_plain.proofs.closing.forget_touched_twice.Given as goal

abbrev pub invariant-loop-row : goal.invariant-loop-row
invariant-loop-row l =
    (l.variable ≡ l.row-index)
    × (forget_from l.variable (marks_of (drop l.row-index l.rows)) (map variable_of l.variables.items) ≡ forget_from 0 (marks_of l.rows) (map variable_of l.fn.variables.items))
