use Rattle.std.proofs.Common.{◌≡◌, drop, map}
use Rattle.dc_plain.specs.Marks.{forget_in_row}
use Rattle.dc_plain.specs.MarkViews.{mark_of}
use Rattle.dc_plain.specs.Views.{variable_of}
use Rattle.dc_plain.proofs.closing.forget_in_row.Given as goal

abbrev pub invariant-loop-mark : goal.invariant-loop-mark
invariant-loop-mark l =
    (l.position ≡ l.mark-index)
    × (forget_in_row l.variable l.position (map mark_of (drop l.mark-index l.row)) (map variable_of l.variables.items) ≡ forget_in_row l.variable 0 (map mark_of l.row) (map variable_of l.fn.variables.items))
