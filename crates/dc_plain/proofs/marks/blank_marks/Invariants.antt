use Rattle.std.proofs.Common.{◌≡◌, ◌++◌, drop, map}
use Rattle.dc_plain.specs.Marks.{blank_marks}
use Rattle.dc_plain.specs.MarkViews.{marks_of}
use Rattle.dc_plain.specs.Views.{variable_of}
use Rattle.dc_plain.proofs.marks.blank_marks.Given as goal

abbrev pub invariant-loop-variable : goal.invariant-loop-variable
invariant-loop-variable l = marks_of l.rows.items ++ blank_marks (map variable_of (drop l.variable-index l.variables)) ≡ blank_marks (map variable_of l.variables)
