use Rattle.std.proofs.Common.{◌≡◌}
use Rattle.dc_code.specs.Codes.{elements_of_variable}
use Rattle.dc_code.specs.OverCells.{over_cells}
use Rattle.dc_code.specs.Reaching.{all_defined}
use Rattle.dc_steps.specs.Elementwise.{elements_from}
use Rattle.dc_steps.specs.Ready.{AreReady}
use Rattle.dc_steps.proofs.arrays.all_defined.Given as goal

abbrev pub invariant-loop-position : goal.invariant-loop-position
invariant-loop-position g l =
    (over_cells g.M.Cells.shown g.M.Cells.after (g.M.Cells.holds l.fn.cells) (all_defined l.code l.line (elements_of_variable l.code l.variable) l.value)
    ≡ over_cells g.M.Cells.shown g.M.Cells.after (g.M.Cells.holds l.cells) (all_defined l.code l.line (elements_from l.variable l.position l.count) l.value))
    × AreReady l.code g.M.Cells.shapes g.M.Cells.shown (g.M.Cells.holds l.cells)
