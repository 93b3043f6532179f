use Rattle.std.proofs.Common.{◌≡◌, Some}
use Rattle.dc_code.specs.Instructions.{all_put}
use Rattle.dc_code.specs.OverCells.{over_cells}
use Rattle.dc_steps.specs.Elementwise.{elements_from}
use Rattle.dc_steps.specs.Ready.{AreReady}
use Rattle.dc_steps.proofs.Puts.{put_onto}
use Rattle.dc_steps.proofs.output.elements_put.Given as goal

abbrev pub invariant-loop-position : goal.invariant-loop-position
invariant-loop-position g l =
    (over_cells g.M.Cells.shown g.M.Cells.after (g.M.Cells.holds l.fn.cells) (all_put l.code l.line l.variable (Some l.shape) l.fn.frame)
    ≡ over_cells g.M.Cells.shown g.M.Cells.after (g.M.Cells.holds l.cells) (put_onto l.code l.line l.shape (elements_from l.variable l.position l.shape.elements) l.frame))
    × AreReady l.code g.M.Cells.shapes g.M.Cells.shown (g.M.Cells.holds l.cells)
