use Rattle.std.proofs.Common.{◌≡◌}
use Rattle.dc_code.specs.Codes.{elements_of_variable}
use Rattle.dc_code.specs.OverCells.{over_cells}
use Rattle.dc_steps.specs.Elementwise.{elements_from, elements_folded}
use Rattle.dc_steps.specs.Ready.{AreReady}
use Rattle.dc_steps.proofs.Folds.{folded_onto}
use Rattle.dc_steps.proofs.folding.elements_folded.Given as goal

abbrev pub invariant-loop-position : goal.invariant-loop-position
invariant-loop-position g l =
    (over_cells g.M.Cells.shown g.M.Cells.after (g.M.Cells.holds l.fn.cells) (elements_folded l.code l.line l.folding l.kind (elements_of_variable l.code l.variable))
    ≡ over_cells g.M.Cells.shown g.M.Cells.after (g.M.Cells.holds l.cells) (folded_onto l.code l.line l.folding l.kind l.value (elements_from l.variable l.position l.count)))
    × AreReady l.code g.M.Cells.shapes g.M.Cells.shown (g.M.Cells.holds l.cells)
