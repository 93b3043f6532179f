use Rattle.std.proofs.Common.{◌≡◌, drop, length}
use Rattle.dc_code.specs.Instructions.{all_forgotten_out}
use Rattle.dc_code.specs.OverCells.{over_cells}
use Rattle.dc_steps.specs.Ready.{AreReady}
use Rattle.dc_steps.proofs.entering.all_forgotten_out.Given as goal

abbrev pub invariant-loop-at : goal.invariant-loop-at
invariant-loop-at g l =
    (over_cells g.M.Cells.shown g.M.Cells.after (g.M.Cells.holds l.fn.cells) (all_forgotten_out l.code l.line l.dummies l.passed l.fn.frame)
    ≡ over_cells g.M.Cells.shown g.M.Cells.after (g.M.Cells.holds l.cells) (all_forgotten_out l.code l.line (drop l.at l.dummies) (drop l.at l.passed) l.frame))
    × (AreReady l.code g.M.Cells.shapes g.M.Cells.shown (g.M.Cells.holds l.cells) × (length l.frame.units ≡ length l.fn.frame.units))
