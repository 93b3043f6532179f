use Rattle.std.proofs.Common.{◌≡◌, ◌≤◌}
use Rattle.dc_code.specs.Machine.{machine, bound}
use Rattle.dc_code.specs.OverCells.{over_cells}
use Rattle.dc_steps.specs.Ready.{AreReady}
use Rattle.dc_vm.proofs.running.run.Given as goal

abbrev pub invariant-loop-instr : goal.invariant-loop-instr
invariant-loop-instr g l =
    (over_cells g.M.Cells.shown g.M.Cells.after (g.M.Cells.holds l.fn.cells) (machine l.fn.code l.fn.entry l.fn.frame l.fn.turns)
    ≡ over_cells g.M.Cells.shown g.M.Cells.after (g.M.Cells.holds l.cells) (machine l.code l.at l.frame l.left))
    × (AreReady l.code g.M.Cells.shapes g.M.Cells.shown (g.M.Cells.holds l.cells)
    × ((l.instructions ≡ l.code.instructions) × (bound l.code l.at l.frame l.left ≤ bound l.fn.code l.fn.entry l.fn.frame l.fn.turns)))

abbrev pub decreases-loop-instr : goal.decreases-loop-instr
decreases-loop-instr g l = bound l.code l.at l.frame l.left
