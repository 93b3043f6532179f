use Rattle.std.proofs.Common.{◌≤◌, length, sym, ap, ◌∙◌}
use Rattle.std.specs.Prelude.{min}
use Rattle.dc_code.specs.OverCells.{over_cells}
use Rattle.dc_steps.proofs.Passes.{none_forgotten}
use Rattle.dc_steps.proofs.entering.all_forgotten_out.Goals as goal

pub returns-clause-forgets : goal.returns-clause-forgets
returns-clause-forgets g c =
    let past : min (length c.args.dummies.now) (length c.args.passed.now) ≤ c.loop-at.at = rw (sym c.min-count.ensures) c.loop-at-test.false in
    c.loop-at.invariant.0
    ∙ ap (over_cells g.M.Cells.shown g.M.Cells.after (g.M.Cells.holds c.loop-at.cells)) (none_forgotten c.args.code.now c.args.line c.args.dummies.now c.args.passed.now c.loop-at.at c.loop-at.frame past)
