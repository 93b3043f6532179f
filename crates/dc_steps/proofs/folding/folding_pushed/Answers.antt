use Rattle.std.proofs.Common.{◌≡◌, FitsSigned, w64, Some, sym, rules}
use Rattle.std.proofs.lemmas.Int.{to_z-of_z}
use Rattle.std.specs.Prelude.{slice_get}
use Rattle.dc_steps.proofs.Folds.{folding_so, folding_halts}
use Rattle.dc_steps.proofs.folding.folding_pushed.Goals as goal

pub returns-in-Err-clause-folds : goal.returns-in-Err-clause-folds
returns-in-Err-clause-folds g c =
    let found : slice_get c.args.code.now.shapes c.args.variable ≡ Some c.in-Some.shape = sym c.in-Some.ensures in
    folding_halts c.args.code.now g.M.Cells.shown g.M.Cells.after (g.M.Cells.holds c.args.cells.now) (g.M.Cells.holds c.elements_folded.new.cells) c.args.line c.args.folding c.args.variable
    (slice_get c.args.code.now.shapes c.args.variable) c.in-Some.shape found c.args.frame.now _ c.in-Err.halt _ c.in-Err.ensures.folds

pub returns-in-Ok-clause-folds : goal.returns-in-Ok-clause-folds
returns-in-Ok-clause-folds g c =
    let fits : FitsSigned w64 c.in-Ok.value = search rules in
    let found : slice_get c.args.code.now.shapes c.args.variable ≡ Some c.in-Some.shape = sym c.in-Some.ensures in
    folding_so c.args.code.now g.M.Cells.shown g.M.Cells.after (g.M.Cells.holds c.args.cells.now) (g.M.Cells.holds c.elements_folded.new.cells) c.args.line c.args.folding c.args.variable
    (slice_get c.args.code.now.shapes c.args.variable) c.in-Some.shape found c.args.frame.now c.in-Ok.value _ c.value_pushed.result c.value_pushed.new.frame c.in-Ok.ensures.folds (to_z-of_z w64 c.in-Ok.value fits) (c.value_pushed.ensures c.args.line)
