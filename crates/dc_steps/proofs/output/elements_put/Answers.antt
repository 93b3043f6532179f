use Rattle.std.proofs.Common.{FitsSigned, w64, ◌∙◌, rules}
use Rattle.std.proofs.lemmas.Int.{to_z-of_z}
use Rattle.std.specs.Prelude.{Err}
use Rattle.dc_steps.proofs.Behind.{reaches_as}
use Rattle.dc_steps.proofs.Puts.{put_more, put_stops}
use Rattle.dc_steps.proofs.output.elements_put.Goals as goal

pub returns-in-Err-clause-puts : goal.returns-in-Err-clause-puts
returns-in-Err-clause-puts g c =
    reaches_as c.args.line (Err c.in-Err.halt) _ (g.M.Cells.holds c.element_read.new.cells) _ _ c.loop-position.invariant.0
    (put_stops c.args.code.now g.M.Cells.shown g.M.Cells.after c.args.line (g.M.Cells.holds c.loop-position.cells) (g.M.Cells.holds c.element_read.new.cells)
    c.args.shape c.args.variable c.loop-position.position c.loop-position.frame c.loop-position-test.true c.in-Err.halt _ c.in-Err.ensures.reads)

pub loop-position-preserved : goal.loop-position-preserved
loop-position-preserved g c =
    let fits : FitsSigned w64 c.in-Ok.value = search rules in (
      c.loop-position.invariant.0
          ∙ put_more c.args.code.now g.M.Cells.shown g.M.Cells.after c.args.line (g.M.Cells.holds c.loop-position.cells) (g.M.Cells.holds c.element_read.new.cells)
          c.args.shape c.args.variable c.loop-position.position c.loop-position.frame c.loop-position-test.true c.in-Ok.value _ c.put_value.new.self c.in-Ok.ensures.reads (to_z-of_z w64 c.in-Ok.value fits) c.in_ok-put_value-in-Ok.ensures.ok,
      c.in-Ok.ensures.ready,
    )
