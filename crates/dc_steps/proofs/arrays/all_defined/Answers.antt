use Rattle.std.proofs.Common.{ap, ◌+◌, ◌∙◌, w64}
use Rattle.std.specs.Int.{cast_signed, cast_unsigned}
use Rattle.dc_code.specs.Codes.{element}
use Rattle.dc_code.specs.OverCells.{over_cells}
use Rattle.dc_code.specs.Reaching.{all_defined, element_defined}
use Rattle.dc_steps.specs.Elementwise.{elements_from}
use Rattle.dc_steps.proofs.Leading.{behind_done}
use Rattle.dc_steps.proofs.Rest.{elements_more}
use Rattle.dc_steps.proofs.arrays.all_defined.Goals as goal

pub loop-position-preserved : goal.loop-position-preserved
loop-position-preserved g c =
    let code = c.args.code.now in
    let held = g.M.Cells.holds c.loop-position.cells in
    let value = cast_signed w64 (cast_unsigned w64 c.args.value) in
    let rest = elements_from c.args.variable (c.loop-position.position + 1) c.elements_of-count.result in (
      c.loop-position.invariant.0
          ∙ (ap (λ elements. over_cells g.M.Cells.shown g.M.Cells.after held (all_defined code c.args.line elements value)) (elements_more c.args.variable c.loop-position.position c.elements_of-count.result c.loop-position-test.true)
          ∙ behind_done g.M.Cells.shown g.M.Cells.after held (g.M.Cells.holds c.element_defined.new.cells) (element_defined code c.args.line (element c.args.variable c.loop-position.position) value) tt c.in_default.ensures.defines (λ first. all_defined code c.args.line rest value)),
      c.in_default.ensures.ready,
    )
