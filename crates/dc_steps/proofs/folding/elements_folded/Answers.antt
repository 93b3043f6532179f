use Rattle.std.proofs.Common.{to_z, ◌≡◌, ℕ, FitsSigned, w64, sym, ap, ◌∙◌, rules}
use Rattle.std.proofs.lemmas.Int.{to_z-of_z}
use Rattle.std.specs.Prelude.{ℤ, Err}
use Rattle.std.specs.Prelude.{map}
use Rattle.std.specs.List.{range_with_len}
use Rattle.dc_code.specs.Codes.{element, elements_of_variable}
use Rattle.dc_code.specs.OverCells.{over_cells}
use Rattle.dc_steps.specs.Elementwise.{elements_from, folded_further}
use Rattle.dc_steps.proofs.Behind.{reaches_as}
use Rattle.dc_steps.proofs.Folds.{folded_onto, elements_first, folded_more, folded_stops}
use Rattle.dc_steps.proofs.Rest.{elements_all}
use Rattle.dc_steps.proofs.folding.elements_folded.Goals as goal

pub loop-position-init : goal.loop-position-init
loop-position-init g c =
    let fits : FitsSigned w64 c.folded_first-value.result = search rules in
    let all : elements_of_variable c.args.code.now c.args.variable ≡ elements_from c.args.variable 0 c.elements_of-count.result = ap (λ (count : ℕ). map (element c.args.variable) (range_with_len 0 count)) (sym c.elements_of-count.ensures) ∙ elements_all c.args.variable c.elements_of-count.result in (
      ap (over_cells g.M.Cells.shown g.M.Cells.after (g.M.Cells.holds c.args.cells.now))
          (elements_first c.args.code.now c.args.line c.args.folding c.args.kind (elements_of_variable c.args.code.now c.args.variable)
          ∙ (ap (λ z. folded_onto c.args.code.now c.args.line c.args.folding c.args.kind z (elements_of_variable c.args.code.now c.args.variable)) (sym (to_z-of_z w64 c.folded_first-value.result fits ∙ c.folded_first-value.ensures))
          ∙ ap (folded_onto c.args.code.now c.args.line c.args.folding c.args.kind _) all)),
      c.requires,
    )

pub returns-in-Err-clause-folds : goal.returns-in-Err-clause-folds
returns-in-Err-clause-folds g c =
    reaches_as c.args.line (Err c.in-Err.halt) (λ (z : ℤ). z) (g.M.Cells.holds c.element_read.new.cells) _ _ c.loop-position.invariant.0
    (folded_stops c.args.code.now g.M.Cells.shown g.M.Cells.after c.args.line (g.M.Cells.holds c.loop-position.cells) (g.M.Cells.holds c.element_read.new.cells)
    c.args.folding c.args.kind c.args.variable c.loop-position.position c.elements_of-count.result _ c.loop-position-test.true c.in-Err.halt c.in-Err.ensures.reads)

pub loop-position-preserved : goal.loop-position-preserved
loop-position-preserved g c =
    let fits : FitsSigned w64 c.folded_further-value.result = search rules in
    let other : FitsSigned w64 c.in-Ok.other = search rules in (
      c.loop-position.invariant.0
          ∙ folded_more c.args.code.now g.M.Cells.shown g.M.Cells.after c.args.line (g.M.Cells.holds c.loop-position.cells) (g.M.Cells.holds c.element_read.new.cells)
          c.args.folding c.args.kind c.args.variable c.loop-position.position c.elements_of-count.result _ c.loop-position-test.true _ _ c.in-Ok.ensures.reads
          (to_z-of_z w64 c.folded_further-value.result fits ∙ (c.folded_further-value.ensures ∙ ap (λ z. folded_further c.args.folding c.args.kind (to_z w64 c.loop-position.value-bits) z) (to_z-of_z w64 c.in-Ok.other other))),
      c.in-Ok.ensures.ready,
    )
