-- A step by a dimension.
use Rattle.std.proofs.Common.{◌+◌, ◌*◌, ℕ, ap, sym, ◌∙◌, drop, get_or}
use Rattle.std.specs.Prelude.{ℤ, pos}
use Rattle.std.proofs.lemmas.List.{drop_more}
use Rattle.dc_int.specs.Store.{Bounds, extent, elements_in}
use Rattle.dc_form.specs.Capped.{capped}
use Rattle.dc_form.proofs.Capped.{capped-more}
use Rattle.dc_form.proofs.capping.size_of.Goals as goal

pub loop-dimension-preserved : goal.loop-dimension-preserved
loop-dimension-preserved c =
    let bounds = c.args.bounds.now in
    let k = c.loop-dimension.dimension-index in
    let none : ℤ × ℤ = (pos 0, pos 0) in
    let rest = elements_in (drop (k + 1) bounds) in
    let size = c.loop-dimension.size in (
      ap (λ (n : ℕ). capped (n * rest)) (c.product-size.ensures.equal ∙ ap (λ (n : ℕ). capped (size * n)) c.extent.ensures.equal)
          ∙ capped-more size (extent (get_or bounds k none)) rest
          ∙ ap (λ (l : Bounds). capped (size * elements_in l)) (sym (drop_more bounds k none c.loop-dimension-test.true))
          ∙ c.loop-dimension.invariant.0,
      c.product-size.ensures.bound,
    )
