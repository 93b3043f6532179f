use Rattle.std.proofs.Common.{◌+◌, ◌*◌, ◌-◌, ◌^◌, ℕ, ap, sym, ◌∙◌, drop, get_or}
use Rattle.std.specs.Prelude.{ℤ, pos, min}
use Rattle.std.proofs.lemmas.List.{drop_more}
use Rattle.dc_int.specs.Store.{Bounds, extent, elements_in}
use Rattle.dc_plain.proofs.Caps.{capped-more}
use Rattle.dc_plain.proofs.size.size_of.Goals as goal

pub loop-dimension-preserved : goal.loop-dimension-preserved
loop-dimension-preserved c =
    let bounds = c.args.bounds.now in
    let k = c.loop-dimension.dimension-index in
    let none : ℤ × ℤ = (pos 0, pos 0) in
    let rest = elements_in (drop (k + 1) bounds) in
    let size = c.loop-dimension.size in
    let cap = 2 ^ 64 - 1 in
    ap (λ (n : ℕ). min (n * rest) cap) (c.saturating_mul-size.ensures ∙ ap (λ (n : ℕ). min (size * n) cap) c.extent_of.ensures)
    ∙ capped-more cap size (extent (get_or bounds k none)) rest
    ∙ ap (λ (l : Bounds). min (size * elements_in l) cap) (sym (drop_more bounds k none c.loop-dimension-test.true))
    ∙ c.loop-dimension.invariant
