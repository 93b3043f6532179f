use Rattle.std.proofs.Common.{◌+◌, ◌*◌, ◌<◌, drop, get_or, sym, ap, ◌∙◌, arith}
use Rattle.std.specs.Prelude.{pos, min}
use Rattle.std.proofs.lemmas.List.{drop_more, drop_all}
use Rattle.dc_int.specs.Store.{Bounds, elements_in, extent}
use Rattle.dc_scope.proofs.Elements.{one_factor, same_count}
use Rattle.dc_scope.proofs.holding.holds.Goals as goal

pub loop-dimension-preserved : goal.loop-dimension-preserved
loop-dimension-preserved c =
    let k = c.loop-dimension.dimension-index in
    let bounds = c.args.bounds.now in
    let rest = elements_in (drop (k + 1) bounds) in
    let before = c.loop-dimension.elements in
    ap (λ e. min (e * rest) 18446744073709551616) (c.capped-elements.ensures ∙ ap (λ x. min (before * x) 18446744073709551616) c.extent.ensures)
    ∙ one_factor 18446744073709551616 before (extent (get_or bounds k (pos 0, pos 0))) rest
    ∙ ap (λ (l : Bounds). min (before * elements_in l) 18446744073709551616) (sym (drop_more bounds k (pos 0, pos 0) c.loop-dimension-test.true))
    ∙ c.loop-dimension.invariant

pub returns : goal.returns
returns c =
    let bounds = c.args.bounds.now in
    let elements = c.loop-dimension.elements in
    let none = drop_all c.loop-dimension.dimension-index bounds c.loop-dimension-test.false in
    let less : c.args.count < 18446744073709551616 = omega arith in
    same_count elements (elements_in bounds) c.args.count 18446744073709551616
    (ap (λ (l : Bounds). min (elements * elements_in l) 18446744073709551616) (sym none) ∙ c.loop-dimension.invariant) less
