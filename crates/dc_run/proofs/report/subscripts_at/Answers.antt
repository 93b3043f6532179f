use Rattle.std.proofs.Common.{rules, ◌≡◌, ◌++◌, ◌∷◌, ◌+◌, ◌<◌, ◌≤◌, ◌%◌, ◌/◌, [], ℕ, List, subst, drop, slice_index_or, pos, ℤ, length, sym, ◌∙◌, ap}
use Rattle.std.proofs.lemmas.List.{drop_more, at_drop_more, append_assoc}
use Rattle.std.specs.Prelude.{◌+ℤ◌}
use Rattle.dc_int.specs.Store.{Bounds, extent}
use Rattle.dc_run.specs.ReportLine.{subscripts_at}
use Rattle.dc_run.proofs.Subscripts.{IsLeft, Gives, first_gives}
use Rattle.dc_run.proofs.report.subscripts_at.Goals as goal

abbrev at_dimension : Bounds → ℕ → ℤ × ℤ
at_dimension bounds at = slice_index_or bounds at (pos 0, pos 0)

gives : (bounds : Bounds) (at left : ℕ) → at < length bounds → IsLeft (drop at bounds) left → Gives (at_dimension bounds at) (drop (at + 1) bounds) left
gives bounds at left inside known =
    first_gives (at_dimension bounds at) (drop (at + 1) bounds) left (subst (λ (b : Bounds). IsLeft b left) (drop_more bounds at (pos 0, pos 0) inside) known)

pub extent-size-requires-clause-few : goal.extent-size-requires-clause-few
extent-size-requires-clause-few c =
    let known = gives c.args.bounds.now c.loop-low.low-index c.loop-low.left c.loop-low-test.true c.loop-low.invariant.1 in
    let few : extent (at_dimension c.args.bounds.now c.loop-low.low-index) ≤ 4194304 = known.few in
    search rules

pub nonzero_div-left : goal.nonzero_div-left
nonzero_div-left c =
    let known = gives c.args.bounds.now c.loop-low.low-index c.loop-low.left c.loop-low-test.true c.loop-low.invariant.1 in
    let some : 0 < extent (at_dimension c.args.bounds.now c.loop-low.low-index) = known.some in
    search rules

-- the subscripts that were made, one more, and those still to come
moved : (made pushed : List ℤ) (bounds : Bounds) (at left size : ℕ) (whole : List ℤ)
    → at < length bounds
    → size ≡ extent (at_dimension bounds at)
    → pushed ≡ made ++ ((at_dimension bounds at).0 +ℤ pos (left % extent (at_dimension bounds at))) ∷ []
    → made ++ subscripts_at (drop at bounds) left ≡ whole
    → pushed ++ subscripts_at (drop (at + 1) bounds) (left / size) ≡ whole
moved made pushed bounds at left size whole inside size_is pushed_is before =
    let d = at_dimension bounds at in
    let rest = drop (at + 1) bounds in
    let one = (d.0 +ℤ pos (left % extent d)) ∷ [] in
    let here = at_drop_more (λ (b : Bounds). subscripts_at b left) bounds at (pos 0, pos 0) inside in
    ap (λ (m : List ℤ). m ++ subscripts_at rest (left / size)) pushed_is
    ∙ append_assoc made one (subscripts_at rest (left / size))
    ∙ ap (λ n. made ++ (one ++ subscripts_at rest (left / n))) size_is
    ∙ ap (λ (m : List ℤ). made ++ m) (sym here) ∙ before

pub loop-low-preserved : goal.loop-low-preserved
loop-low-preserved c =
    let bounds = c.args.bounds.now in
    let at = c.loop-low.low-index in
    let known = gives bounds at c.loop-low.left c.loop-low-test.true c.loop-low.invariant.1 in
    let size_is : c.extent-size.result ≡ extent (at_dimension bounds at) = search rules in
    let pushed_is : c.push.new.self ≡ c.loop-low.made ++ ((at_dimension bounds at).0 +ℤ pos (c.loop-low.left % extent (at_dimension bounds at))) ∷ [] = search rules in (
      moved c.loop-low.made c.push.new.self bounds at c.loop-low.left c.extent-size.result (subscripts_at bounds c.args.position) c.loop-low-test.true size_is pushed_is c.loop-low.invariant.0,
      subst (λ n. IsLeft (drop (at + 1) bounds) (c.loop-low.left / n)) (sym size_is) known.next,
    )
