use Rattle.std.proofs.Common.{◌≡◌, suc, ◌+◌, ◌<◌, ◌≤◌, ◌∷◌, [], ◌++◌, length, drop, get_or, drop-cons, ap, subst, sym, ◌∙◌, to_z, of_z, w64, rules, arith}
use Rattle.std.specs.Prelude.{ℤ, pos, ◌+ℤ◌, ◌%◌}
use Rattle.dc_int.specs.declared.kind.Kind.{Kind}
use Rattle.dc_int.specs.Store.{Bounds, extent, elements_in}
use Rattle.dc_code.specs.declared.instr.What.{What}
use Rattle.dc_actions.specs.Subscripts.{subscripts_at}
use Rattle.dc_actions.proofs.Listing.{constants, later-is, subscripts-next}
use Rattle.dc_actions.proofs.lists.element.Goals as goal

pub loop-dimension-preserved : goal.loop-dimension-preserved
loop-dimension-preserved c =
    let bounds = c.args.bounds.now in
    let at = c.loop-dimension.dimension-index in
    let position = c.loop-dimension.position in
    let dimension = get_or bounds at (pos 0, pos 0) in
    let rest = drop (at + 1) bounds in
    let below : at < length bounds = omega (arith, c.loop-dimension-test.true) in
    let one : suc at ≡ at + 1 = omega arith in
    let next : drop at bounds ≡ dimension ∷ rest = drop-cons bounds at (pos 0, pos 0) below ∙ ap (λ k. dimension ∷ drop k bounds) one in
    let within : position < elements_in (dimension ∷ rest) = subst (λ (of : Bounds). position < elements_in of) next c.loop-dimension.invariant.within in
    let few : elements_in (dimension ∷ rest) ≤ 4194304 = subst (λ (of : Bounds). elements_in of ≤ 4194304) next c.loop-dimension.invariant.few in
    let later = later-is dimension rest position within few in
    let number : c.subscript.result ≡ dimension.0 +ℤ pos (position % extent dimension) = c.subscript.ensures in
    let told : to_z w64 (of_z w64 c.subscript.result) ≡ c.subscript.result = search rules in
    let pushed : c.push.new.self ≡ c.loop-dimension.whats ++ What.Const Kind.K8 (to_z w64 (of_z w64 c.subscript.result)) ∷ [] = c.in_ok-push.ensures.ok in
    record {
      few = later.few;
      within = rw c.later-position.ensures later.within;
      code =
          subscripts-next dimension rest position c.later-position.result c.loop-dimension.whats c.push.new.self _ c.later-position.ensures
          (pushed ∙ ap (λ (z : ℤ). c.loop-dimension.whats ++ What.Const Kind.K8 z ∷ []) (told ∙ number))
          (ap (λ (of : Bounds). c.loop-dimension.whats ++ constants (subscripts_at of position)) (sym next) ∙ c.loop-dimension.invariant.code);
    }
