use Rattle.std.proofs.Common.{to_z, ◌+◌, ◌≡◌, drop, FitsSigned, w64, sym, ap, ◌∙◌, rules}
use Rattle.std.proofs.lemmas.Int.{to_z-of_z}
use Rattle.std.proofs.lemmas.List.{drop_more}
use Rattle.std.specs.Prelude.{None, Some, ◌∷◌}
use Rattle.dc_steps.specs.Elementwise.{folded_further}
use Rattle.dc_steps.proofs.Folds.{states_onto, states_first, states_more}
use Rattle.dc_steps.proofs.folding.states_folded.Goals as goal

pub loop-state-init : goal.loop-state-init
loop-state-init c = λ line.
    let fits : FitsSigned w64 c.folded_first-value.result = search rules in
    states_first line c.args.folding c.args.kind c.args.states.now
    ∙ ap (λ z. states_onto line c.args.folding c.args.kind z c.args.states.now) (sym (to_z-of_z w64 c.folded_first-value.result fits ∙ c.folded_first-value.ensures))

pub loop-state-preserved : goal.loop-state-preserved
loop-state-preserved c = λ line.
    let fits : FitsSigned w64 c.folded_further-value.result = search rules in
    let other : FitsSigned w64 c.in-Some.other = search rules in
    let more : drop c.loop-state.state-index c.args.states.now ≡ Some _ ∷ drop (c.loop-state.state-index + 1) c.args.states.now =
    drop_more c.args.states.now c.loop-state.state-index None c.loop-state-test.true ∙ ap (λ state. state ∷ drop (c.loop-state.state-index + 1) c.args.states.now) c.in-Some.is in
    c.loop-state.invariant line
    ∙ states_more line c.args.folding c.args.kind _ _ _ (drop c.loop-state.state-index c.args.states.now) (drop (c.loop-state.state-index + 1) c.args.states.now) more
    (to_z-of_z w64 c.folded_further-value.result fits ∙ (c.folded_further-value.ensures ∙ ap (λ z. folded_further c.args.folding c.args.kind (to_z w64 c.loop-state.value-bits) z) (to_z-of_z w64 c.in-Some.other other)))
