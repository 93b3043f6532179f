use Rattle.std.proofs.Common.{◌≡◌, ℕ, drop}
use Rattle.dc_steps.specs.Elementwise.{states_folded}
use Rattle.dc_steps.proofs.Folds.{states_onto}
use Rattle.dc_steps.proofs.folding.states_folded.Given as goal

abbrev pub invariant-loop-state : goal.invariant-loop-state
invariant-loop-state l = (line : ℕ) → states_folded line l.folding l.kind l.states ≡ states_onto line l.folding l.kind l.value (drop l.state-index l.states)
