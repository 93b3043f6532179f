use Rattle.std.proofs.Common.{◌+◌, ◌/◌, ◌≤ℤ◌, FitsSigned, w64, ap, ap₂, sym, ◌∙◌, arith, rules}
use Rattle.std.proofs.lemmas.Int.{ints, to_z-of_z}
use Rattle.std.specs.Prelude.{◌-ℤ◌, min, pos, unsigned_abs}
use Rattle.dc_code.specs.Computation.{give}
use Rattle.dc_code.specs.Instructions.{greatest_rounds}
use Rattle.dc_steps.proofs.Counts.{forward_some}
use Rattle.dc_steps.proofs.counting.rounds_forward.Goals as goal

pub returns : goal.returns
returns c = λ line.
    let first : FitsSigned w64 c.args.limits.first = search rules in
    let last : FitsSigned w64 c.args.limits.last = search rules in
    let step : FitsSigned w64 c.args.limits.step = search rules in
    let rounds : FitsSigned w64 c.rounds_within.result = search rules in
    let within : c.args.limits.first ≤ℤ c.args.limits.last = grind (arith, ints) in
    let distance = c.abs_diff.ensures ∙ ap₂ (λ a b. unsigned_abs (a -ℤ b)) (to_z-of_z w64 c.args.limits.last last) (to_z-of_z w64 c.args.limits.first first) in
    let size = c.unsigned_abs.ensures.value ∙ ap unsigned_abs (to_z-of_z w64 c.args.limits.step step) in
    forward_some line c.args.limits.first c.args.limits.last c.args.limits.step c.requires within
    ∙ sym (ap give (to_z-of_z w64 c.rounds_within.result rounds ∙ (c.rounds_within.ensures ∙ ap₂ (λ d s. pos (min (d / s + 1) greatest_rounds)) distance size)))
