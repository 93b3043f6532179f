use Rattle.std.proofs.Common.{drop}
use Rattle.dc_steps.proofs.Passes.{PassedLeft}
use Rattle.dc_steps.proofs.arguments.passed_to.Given as goal

abbrev pub invariant-loop-at : goal.invariant-loop-at
invariant-loop-at l = PassedLeft l.dummies l.items l.passed (drop l.at l.dummies) (drop l.at l.items)
