-- The rest of both decides, and there were dummies enough.
use Rattle.std.proofs.Common.{◌≡◌, ◌≤◌, drop, length}
use Rattle.dc_operands.specs.Arguments.{fit_all}
use Rattle.dc_operands.proofs.fitting.fit_all.Given as goal

abbrev pub invariant-loop-place : goal.invariant-loop-place
invariant-loop-place l = (l.place ≤ length l.dummies) × (fit_all (drop l.place l.dummies) (drop l.place l.arguments) ≡ fit_all l.dummies l.arguments)
