-- The rest of both decides.
use Rattle.std.proofs.Common.{◌≡◌, ◌≤◌, drop, length}
use Rattle.dc_operands.specs.Arguments.{some_breaks_fixed}
use Rattle.dc_operands.proofs.fitting.some_breaks_fixed.Given as goal

abbrev pub invariant-loop-place : goal.invariant-loop-place
invariant-loop-place l = (l.place ≤ length l.dummies) × (some_breaks_fixed (drop l.place l.dummies) (drop l.place l.arguments) ≡ some_breaks_fixed l.dummies l.arguments)
