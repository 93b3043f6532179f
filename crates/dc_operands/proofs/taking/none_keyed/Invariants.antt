-- The rest decides.
use Rattle.std.proofs.Common.{◌≡◌, drop}
use Rattle.dc_operands.specs.Arguments.{none_keyed}
use Rattle.dc_operands.proofs.taking.none_keyed.Given as goal

abbrev pub invariant-loop-argument : goal.invariant-loop-argument
invariant-loop-argument l = none_keyed (drop l.argument-index l.arguments) ≡ none_keyed l.arguments
