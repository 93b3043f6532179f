-- The rest decides.
use Rattle.std.proofs.Common.{◌≡◌, drop}
use Rattle.dc_operands.specs.Operands.{all_whole}
use Rattle.dc_operands.proofs.references.all_whole.Given as goal

abbrev pub invariant-loop-argument : goal.invariant-loop-argument
invariant-loop-argument l = all_whole (drop l.argument-index l.arguments) ≡ all_whole l.arguments
