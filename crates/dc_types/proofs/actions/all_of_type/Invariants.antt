-- The rest decides.
use Rattle.std.proofs.Common.{◌≡◌, drop}
use Rattle.dc_types.specs.Actions.{all_of_type}
use Rattle.dc_types.proofs.actions.all_of_type.Given as goal

abbrev pub invariant-loop-argument : goal.invariant-loop-argument
invariant-loop-argument l = all_of_type l.form (drop l.argument-index l.arguments) ≡ all_of_type l.form l.arguments
