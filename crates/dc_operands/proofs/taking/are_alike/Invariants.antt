-- The rest decides.
use Rattle.std.proofs.Common.{◌≡◌, drop, map}
use Rattle.std.specs.List.{list_all}
use Rattle.dc_operands.specs.Arguments.{form_in, same_form}
use Rattle.dc_operands.proofs.taking.are_alike.Given as goal

abbrev pub invariant-loop-argument : goal.invariant-loop-argument
invariant-loop-argument l = list_all (same_form l.form) (map form_in (drop l.argument-index l.arguments)) ≡ list_all (same_form l.form) (map form_in l.arguments)
