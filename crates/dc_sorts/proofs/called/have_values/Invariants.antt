-- It is left to ask about the arguments that come.
use Rattle.std.proofs.Common.{◌≡◌, drop}
use Rattle.std.specs.List.{list_all}
use Rattle.dc_sorts.specs.References.{has_value}
use Rattle.dc_sorts.proofs.called.have_values.Given as goal

abbrev pub invariant-loop-arg : goal.invariant-loop-arg
invariant-loop-arg l = list_all has_value (drop l.arg-index l.args) ≡ list_all has_value l.args
