-- It is left to ask about the arguments that come.
use Rattle.std.proofs.Common.{◌≡◌, drop}
use Rattle.std.specs.List.{list_all}
use Rattle.dc_sorts.specs.Knowing.{known_constant}
use Rattle.dc_sorts.proofs.called.are_constant.Given as goal

abbrev pub invariant-loop-arg : goal.invariant-loop-arg
invariant-loop-arg l = list_all known_constant (drop l.arg-index l.args) ≡ list_all known_constant l.args
