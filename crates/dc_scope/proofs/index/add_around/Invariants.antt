use Rattle.std.proofs.Common.{◌≡◌, ◌++◌, drop}
use Rattle.dc_scope.proofs.index.add_around.Given as goal

abbrev pub invariant-loop-outer : goal.invariant-loop-outer
invariant-loop-outer l = l.names ++ drop l.outer-index l.around ≡ l.fn.names ++ l.around
