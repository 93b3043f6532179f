use Rattle.std.proofs.Common.{◌≡◌, drop}
use Rattle.std.specs.Prelude.{pos}
use Rattle.dc_int.specs.declared.operation.ReduceOp.{ReduceOp}
use Rattle.dc_code.specs.Closing.{combined_with}
use Rattle.dc_meaning.proofs.arrays.total.Given as goal

abbrev pub invariant-loop-value : goal.invariant-loop-value
invariant-loop-value l = combined_with ReduceOp.Add l.kind l.total (drop l.value-index l.values) ≡ combined_with ReduceOp.Add l.kind (pos 0) l.values
