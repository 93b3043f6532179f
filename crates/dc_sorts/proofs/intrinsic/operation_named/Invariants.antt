-- The first entry of a name is among those that are left.
use Rattle.std.proofs.Common.{◌≡◌, length, map}
use Rattle.dc_tree.specs.Intrinsics.{operation, named_in}
use Rattle.dc_sorts.proofs.intrinsic.operation_named.Given as goal

abbrev pub invariant-loop-table : goal.invariant-loop-table
invariant-loop-table l = named_in (map (λ e. (e.0.now, operation e.1)) l.table) l.name ≡ named_in (map (λ e. (e.0.now, operation e.1)) l.initial.table) l.name

abbrev pub decreases-loop-table : goal.decreases-loop-table
decreases-loop-table l = length l.table
