use Rattle.std.proofs.Common.{◌≡◌, ◌++◌, drop, map, Some}
use Rattle.dc_plain.proofs.beginning.initial_cells.Given as goal

abbrev pub invariant-loop-value : goal.invariant-loop-value
invariant-loop-value l = l.cells.items ++ map (λ z. Some z) (drop l.value-index l.given) ≡ map (λ z. Some z) l.given
