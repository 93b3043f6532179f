use Rattle.std.proofs.Common.{◌≡◌, ◌++◌, drop, map}
use Rattle.dc_store.specs.Rows.{store_of}
use Rattle.dc_store.specs.Shaped.{undefined_variable}
use Rattle.dc_store.proofs.store.undefined_rows.Given as goal

abbrev pub invariant-loop-shape : goal.invariant-loop-shape
invariant-loop-shape l = store_of l.rows.items ++ map undefined_variable (drop l.shape-index l.shapes) ≡ map undefined_variable l.shapes
