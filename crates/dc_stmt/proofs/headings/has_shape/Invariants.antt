use Rattle.std.proofs.Common.{◌≡◌, map, drop}
use Rattle.std.specs.List.{list_any}
use Rattle.dc_stmt.specs.Headings.{slice_shape, same_shape}
use Rattle.dc_stmt.proofs.headings.has_shape.Given as goal

abbrev pub invariant-loop-slice : goal.invariant-loop-slice
invariant-loop-slice l =
    list_any (same_shape l.shape) (map slice_shape (map (λ slice. slice.now) (drop l.slice-index l.slices))) ≡ list_any (same_shape l.shape) (map slice_shape (map (λ slice. slice.now) l.slices))
