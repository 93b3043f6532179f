use Rattle.std.proofs.Common.{◌≡◌, [], map, drop}
use Rattle.dc_slices.specs.declared.reading.Reading.{Reading}
use Rattle.dc_slices.specs.Judging.{seen, gathered}
use Rattle.dc_slices.proofs.parts.items.Given as goal

abbrev pub invariant-loop-slice : goal.invariant-loop-slice
invariant-loop-slice g l =
    gathered (seen (map g.P.Part.view) l.so_far) g.P.Part.finds (map (λ slice. slice.now) (drop l.slice-index l.slices)) ≡ gathered (Reading.Whole []) g.P.Part.finds (map (λ slice. slice.now) l.slices)
