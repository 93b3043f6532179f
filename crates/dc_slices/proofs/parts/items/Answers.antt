use Rattle.std.proofs.Common.{◌≤◌, length, arith}
use Rattle.dc_slices.proofs.Judged.{all-gathered}
use Rattle.dc_slices.proofs.parts.items.Goals as goal

pub returns : goal.returns
returns g c =
    let done : length c.args.slices.now ≤ c.loop-slice.slice-index = omega arith in
    all-gathered g.P.Part.view c.loop-slice.so_far g.P.Part.finds _ c.args.slices.now c.loop-slice.slice-index done c.loop-slice.invariant
