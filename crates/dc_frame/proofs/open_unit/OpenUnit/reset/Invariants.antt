use Rattle.std.proofs.Common.{◌≡◌, ◌++◌, take, drop, map, None}
use Rattle.dc_frame.proofs.open_unit.OpenUnit.reset.Given as goal

abbrev pub invariant-loop-row : goal.invariant-loop-row
invariant-loop-row l =
    take l.row-index l.row-items ++ map (λ cells. map (λ cell. None) cells) (drop l.row-index l.row-items) ≡ map (λ cells. map (λ cell. None) cells) l.initial.row-items
