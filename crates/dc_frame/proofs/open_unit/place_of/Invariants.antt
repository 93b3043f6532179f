use Rattle.std.proofs.Common.{◌≡◌, ◌+◌, take}
use Rattle.dc_frame.proofs.Numbered.{slot_count}
use Rattle.dc_frame.proofs.open_unit.place_of.Given as goal

-- how many slots the groups before have
abbrev pub invariant-loop-group : goal.invariant-loop-group
invariant-loop-group l = l.slot ≡ slot_count (take l.group l.rows) + l.position
