use Rattle.std.proofs.Common.{◌≡◌, ◌++◌, drop, map}
use Rattle.dc_code.specs.Codes.{blank}
use Rattle.dc_frame.proofs.open_unit.blank_rows.Given as goal

abbrev pub invariant-loop-group : goal.invariant-loop-group
invariant-loop-group l = l.rows.items ++ map blank (drop l.group-index l.groups) ≡ map blank l.groups
