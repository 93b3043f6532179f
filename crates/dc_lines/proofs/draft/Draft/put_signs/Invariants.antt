use Rattle.std.proofs.Common.{◌≡◌, drop}
use Rattle.dc_lines.specs.Joined.{signs_from}
use Rattle.dc_lines.specs.Reading.{put_signs}
use Rattle.dc_lines.proofs.draft.Draft.put_signs.Given as goal

abbrev pub invariant-loop-byte : goal.invariant-loop-byte
invariant-loop-byte l =
    put_signs l.self (signs_from l.context l.number (drop l.byte-index l.part)) ≡ put_signs l.fn.self (signs_from l.fn.context l.number l.part)
