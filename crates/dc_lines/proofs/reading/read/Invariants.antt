use Rattle.std.proofs.Common.{◌≡◌, ◌+◌, ◌≤◌, length}
use Rattle.dc_lines.specs.TextLines.{lines_of}
use Rattle.dc_lines.specs.Reading.{stands, read, start}
use Rattle.dc_lines.proofs.reading.read.Given as goal

abbrev pub invariant-loop-rest : goal.invariant-loop-rest
invariant-loop-rest l =
    (read start (lines_of l.text) ≡ read (stands l.place) (lines_of l.rest)) × (l.place.lines + length l.rest ≤ length l.text)

abbrev pub decreases-loop-rest : goal.decreases-loop-rest
decreases-loop-rest l = length l.rest
