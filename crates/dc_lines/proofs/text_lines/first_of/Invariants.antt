use Rattle.std.proofs.Common.{◌≡◌, ◌++◌, take, drop}
use Rattle.dc_lines.specs.Reading.{first_of}
use Rattle.dc_lines.proofs.text_lines.first_of.Given as goal

abbrev pub invariant-loop-byte : goal.invariant-loop-byte
invariant-loop-byte l = (l.count ≡ l.byte-index) × (first_of l.text ≡ take l.count l.text ++ first_of (drop l.byte-index l.text))
