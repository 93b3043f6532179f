use Rattle.std.proofs.Common.{◌≡◌, ◌++◌, take, drop}
use Rattle.dc_lines.specs.Line.{uncommented}
use Rattle.dc_lines.proofs.line.uncommented.Given as goal

abbrev pub invariant-loop-byte : goal.invariant-loop-byte
invariant-loop-byte l =
    (l.count ≡ l.byte-index) × (uncommented l.fn.context l.line ≡ take l.count l.line ++ uncommented l.context (drop l.byte-index l.line))
