use Rattle.std.proofs.Common.{◌≡◌, drop}
use Rattle.dc_lines.specs.Line.{behind_all}
use Rattle.dc_lines.proofs.line.behind_all.Given as goal

abbrev pub invariant-loop-byte : goal.invariant-loop-byte
invariant-loop-byte l = behind_all l.context (drop l.byte-index l.line) ≡ behind_all l.fn.context l.line
