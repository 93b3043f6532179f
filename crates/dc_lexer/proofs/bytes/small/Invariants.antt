use Rattle.std.proofs.Common.{◌≡◌, take}
use Rattle.dc_lexer.specs.Bytes.{small}
use Rattle.dc_lexer.proofs.bytes.small.Given as goal

abbrev pub invariant-loop-byte : goal.invariant-loop-byte
invariant-loop-byte l = l.text ≡ small (take l.byte-index l.bytes)
