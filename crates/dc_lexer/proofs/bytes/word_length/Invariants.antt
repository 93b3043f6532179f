use Rattle.std.proofs.Common.{◌≡◌, ◌+◌, drop}
use Rattle.dc_lexer.specs.Bytes.{is_word_byte, span}
use Rattle.dc_lexer.proofs.bytes.word_length.Given as goal

abbrev pub invariant-loop-byte : goal.invariant-loop-byte
invariant-loop-byte l = (l.count ≡ l.byte-index) × (l.count + span is_word_byte (drop l.byte-index l.bytes) ≡ span is_word_byte l.bytes)
