use Rattle.std.proofs.Common.{◌≡◌, drop}
use Rattle.dc_lines.specs.Rules.{has_foreign_from}
use Rattle.dc_lines.proofs.rule.has_foreign_from.Given as goal

abbrev pub invariant-loop-byte : goal.invariant-loop-byte
invariant-loop-byte l = has_foreign_from l.context (drop l.byte-index l.line) ≡ has_foreign_from l.fn.context l.line
