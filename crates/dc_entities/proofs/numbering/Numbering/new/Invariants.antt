use Rattle.std.proofs.Common.{◌≡◌, ◌≤◌, ◌++◌, drop}
use Rattle.dc_entities.specs.Numbering.{numbers_from, numbers_of}
use Rattle.dc_entities.proofs.numbering.Numbering.new.Given as goal

abbrev pub invariant-loop-symbol : goal.invariant-loop-symbol
invariant-loop-symbol l = (l.numbers ++ numbers_from l.number (drop l.symbol-index l.symbol-items) ≡ numbers_of l.symbols) × (l.number ≤ l.symbol-index)
