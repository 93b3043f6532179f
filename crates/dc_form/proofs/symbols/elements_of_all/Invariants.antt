use Rattle.std.proofs.Common.{◌≡◌, ◌+◌, ◌≤◌, drop}
use Rattle.dc_form.specs.BuiltPrograms.{elements_of_all}
use Rattle.dc_form.specs.Capped.{capped}
use Rattle.dc_form.proofs.symbols.elements_of_all.Given as goal

abbrev pub invariant-loop-symbol : goal.invariant-loop-symbol
invariant-loop-symbol l = (capped (l.elements + elements_of_all (drop l.symbol-index l.symbols)) ≡ capped (elements_of_all l.fn.symbols)) × (l.elements ≤ 9223372036854775808)
