use Rattle.std.proofs.Common.{◌≡◌, drop}
use Rattle.std.specs.List.{list_all}
use Rattle.dc_form.specs.BuiltPrograms.{is_built_symbol}
use Rattle.dc_form.proofs.symbols.all_built.Given as goal

abbrev pub invariant-loop-symbol : goal.invariant-loop-symbol
invariant-loop-symbol l = list_all is_built_symbol (drop l.symbol-index l.symbols) ≡ list_all is_built_symbol l.fn.symbols
