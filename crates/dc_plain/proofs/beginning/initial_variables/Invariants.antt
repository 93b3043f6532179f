use Rattle.std.proofs.Common.{◌≡◌, ◌≤◌, ◌++◌, drop, map, IsTrue}
use Rattle.std.specs.List.{list_all}
use Rattle.dc_form.specs.BuiltPrograms.{is_built_symbol, elements_of_all}
use Rattle.dc_plain.specs.FirstStores.{first_store}
use Rattle.dc_plain.specs.Views.{variable_of}
use Rattle.dc_plain.proofs.beginning.initial_variables.Given as goal

abbrev pub invariant-loop-symbol : goal.invariant-loop-symbol
invariant-loop-symbol l =
    record {
      built : IsTrue (list_all is_built_symbol (drop l.symbol-index l.symbols));
      few : elements_of_all (drop l.symbol-index l.symbols) ≤ 4194304;
      left : map variable_of l.variables.items ++ first_store (drop l.symbol-index l.symbols) ≡ first_store l.symbols;
    }
