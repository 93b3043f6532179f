-- What is declared so far and by the rest is all together.
use Rattle.std.proofs.Common.{◌≡◌, ◌≤◌, ◌++◌, drop, IsTrue}
use Rattle.std.specs.List.{list_all}
use Rattle.dc_form.specs.BuiltPrograms.{is_built_symbol, elements_of_all}
use Rattle.dc_lower.specs.Lowerable.{are_held_symbols}
use Rattle.dc_lower.specs.Variables.{shapes_of, bounds_of_all}
use Rattle.dc_lower.proofs.variables.outside_variables.Given as goal

abbrev pub invariant-loop-symbol : goal.invariant-loop-symbol
invariant-loop-symbol l =
    record {
      built : IsTrue (list_all is_built_symbol (drop l.symbol-index l.symbol-items));
      few : elements_of_all (drop l.symbol-index l.symbol-items) ≤ 4194304;
      shapes : (l.made).shapes ++ shapes_of (drop l.symbol-index l.symbol-items) ≡ shapes_of l.symbols;
      bounds : (l.made).bounds ++ bounds_of_all (drop l.symbol-index l.symbol-items) ≡ bounds_of_all l.symbols;
      held : IsTrue (are_held_symbols (drop l.symbol-index l.symbol-items)) → IsTrue (are_held_symbols l.symbols);
    }
