use Rattle.std.proofs.Common.{◌≡◌, ◌≤◌, ◌++◌, drop, map}
use Rattle.dc_form.specs.BuiltPrograms.{elements_of_all}
use Rattle.dc_plain.specs.Views.{variable_of, store_with}
use Rattle.dc_plain.proofs.opening.variables_with.Given as goal

abbrev pub invariant-loop-symbol : goal.invariant-loop-symbol
invariant-loop-symbol l =
    record {
      few : elements_of_all (drop l.symbol-index l.symbols) ≤ 4194304;
      left : map variable_of l.variables.items ++ store_with (drop l.symbol-index l.symbols) l.rest ≡ store_with l.symbols l.opening;
    }
