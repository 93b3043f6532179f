-- The store with which a program begins. After ISO/IEC 1539-1:2023, clause 8.4.
use Rattle.std.specs.Prelude.{List, [], map, filter_map, replicate, Option, Some, None, ℤ}
use Rattle.dc_int.specs.Store.{Bounds, elements_in, Variable, Store}
use Rattle.dc_tree.specs.declared.symbols.Role as roles
use Rattle.dc_tree.specs.declared.symbols.Symbol.{Symbol}
use Rattle.dc_tree.specs.Entities.{symbols_in}

abbrev pub undefined_cells : Bounds → List (Option ℤ)
undefined_cells bounds = replicate (elements_in bounds) None

-- The initial cells of a variable: undefined where no initial values are given.
abbrev pub first_cells : Bounds → List ℤ → List (Option ℤ)
first_cells bounds [] = undefined_cells bounds
first_cells bounds given = map (λ z. Some z) given

abbrev pub begun : Bounds → List ℤ → Variable
begun bounds given = record { bounds = Some bounds; cells = first_cells bounds given }

abbrev pub first_variable : Symbol → Option Variable
first_variable symbol = by symbol.role
  where
    by : roles.Role → Option Variable
    by (roles.Role.Variable logical kind bounds initial) = Some (begun bounds initial)
    by role = None

-- The store of the initial values.
abbrev pub first_store : List Symbol → Store
first_store symbols = filter_map first_variable (symbols_in 0 symbols)
