-- The numbers of the variables: for each symbol how many variables stand before it.
use Rattle.std.specs.Prelude.{ℕ, ◌+◌, List, [], ◌∷◌, if◌then◌else◌}
use Rattle.dc_tree.specs.declared.symbols.Symbol.{Symbol}
use Rattle.dc_tree.specs.Entities.{is_variable}

abbrev pub numbers_from : ℕ → List Symbol → List ℕ
numbers_from number [] = []
numbers_from number (symbol ∷ rest) = number ∷ numbers_from (number + (if is_variable symbol then 1 else 0)) rest

abbrev pub numbers_of : List Symbol → List ℕ
numbers_of = numbers_from 0
