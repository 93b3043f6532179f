-- How large a store is that a program can have. This project's own.
use Rattle.std.specs.Prelude.{◌≡◌, ◌≤◌, ℕ, List, length, map, slice_get, Some}
use Rattle.dc_int.specs.Store.{Variable, Store}

abbrev pub size_of : Variable → ℕ
size_of variable = length variable.cells

-- How many cells each variable has.
abbrev pub sizes_of : Store → List ℕ
sizes_of store = map size_of store

-- No more variables, and none with more cells, than a program may have elements.
pub record FitSizes (sizes : List ℕ) : Type 0 where
  pub few : length sizes ≤ 4194304
  pub short : (k n : ℕ) → slice_get sizes k ≡ Some n → n ≤ 4194304
