-- How definitions see the rows of cells that the code holds: a row for each variable. This project's own.
use Rattle.std.specs.Prelude.{List, map, length, Option, Some, ℤ, Vec}
use Rattle.dc_int.specs.declared.variable.Shape.{Shape}
use Rattle.dc_int.specs.Store.{Variable, Store}
use Rattle.dc_store.specs.Shaped.{ShapedStore, one_dimension}

-- The variable that has these cells, with the bounds of as many elements in one dimension.
abbrev pub variable_with : List (Option ℤ) → Variable
variable_with cells = record { bounds = Some (one_dimension (length cells)); cells = cells }

module _ {A : Type 0} where
  abbrev pub variable_of : Vec (Option ℤ) A → Variable
  variable_of row = variable_with row.items

  abbrev pub store_of : List (Vec (Option ℤ) A) → Store
  store_of rows = map variable_of rows

  abbrev pub shaped_of : List Shape → List (Vec (Option ℤ) A) → ShapedStore
  shaped_of shapes rows = record { shapes = shapes; store = store_of rows }
