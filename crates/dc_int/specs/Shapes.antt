-- What it is for a store to fit the declared variables. After ISO/IEC 1539-1:2023, clauses 7.4, 8.5.8 and
-- 19.6; that a LOGICAL is 0 or 1 is this project's own.
use Rattle.std.specs.Prelude.{Bool, true, false, ◌&&◌, ◌==◌, List, [], ◌∷◌, length, slice_get, Option, Some, None, ℤ}
use Rattle.std.specs.List.{list_all}
use Rattle.dc_int.specs.declared.access.ElementId.{ElementId}
use Rattle.dc_int.specs.declared.variable.Shape.{Shape}
use Rattle.dc_int.specs.Entries.{Entry, Defines}
use Rattle.dc_int.specs.Kinds.{value_fits}
use Rattle.dc_int.specs.Store.{Variable, Store, elements_within}

-- A cell is undefined, or holds a value of the variable.
abbrev pub cell_fits : Shape → Option ℤ → Bool
cell_fits shape None = true
cell_fits shape (Some z) = value_fits shape.kind shape.logical z

-- A variable has as many elements as its shape says, both within its bounds and as cells, and each cell
-- fits.
abbrev pub variable_fits : Shape → Variable → Bool
variable_fits shape variable =
    (elements_within variable.bounds == shape.elements) && ((length variable.cells == shape.elements) && list_all (cell_fits shape) variable.cells)

-- The invariant of stores: there is one variable for each that is declared, in the same order, and each
-- fits its shape.
abbrev pub store_fits : List Shape → Store → Bool
store_fits [] [] = true
store_fits (shape ∷ shapes) (variable ∷ store) = variable_fits shape variable && store_fits shapes store
store_fits shapes store = false

-- An element can be left in this state: undefined, or with a value of its variable. Of an element of no
-- variable nothing is asked, since no store has it.
abbrev pub state_fits : List Shape → ElementId → Option ℤ → Bool
state_fits shapes x state = by (slice_get shapes x.variable)
  where
    by : Option Shape → Bool
    by None = true
    by (Some shape) = cell_fits shape state

-- An entry leaves its element in a state that fits. One that doesn't touch its element does so always.
abbrev pub entry_fits : List Shape → Entry → Bool
entry_fits shapes (Defines x value line) = state_fits shapes x (Some value)
entry_fits shapes entry = true
