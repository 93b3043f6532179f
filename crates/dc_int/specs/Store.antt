-- The store of the main program's variables: for each element a number, or undefined.
-- After ISO/IEC 1539-1:2023, clauses 8.5.8, 9.5.3 and 19.6.
use Rattle.std.specs.Prelude.{ℕ, zero, suc, ◌+◌, ◌*◌, Bool, true, false, ◌&&◌, ◌||◌, nat_lt, List, [], ◌∷◌, ◌++◌, slice_get, slice_set, Option, Some, None, option_and_then, if◌then◌else◌, ℤ, pos, ◌+ℤ◌, int_le}
use Rattle.std.specs.Int.{int_gap}
use Rattle.dc_int.specs.declared.access.ElementId.{ElementId}

-- The least and the greatest subscript of each dimension. A scalar has no dimension. After clause
-- 8.5.8.
abbrev pub Bounds : Type 0
Bounds = List (ℤ × ℤ)

-- A variable has bounds while it is allocated; one that isn't allocatable always has them. A cell
-- that is `None` is undefined, in the sense of clause 19.6.
pub record Variable : Type 0 where
  pub bounds : Option Bounds
  pub cells : List (Option ℤ)

abbrev pub Store : Type 0
Store = List Variable

-- ---- reading and writing, this project's own

-- the cell of an element, where there is such an element
unfoldable pub cell_of : Store → ElementId → Option (Option ℤ)
cell_of store x = option_and_then (λ variable. slice_get variable.cells x.position) (slice_get store x.variable)

abbrev pub number_in : Option (Option ℤ) → Option ℤ
number_in None = None
number_in (Some state) = state

-- The number of an element, `None` where it is undefined or there is no such element.
unfoldable pub value_at : Store → ElementId → Option ℤ
value_at store x = number_in (cell_of store x)

abbrev pub with_cell : ℕ → Option ℤ → Variable → Variable
with_cell position state variable = record { bounds = variable.bounds; cells = slice_set variable.cells position state }

-- the list with a change made to the item at this place, and no change past the end
abbrev pub changed_at : {A : Type 0} → (A → A) → List A → ℕ → List A
changed_at change [] place = []
changed_at change (item ∷ items) zero = change item ∷ items
changed_at change (item ∷ items) (suc place) = item ∷ changed_at change items place

-- The store with that one element in this state. Where there is no such element it stays the same.
unfoldable pub put_at : Store → ElementId → Option ℤ → Store
put_at store x state = changed_at (with_cell x.position state) store x.variable

-- The bounds of a variable, by its number.
abbrev pub bounds_of : Store → ℕ → Option Bounds
bounds_of store variable = option_and_then (λ v. v.bounds) (slice_get store variable)

-- ---- subscripts, after clauses 8.5.8 and 9.5.3

-- How many subscripts a dimension has: none where the greatest is below the least.
abbrev pub extent : ℤ × ℤ → ℕ
extent (low, high) = int_gap low (high +ℤ pos 1)

-- How many elements there are within bounds: one of a scalar.
abbrev pub elements_in : Bounds → ℕ
elements_in [] = 1
elements_in (dimension ∷ bounds) = extent dimension * elements_in bounds

-- How many elements a variable has: those within its bounds, and none while it has no bounds.
abbrev pub elements_within : Option Bounds → ℕ
elements_within None = 0
elements_within (Some bounds) = elements_in bounds

-- How far a subscript is above the least one, where it is within the dimension.
abbrev pub offset_in : ℤ × ℤ → ℤ → Option ℕ
offset_in (low, high) subscript = if int_le low subscript && int_le subscript high then Some (int_gap low subscript) else None

-- the position by the offset of the first subscript and the position of the others
abbrev pub joined_position : ℕ → Option ℕ → Option ℕ → Option ℕ
joined_position size (Some offset) (Some others) = Some (offset + size * others)
joined_position size offset others = None

-- The position of the element with these subscripts, the first one varying fastest, as the array
-- element order of clause 9.5.3 has it; `None` where a subscript is out of its bounds.
abbrev pub position_in : Bounds → List ℤ → Option ℕ
position_in [] [] = Some 0
position_in (dimension ∷ bounds) (subscript ∷ subscripts) =
    joined_position (extent dimension) (offset_in dimension subscript) (position_in bounds subscripts)
position_in bounds subscripts = None

-- ---- elements, and their order, this project's own

abbrev pub same : ℕ → ℕ → Bool
same zero zero = true
same (suc m) (suc n) = same m n
same m n = false

abbrev pub same_element : ElementId → ElementId → Bool
same_element x y = same x.variable y.variable && same x.position y.position

-- Store order: the variables as they are declared, then the position.
abbrev pub comes_before : ElementId → ElementId → Bool
comes_before x y = nat_lt x.variable y.variable || (same x.variable y.variable && nat_lt x.position y.position)

-- The elements of so many cells of a variable, from a position on, and all elements of a store from
-- a variable on, in store order.
abbrev pub cells_from : ℕ → ℕ → List (Option ℤ) → List ElementId
cells_from variable position [] = []
cells_from variable position (state ∷ states) = record { variable = variable; position = position } ∷ cells_from variable (suc position) states

abbrev pub elements_from : ℕ → Store → List ElementId
elements_from number [] = []
elements_from number (variable ∷ store) = cells_from number 0 variable.cells ++ elements_from (suc number) store

abbrev pub elements_of : Store → List ElementId
elements_of store = elements_from 0 store
