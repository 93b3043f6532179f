-- Where the cell of an element stands among the rows.
use Rattle.std.proofs.Common.{◌≡◌, ℕ, ◌<◌, true, List, length, Option, Some, None, refl, ap, ◌∙◌, sym, IsTrue, is_some, slice_get, get_or}
use Rattle.std.specs.Prelude.{ℤ, Vec, option_map, option_and_then}
use Rattle.std.proofs.lemmas.Option.{slice_get-map, slice_get_within, slice_get_read}
use Rattle.dc_int.specs.declared.access.ElementId.{ElementId}
use Rattle.dc_int.specs.Store as stores
use Rattle.dc_int.specs.Store.{cell_of, value_at, number_in}
use Rattle.dc_store.specs.Rows.{variable_of, store_of}
use Rattle.dc_store.specs.Shaped.{ShapedStore}

-- a list has an item at a place that is within it
some-within : {A : Type 0} (items : List A) (k : ℕ) → is_some (slice_get items k) ≡ true → k < length items
some-within items k is = by (slice_get items k) refl is
  where
    by : (found : Option _) → slice_get items k ≡ found → is_some found ≡ true → k < length items
    by None none is = absurd cc
    by (Some item) some is = slice_get_within items k item some

-- An element that exists does so in an equal store.
pub exists-in : (shaped other : ShapedStore) (x : ElementId) → shaped ≡ other → IsTrue (is_some (cell_of other.store x)) → IsTrue (is_some (cell_of shaped.store x))
exists-in shaped other x same exists = ap (λ (s : ShapedStore). is_some (cell_of s.store x)) same ∙ exists

abbrev cell_by : ℕ → Option stores.Variable → Option (Option ℤ)
cell_by position variable = option_and_then (λ v. slice_get v.cells position) variable

module _ {A : Type 0} where
  cell-rows : (rows : List (Vec (Option ℤ) A)) (x : ElementId) → cell_of (store_of rows) x ≡ cell_by x.position (option_map variable_of (slice_get rows x.variable))
  unfolding cell_of
  cell-rows rows x = ap (cell_by x.position) (slice_get-map variable_of rows x.variable)

  -- The cell of an element is that of its position in the row of its variable.
  pub cell-row
      : (rows : List (Vec (Option ℤ) A)) (x : ElementId) (row : Vec (Option ℤ) A) → slice_get rows x.variable ≡ Some row
      → cell_of (store_of rows) x ≡ slice_get row.items x.position
  cell-row rows x row found = cell-rows rows x ∙ ap (λ r. cell_by x.position (option_map variable_of r)) found

  -- An element that exists has a row.
  pub within_rows : (rows : List (Vec (Option ℤ) A)) (x : ElementId) → IsTrue (is_some (cell_of (store_of rows) x)) → x.variable < length rows
  within_rows rows x is = by (slice_get rows x.variable) refl (sym (ap is_some (cell-rows rows x)) ∙ is)
    where
      by
          : (found : Option (Vec (Option ℤ) A)) → slice_get rows x.variable ≡ found → is_some (cell_by x.position (option_map variable_of found)) ≡ true
          → x.variable < length rows
      by None none is = absurd cc
      by (Some row) some is = slice_get_within rows x.variable row some

  -- The row that is read there is the variable's.
  pub row-read
      : (rows : List (Vec (Option ℤ) A)) (x : ElementId) (row : Vec (Option ℤ) A) → IsTrue (is_some (cell_of (store_of rows) x))
      → row ≡ get_or rows x.variable row → slice_get rows x.variable ≡ Some row
  row-read rows x row exists is = slice_get_read rows (length rows) x.variable row refl (within_rows rows x exists) is

  -- An element that exists has a place in that row.
  pub within_row
      : (rows : List (Vec (Option ℤ) A)) (x : ElementId) (row : Vec (Option ℤ) A) → slice_get rows x.variable ≡ Some row
      → IsTrue (is_some (cell_of (store_of rows) x)) → x.position < length row.items
  within_row rows x row found is = some-within row.items x.position (sym (ap is_some (cell-row rows x row found)) ∙ is)

  -- Its value is the state that is read at the place.
  pub value-row
      : (rows : List (Vec (Option ℤ) A)) (x : ElementId) (row : Vec (Option ℤ) A) (state : Option ℤ) → slice_get rows x.variable ≡ Some row
      → IsTrue (is_some (cell_of (store_of rows) x)) → state ≡ get_or row.items x.position state → state ≡ value_at (store_of rows) x
  unfolding value_at
  value-row rows x row state found exists is =
      sym (ap number_in (cell-row rows x row found ∙ slice_get_read row.items (length row.items) x.position state refl (within_row rows x row found exists) is))
