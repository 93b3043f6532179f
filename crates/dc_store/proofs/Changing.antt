-- What a write to a place of a row makes of the store.
use Rattle.std.proofs.Common.{◌≡◌, ℕ, zero, suc, List, [], ◌∷◌, map, Option, Some, refl, sym, ap, subst, ◌∙◌, IsTrue, slice_get, slice_set}
use Rattle.std.specs.Prelude.{ℤ, Vec}
use Rattle.std.proofs.Math.ListN.{length-set}
use Rattle.std.proofs.lemmas.Option.{same_Some}
use Rattle.dc_int.specs.declared.access.ElementId.{ElementId}
use Rattle.dc_int.specs.declared.variable.Shape.{Shape}
use Rattle.dc_int.specs.Shapes.{state_fits}
use Rattle.dc_int.specs.Store.{put_at, with_cell, changed_at}
use Rattle.dc_int.proofs.Fits.{fits-put}
use Rattle.dc_store.specs.Rows.{variable_with, variable_of, store_of, shaped_of}
use Rattle.dc_store.specs.Shaped.{ShapedStore, IsFitting, one_dimension}

-- the change of one item of a list, by a view of the items
changed-view
    : {A B : Type 0} (view : A → B) (items : List A) (n : ℕ) (item after : A) (change : B → B) → slice_get items n ≡ Some item
    → view after ≡ change (view item) → map view (slice_set items n after) ≡ changed_at change (map view items) n
changed-view view [] n item after change found is = refl
changed-view view (first ∷ rest) zero item after change found is =
    ap (λ v. v ∷ map view rest) (is ∙ ap (λ a. change (view a)) (sym (same_Some first item found)))
changed-view view (first ∷ rest) (suc n) item after change found is = ap (λ vs. view first ∷ vs) (changed-view view rest n item after change found is)

-- a cell that is written leaves the bounds
with-cell : (cells : List (Option ℤ)) (p : ℕ) (state : Option ℤ) → variable_with (slice_set cells p state) ≡ with_cell p state (variable_with cells)
with-cell cells p state = ap (λ n. record { bounds = Some (one_dimension n); cells = slice_set cells p state }) (length-set cells p state)

-- the store with an element in a state
abbrev pub put_in : ElementId → Option ℤ → ShapedStore → ShapedStore
put_in x state shaped = record shaped { store = put_at shaped.store x state }

module _ {A : Type 0} where
  -- A row with a state at a place is the store with the element in that state.
  pub put-row
      : (rows : List (Vec (Option ℤ) A)) (x : ElementId) (row after : Vec (Option ℤ) A) (state : Option ℤ) → slice_get rows x.variable ≡ Some row
      → after.items ≡ slice_set row.items x.position state → store_of (slice_set rows x.variable after) ≡ put_at (store_of rows) x state
  unfolding put_at
  put-row rows x row after state found is =
      changed-view variable_of rows x.variable row after (with_cell x.position state) found (ap variable_with is ∙ with-cell row.items x.position state)

  pub put-shaped
      : (shapes : List Shape) (rows : List (Vec (Option ℤ) A)) (x : ElementId) (row after : Vec (Option ℤ) A) (state : Option ℤ) → slice_get rows x.variable ≡ Some row
      → after.items ≡ slice_set row.items x.position state → shaped_of shapes (slice_set rows x.variable after) ≡ put_in x state (shaped_of shapes rows)
  put-shaped shapes rows x row after state found is = ap (λ store. record { shapes = shapes; store = store }) (put-row rows x row after state found is)

  -- A state that fits leaves a store that fits.
  pub fitting-row
      : (shapes : List Shape) (rows : List (Vec (Option ℤ) A)) (x : ElementId) (row after : Vec (Option ℤ) A) (state : Option ℤ) → slice_get rows x.variable ≡ Some row
      → after.items ≡ slice_set row.items x.position state → IsFitting (shaped_of shapes rows) → IsTrue (state_fits shapes x state)
      → IsFitting (shaped_of shapes (slice_set rows x.variable after))
  fitting-row shapes rows x row after state found is fitting new =
      subst IsFitting (sym (put-shaped shapes rows x row after state found is)) (record { fits = fits-put shapes (store_of rows) x state fitting.fits new; few = fitting.few })
