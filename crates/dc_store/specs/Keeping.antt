-- What entries keep, in every form of cells whose entries change the store shown as they change any store. This project's own.
use Rattle.std.proofs.Common.{◌≡◌, List, [], ◌∷◌, Option, Some, None, refl, ap, ap₂, ◌∙◌, IsTrue, is_some}
use Rattle.std.specs.Prelude.{option_map}
use Rattle.dc_int.specs.declared.access.ElementId.{ElementId}
use Rattle.dc_int.specs.declared.variable.Shape.{Shape}
use Rattle.dc_int.specs.Entries.{Entry, store_after_entry, state_after}
use Rattle.dc_int.specs.Shapes.{store_fits, entry_fits}
use Rattle.dc_int.specs.Store.{Store, cell_of}
use Rattle.dc_int.proofs.Fits.{fits-entry}
use Rattle.dc_int.proofs.Stores.{cell-after}

-- Each entry keeps the elements of the store shown.
abbrev pub KeepsElements : {M : Type 0} → (M → Store) → (Entry → M → M) → Type 0
KeepsElements {M} shown after =
    (entry : Entry) (meaning : M) (x : ElementId) → is_some (cell_of (shown (after entry meaning)) x) ≡ is_some (cell_of (shown meaning) x)

-- An entry that fits keeps the store shown fitting the shapes.
abbrev pub KeepsFitting : {M : Type 0} → (M → List Shape) → (M → Store) → (Entry → M → M) → Type 0
KeepsFitting {M} shapes shown after =
    (entry : Entry) (meaning : M) → IsTrue (store_fits (shapes meaning) (shown meaning)) → IsTrue (entry_fits (shapes meaning) entry)
    → IsTrue (store_fits (shapes (after entry meaning)) (shown (after entry meaning)))

some-map : {A B : Type 0} (change : A → B) (item : Option A) → is_some (option_map change item) ≡ is_some item
some-map change None = refl
some-map change (Some item) = refl

pub elements-kept
    : {M : Type 0} (shown : M → Store) (after : Entry → M → M)
    → ((entry : Entry) (meaning : M) → shown (after entry meaning) ≡ store_after_entry entry (shown meaning)) → KeepsElements shown after
elements-kept shown after shows entry meaning x =
    ap (λ store. is_some (cell_of store x)) (shows entry meaning)
    ∙ (ap is_some (cell-after (entry ∷ []) (shown meaning) x) ∙ some-map (state_after x (entry ∷ [])) (cell_of (shown meaning) x))

pub fitting-kept
    : {M : Type 0} (shapes : M → List Shape) (shown : M → Store) (after : Entry → M → M)
    → ((entry : Entry) (meaning : M) → shown (after entry meaning) ≡ store_after_entry entry (shown meaning))
    → ((entry : Entry) (meaning : M) → shapes (after entry meaning) ≡ shapes meaning) → KeepsFitting shapes shown after
fitting-kept shapes shown after shows keeps_shapes entry meaning fits new =
    ap₂ store_fits (keeps_shapes entry meaning) (shows entry meaning) ∙ fits-entry (shapes meaning) (shown meaning) entry fits new
