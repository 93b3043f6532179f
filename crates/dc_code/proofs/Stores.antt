-- What entries leave of a store.
use Rattle.std.proofs.Common.{◌≡◌, false, List, Option, Some, None, refl, sym, ap, ◌∙◌}
use Rattle.std.specs.Prelude.{ℤ, is_some, option_map}
use Rattle.dc_int.specs.declared.access.ElementId.{ElementId}
use Rattle.dc_int.specs.Entries.{Entry, store_after, touches, state_after}
use Rattle.dc_int.specs.Store.{Store, cell_of, value_at, number_in}
use Rattle.dc_int.proofs.Fits.{bounds-after}
use Rattle.dc_int.proofs.Stores.{cell-after}
use Rattle.dc_code.specs.Computation.{SameShape}
use Rattle.dc_code.proofs.Runs.{untouched, value-cell}

-- Entries make no element, and take none away.
pub shape-after : (entries : List Entry) (store : Store) → SameShape store (store_after entries store)
shape-after entries store =
    record {
      elements = λ x. sym (ap is_some (cell-after entries store x)
          ∙ mapped (state_after x entries) (cell_of store x));
      bounds = λ variable. sym (bounds-after entries store variable);
    }
  where
    mapped : (change : Option ℤ → Option ℤ) (cell : Option (Option ℤ)) → is_some (option_map change cell) ≡ is_some cell
    mapped change None = refl
    mapped change (Some state) = refl

-- An element that the entries don't touch has the value that it had.
pub value-untouched
    : (entries : List Entry) (store : Store) (x : ElementId) → touches x entries ≡ false → value_at store x ≡ value_at (store_after entries store) x
value-untouched entries store x apart =
    value-cell store x ∙ ap number_in (sym (untouched entries store x apart)) ∙ sym (value-cell (store_after entries store) x)

pub shape-then : (first second third : Store) → SameShape first second → SameShape second third → SameShape first third
shape-then first second third one other =
    record { elements = λ x. one.elements x ∙ other.elements x; bounds = λ variable. one.bounds variable ∙ other.bounds variable }
