-- What the form over one store holds. This project's own.
use Rattle.std.specs.Prelude.{ℕ}
use Rattle.dc_int.specs.Entries.{Entry, store_after_entry}
use Rattle.dc_store.specs.Shaped.{ShapedStore}
use Rattle.dc_store.specs.declared.whole.WholeStore.{WholeStore}

-- A shaped store, and which one it is: the name of the reference to it, which never changes.
pub record Whole : Type 0 where
  pub name : ℕ
  pub shaped : ShapedStore

abbrev pub whole_of : WholeStore → Whole
whole_of cells = record { name = cells.store.ghost_name; shaped = cells.store.now }

abbrev pub after_entry : Entry → Whole → Whole
after_entry entry whole = record whole { shaped = record whole.shaped { store = store_after_entry entry whole.shaped.store } }
