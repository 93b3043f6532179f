-- How definitions see the ledger: a store, and the entries that led to it. This project's own.
use Rattle.std.specs.Prelude.{List, [], ◌∷◌, ◌++◌, map, flat_map, take, drop, Option, Some, if◌then◌else◌, ℤ}
use Rattle.std.specs.List.{list_any}
use Rattle.dc_int.specs.declared.access.ElementId.{ElementId}
use Rattle.dc_int.specs.Entries.{Entry, Reads, Defines, Undefines, store_after_entry}
use Rattle.dc_int.specs.Store as stores
use Rattle.dc_tree.specs.declared.symbols.Role as roles
use Rattle.dc_tree.specs.declared.symbols.Symbol.{Symbol}
use Rattle.dc_plain.specs.declared.note.Note.{Note}
use Rattle.dc_plain.specs.declared.note.Variable.{Variable}

-- A store, and the entries that led to it, in order.
pub record View : Type 0 where
  pub store : stores.Store
  pub entries : List Entry

-- A store to which nothing was done yet.
abbrev pub fresh : stores.Store → View
fresh store = record { store = store; entries = [] }

-- The view after one more entry.
abbrev pub noted : Entry → View → View
noted entry view = record { store = store_after_entry entry view.store; entries = view.entries ++ entry ∷ [] }

abbrev pub variable_of : Variable → stores.Variable
variable_of variable = record { bounds = Some variable.bounds; cells = variable.cells.items }

abbrev pub entry_of : Note → Entry
entry_of (Note.Read x line) = Reads x line
entry_of (Note.Defined x value line) = Defines x value line

-- The store of these variables, and the entries of these notes.
abbrev pub store_of : List Variable → stores.Store
store_of variables = map variable_of variables

abbrev pub entries_of : List Note → List Entry
entries_of notes = map entry_of notes

abbrev pub view_of : List Variable → List Note → View
view_of variables notes = record { store = store_of variables; entries = entries_of notes }

-- The store of declared variables whose elements take these states in store order.
abbrev pub store_with : List Symbol → List (Option ℤ) → stores.Store
store_with [] states = []
store_with (symbol ∷ rest) states = by symbol.role (store_with rest)
  where
    by : roles.Role → (List (Option ℤ) → stores.Store) → stores.Store
    by (roles.Role.Variable logical kind bounds initial) others =
        record { bounds = Some bounds; cells = take (stores.elements_in bounds) states } ∷ others (drop (stores.elements_in bounds) states)
    by role others = others states

-- The states of all elements of a store, in store order.
abbrev pub states_in : stores.Store → List (Option ℤ)
states_in store = flat_map (λ (variable : stores.Variable). variable.cells) store

-- The touched elements after one more entry.
abbrev pub more_seen : List ElementId → Entry → List ElementId
more_seen seen (Defines x value line) = if list_any (stores.same_element x) seen then seen else seen ++ x ∷ []
more_seen seen (Undefines x line) = if list_any (stores.same_element x) seen then seen else seen ++ x ∷ []
more_seen seen entry = seen
