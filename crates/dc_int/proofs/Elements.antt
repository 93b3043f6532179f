-- The elements of a store, and when two stores are the same.
use Rattle.std.proofs.Common.{◌≡◌, ℕ, zero, suc, ◌+◌, Bool, true, false, ◌&&◌, ◌||◌, List, [], ◌∷◌, ◌++◌, length, Option, Some, None, refl, sym, ap, ap₂, ◌∙◌, subst, arith}
use Rattle.std.proofs.lemmas.Bool.{false≢true}
use Rattle.std.proofs.lemmas.List.Folds.{list_any-append}
use Rattle.std.proofs.lemmas.Option.{none-some, same_Some}
use Rattle.std.specs.Prelude.{ℤ, is_some, slice_get, slice_set}
use Rattle.std.specs.List.{list_any}
use Rattle.dc_int.specs.declared.access.ElementId.{ElementId}
use Rattle.dc_int.specs.Entries.{Entry, Reads, Defines, Undefines, Contributes, store_after}
use Rattle.dc_int.specs.Store.{Variable, Store, cell_of, put_at, with_cell, changed_at, bounds_of, same, same_element, cells_from, elements_from, elements_of}
use Rattle.dc_int.proofs.Stores.{cell_at, same-itself}

-- ---- the same store

cells-same : (first second : List (Option ℤ)) → ((p : ℕ) → slice_get first p ≡ slice_get second p) → first ≡ second
cells-same [] [] same = refl
cells-same [] (state ∷ second) same = absurd (none-some state (same 0))
cells-same (state ∷ first) [] same = absurd (none-some state (sym (same 0)))
cells-same (state ∷ first) (other ∷ second) same =
    let here : state ≡ other = same_Some state other (same 0) in
    let rest = cells-same first second (λ p. same (suc p)) in
    λ i. here i ∷ rest i

by_cells
    : (first second : Store) → length first ≡ length second → ((v : ℕ) → bounds_of first v ≡ bounds_of second v)
    → ((v p : ℕ) → cell_at first v p ≡ cell_at second v p)
    → first ≡ second
by_cells [] [] long bounds cells = refl
by_cells [] (w ∷ second) long bounds cells = absurd (omega arith)
by_cells (v ∷ first) [] long bounds cells = absurd (omega arith)
by_cells (v ∷ first) (w ∷ second) long bounds cells =
    let here = cells-same v.cells w.cells (λ p. cells 0 p) in
    let rest = by_cells first second (omega arith) (λ n. bounds (suc n)) (λ n p. cells (suc n) p) in
    λ i. record { bounds = bounds 0 i; cells = here i } ∷ rest i

-- Stores that have as many variables, the same bounds and the same cells are the same.
pub store-same
    : (first second : Store) → length first ≡ length second → ((v : ℕ) → bounds_of first v ≡ bounds_of second v)
    → ((x : ElementId) → cell_of first x ≡ cell_of second x)
    → first ≡ second
unfolding cell_of
store-same first second long bounds cells = by_cells first second long bounds (λ v p. cells (record { variable = v; position = p }))

-- ---- what entries leave as it is

length-changed : (change : Variable → Variable) (store : Store) (v : ℕ) → length (changed_at change store v) ≡ length store
length-changed change [] v = refl
length-changed change (variable ∷ store) zero = refl
length-changed change (variable ∷ store) (suc v) = ap suc (length-changed change store v)

cells-set
    : (variable from : ℕ) (cells : List (Option ℤ)) (p : ℕ) (state : Option ℤ)
    → cells_from variable from (slice_set cells p state) ≡ cells_from variable from cells
cells-set variable from [] p state = refl
cells-set variable from (cell ∷ cells) zero state = refl
cells-set variable from (cell ∷ cells) (suc p) state =
    ap (λ elements. record { variable = variable; position = from } ∷ elements) (cells-set variable (suc from) cells p state)

elements-changed
    : (number : ℕ) (store : Store) (v p : ℕ) (state : Option ℤ)
    → elements_from number (changed_at (with_cell p state) store v) ≡ elements_from number store
elements-changed number [] v p state = refl
elements-changed number (variable ∷ store) zero p state =
    ap (λ elements. elements ++ elements_from (suc number) store) (cells-set number 0 variable.cells p state)
elements-changed number (variable ∷ store) (suc v) p state =
    ap (λ elements. cells_from number 0 variable.cells ++ elements) (elements-changed (suc number) store v p state)

-- Entries leave the number of variables.
pub length-after : (entries : List Entry) (store : Store) → length (store_after entries store) ≡ length store
unfolding put_at
length-after [] store = refl
length-after (Reads x line ∷ entries) store = length-after entries store
length-after (Defines x value line ∷ entries) store =
    length-after entries (put_at store x (Some value)) ∙ length-changed (with_cell x.position (Some value)) store x.variable
length-after (Undefines x line ∷ entries) store =
    length-after entries (put_at store x None) ∙ length-changed (with_cell x.position None) store x.variable
length-after (Contributes x op value ∷ entries) store = length-after entries store

-- Entries leave the elements of a store.
pub elements-after : (entries : List Entry) (store : Store) → elements_of (store_after entries store) ≡ elements_of store
unfolding put_at
elements-after [] store = refl
elements-after (Reads x line ∷ entries) store = elements-after entries store
elements-after (Defines x value line ∷ entries) store =
    elements-after entries (put_at store x (Some value)) ∙ elements-changed 0 store x.variable x.position (Some value)
elements-after (Undefines x line ∷ entries) store = elements-after entries (put_at store x None) ∙ elements-changed 0 store x.variable x.position None
elements-after (Contributes x op value ∷ entries) store = elements-after entries store

-- ---- every cell is that of an element

among-cells
    : (variable from : ℕ) (cells : List (Option ℤ)) (p at : ℕ) → at ≡ from + p → is_some (slice_get cells p) ≡ true
    → list_any (same_element (record { variable = variable; position = at })) (cells_from variable from cells) ≡ true
among-cells variable from [] p at is some = absurd (false≢true some)
among-cells variable from (cell ∷ cells) zero at is some =
    let here : at ≡ from = omega arith in
    let itself : (same variable variable && same at from) ≡ true =
    ap₂ (λ a b. a && b) (same-itself variable) (ap (same at) (sym here) ∙ same-itself at) in
    ap (λ b. b || list_any (same_element (record { variable = variable; position = at })) (cells_from variable (suc from) cells)) itself
among-cells variable from (cell ∷ cells) (suc p) at is some =
    either (same variable variable && same at from)
    (list_any (same_element (record { variable = variable; position = at })) (cells_from variable (suc from) cells))
    (among-cells variable (suc from) cells p at (omega arith) some)
  where
    either : (a b : Bool) → b ≡ true → (a || b) ≡ true
    either true b e = refl
    either false b e = e

among-elements
    : (number : ℕ) (store : Store) (v p at : ℕ) → at ≡ number + v → is_some (cell_at store v p) ≡ true
    → list_any (same_element (record { variable = at; position = p })) (elements_from number store) ≡ true
among-elements number [] v p at is some = absurd (false≢true some)
among-elements number (variable ∷ store) zero p at is some =
    let x : ElementId = record { variable = at; position = p } in
    let here : at ≡ number = omega arith in
    let found : list_any (same_element x) (cells_from number 0 variable.cells) ≡ true =
    subst (λ n. list_any (same_element x) (cells_from n 0 variable.cells) ≡ true) here (among-cells at 0 variable.cells p p (omega arith) some) in
    list_any-append (same_element x) (cells_from number 0 variable.cells) (elements_from (suc number) store)
    ∙ ap (λ b. b || list_any (same_element x) (elements_from (suc number) store)) found
among-elements number (variable ∷ store) (suc v) p at is some =
    let x : ElementId = record { variable = at; position = p } in
    list_any-append (same_element x) (cells_from number 0 variable.cells) (elements_from (suc number) store)
    ∙ either (list_any (same_element x) (cells_from number 0 variable.cells)) (list_any (same_element x) (elements_from (suc number) store))
    (among-elements (suc number) store v p at (omega arith) some)
  where
    either : (a b : Bool) → b ≡ true → (a || b) ≡ true
    either true b e = refl
    either false b e = e

-- Each element that has a cell is among the elements of the store.
pub elements-complete : (store : Store) (x : ElementId) → is_some (cell_of store x) ≡ true → list_any (same_element x) (elements_of store) ≡ true
unfolding cell_of
elements-complete store x some = among-elements 0 store x.variable x.position x.variable (omega arith) some
