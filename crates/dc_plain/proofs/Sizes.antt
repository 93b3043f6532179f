-- How large the store of a program is that is run, and what keeps its size.
use Rattle.std.proofs.Common.{◌≡◌, ℕ, zero, suc, ◌<◌, ◌≤◌, Bool, true, false, ◌&&◌, List, [], ◌∷◌, length, map, take, drop, Option, Some, None, refl, sym, ap, ◌∙◌, arith, subst, slice_get, IsTrue}
use Rattle.std.specs.Prelude.{ℤ, Vec, slice_index_or, if◌then◌else◌, nat_le, nat_eq}
use Rattle.std.specs.List.{list_all}
use Rattle.std.proofs.lemmas.Bool.{false≢true, and_parts, leb-true, eqb-true}
use Rattle.std.proofs.lemmas.List.{length-map, length-set, length-replicate, length-take}
use Rattle.std.proofs.lemmas.Option.{none-some, same_Some, slice_get_within}
use Rattle.dc_int.specs.declared.access.ElementId.{ElementId}
use Rattle.dc_int.specs.Entries.{Entry}
use Rattle.dc_int.specs.Store.{Bounds, Store, Variable, with_cell, changed_at, put_at, elements_in}
use Rattle.dc_tree.specs.declared.symbols.Role.{Role}
use Rattle.dc_tree.specs.declared.symbols.Symbol.{Symbol}
use Rattle.dc_form.specs.BuiltPrograms.{is_filled, is_built_symbol, is_built_role, role_elements, elements_of_all, are_built_symbols}
use Rattle.dc_plain.specs.declared.marks.Mark as code
use Rattle.dc_plain.specs.FirstStores.{begun, first_cells, first_store}
use Rattle.dc_plain.specs.Marks.{Mark, Marks, marked_runs, blank, blank_marks, is_twice, forget_in_row, forget_from}
use Rattle.dc_plain.specs.MarkViews.{mark_of, row_of, marks_of, FitStore}
use Rattle.dc_plain.specs.Sizes.{size_of, sizes_of, FitSizes}
use Rattle.dc_plain.specs.Views.{store_with}
use Rattle.dc_plain.proofs.FirstStores.{first-more}
use Rattle.dc_plain.proofs.Scanning.{lengths-runs}

-- ---- writes

sizes-changed : (store : Store) (v p : ℕ) (state : Option ℤ) → sizes_of (changed_at (with_cell p state) store v) ≡ sizes_of store
sizes-changed [] v p state = refl
sizes-changed (variable ∷ store) zero p state = ap (λ n. n ∷ sizes_of store) (length-set variable.cells p state)
sizes-changed (variable ∷ store) (suc v) p state = ap (λ ns. size_of variable ∷ ns) (sizes-changed store v p state)

pub sizes-put : (store : Store) (x : ElementId) (state : Option ℤ) → sizes_of (put_at store x state) ≡ sizes_of store
unfolding put_at
sizes-put store x state = sizes-changed store x.variable x.position state

sizes-row : (v p : ℕ) (row : List Mark) (store : Store) → sizes_of (forget_in_row v p row store) ≡ sizes_of store
sizes-row v p [] store = refl
sizes-row v p (mark ∷ row) store = sizes-row v (suc p) row (left (is_twice mark)) ∙ kept (is_twice mark)
  where
    left : Bool → Store
    left b = if b then put_at store (record { variable = v; position = p }) None else store

    kept : (b : Bool) → sizes_of (left b) ≡ sizes_of store
    kept true = sizes-put store (record { variable = v; position = p }) None
    kept false = refl

pub sizes-forgotten : (v : ℕ) (marks : Marks) (store : Store) → sizes_of (forget_from v marks store) ≡ sizes_of store
sizes-forgotten v [] store = refl
sizes-forgotten v (row ∷ marks) store = sizes-forgotten (suc v) marks (forget_in_row v 0 row store) ∙ sizes-row v 0 row store

-- ---- marks

sizes-blank : (store : Store) → map length (blank_marks store) ≡ sizes_of store
sizes-blank [] = refl
sizes-blank (variable ∷ store) =
    ap (λ n. n ∷ map length (blank_marks store)) (length-replicate (length variable.cells) blank) ∙ ap (λ ns. size_of variable ∷ ns) (sizes-blank store)

module _ {A : Type 0} where
  abbrev widths : List (Vec code.Mark A) → List ℕ
  widths rows = map length (marks_of rows)

  width-at : (rows : List (Vec code.Mark A)) (k : ℕ) (d : Vec code.Mark A) → k < length rows → slice_get (widths rows) k ≡ Some (length (slice_index_or rows k d).items)
  width-at [] k d within = absurd (omega (arith, within))
  width-at (row ∷ rows) zero d within = ap (λ n. Some n) (length-map row.items mark_of)
  width-at (row ∷ rows) (suc k) d within = width-at rows k d (omega (arith, within))

  length-widths : (rows : List (Vec code.Mark A)) → length (widths rows) ≡ length rows
  length-widths rows = length-map (marks_of rows) length ∙ length-map rows row_of

  fit-widths : (rows : List (Vec code.Mark A)) → FitSizes (widths rows) → FitStore rows
  fit-widths rows fit = record {
    few = let few = fit.few in let long = length-widths rows in omega (arith, few, long);
    short = λ k d within. fit.short k (length (slice_index_or rows k d).items) (width-at rows k d within);
  }

  widths-fit : (rows : List (Vec code.Mark A)) → FitStore rows → FitSizes (widths rows)
  widths-fit rows fit = record {
    few = let few = fit.few in let long = length-widths rows in omega (arith, few, long);
    short = by rows fit;
  }
    where
      by : (all : List (Vec code.Mark A)) → FitStore all → (k n : ℕ) → slice_get (widths all) k ≡ Some n → n ≤ 4194304
      by [] given k n found = absurd (none-some n found)
      by (row ∷ others) given k n found =
          let inside = slice_get_within (widths (row ∷ others)) k n found in
          let long = length-widths (row ∷ others) in
          let within : k < length (row ∷ others) = omega (arith, inside, long) in
          subst (λ m. m ≤ 4194304) (same_Some _ n (sym (width-at (row ∷ others) k row within) ∙ found)) (given.short k row within)

  -- Blank marks are no more than the cells of the store.
  pub fit-blank : (rows : List (Vec code.Mark A)) (store : Store) → marks_of rows ≡ blank_marks store → FitSizes (sizes_of store) → FitStore rows
  fit-blank rows store is fit = fit-widths rows (subst FitSizes (sym (ap (map length) is ∙ sizes-blank store)) fit)

  -- Nor are the marks after some iterations.
  pub fit-runs
      : (n : ℕ) (runs : List (List Entry)) (before after : List (Vec code.Mark A)) → marks_of after ≡ marked_runs n runs (marks_of before) → FitStore before
      → FitStore after
  fit-runs n runs before after is fit =
      fit-widths after (subst FitSizes (sym (ap (map length) is ∙ lengths-runs n runs (marks_of before))) (widths-fit before fit))

-- ---- the store of a built program

-- The store has no more variables than there are symbols, and no variable has more cells than all together.
record IsWithin (symbols : List Symbol) (store : Store) : Type 0 where
  few : length store ≤ length symbols
  short : (k n : ℕ) → slice_get (sizes_of store) k ≡ Some n → n ≤ elements_of_all symbols

within-none : IsWithin [] []
within-none = record { few = omega arith; short = λ k n found. absurd (none-some n found) }

within-other : (symbol : Symbol) (rest : List Symbol) (store all : Store) → IsWithin rest store → all ≡ store → IsWithin (symbol ∷ rest) all
within-other symbol rest store all later is = subst (IsWithin (symbol ∷ rest)) (sym is) (record {
  few = let few = later.few in omega (arith, few);
  short = λ k n found. let short = later.short k n found in omega (arith, short);
})

within-more
    : (symbol : Symbol) (rest : List Symbol) (variable : Variable) (store all : Store) → IsWithin rest store → size_of variable ≤ role_elements symbol.role
    → all ≡ variable ∷ store → IsWithin (symbol ∷ rest) all
within-more symbol rest variable store all later own is = subst (IsWithin (symbol ∷ rest)) (sym is) (record {
  few = let few = later.few in omega (arith, few);
  short = short;
})
  where
    short : (k n : ℕ) → slice_get (sizes_of (variable ∷ store)) k ≡ Some n → n ≤ elements_of_all (symbol ∷ rest)
    short zero n found = let same = same_Some (size_of variable) n found in omega (arith, own, same)
    short (suc k) n found = let later_short = later.short k n found in omega (arith, later_short)

own-elements : (symbol : Symbol) (logical : Bool) (kind : _) (bounds : Bounds) (initial : List ℤ) → symbol.role ≡ Role.Variable logical kind bounds initial → role_elements symbol.role ≡ elements_in bounds
own-elements symbol logical kind bounds initial is = ap role_elements is

with-within : (symbols : List Symbol) (states : List (Option ℤ)) → IsWithin symbols (store_with symbols states)
with-within [] states = within-none
with-within (symbol ∷ rest) states = by (with-within rest) symbol.role refl
  where
    other : IsWithin rest (store_with rest states) → store_with (symbol ∷ rest) states ≡ store_with rest states → IsWithin (symbol ∷ rest) (store_with (symbol ∷ rest) states)
    other later is = within-other symbol rest (store_with rest states) (store_with (symbol ∷ rest) states) later is

    by : ((left : List (Option ℤ)) → IsWithin rest (store_with rest left)) → (role : Role) → symbol.role ≡ role → IsWithin (symbol ∷ rest) (store_with (symbol ∷ rest) states)
    by all (Role.Variable logical kind bounds initial) is =
        let size = elements_in bounds in
        let own = own-elements symbol logical kind bounds initial is in
        let cut = length-take size states in
        let later = all (drop size states) in
        within-more symbol rest (record { bounds = Some bounds; cells = take size states }) (store_with rest (drop size states)) (store_with (symbol ∷ rest) states) later
        (omega (arith, own, cut)) (rw is refl)
    by all (Role.Constant logical kind value) is = other (all states) (rw is refl)
    by all (Role.Dummy place logical kind intent) is = other (all states) (rw is refl)
    by all (Role.Result logical kind) is = other (all states) (rw is refl)
    by all (Role.Function procedure) is = other (all states) (rw is refl)
    by all (Role.Subroutine procedure) is = other (all states) (rw is refl)

first-size : (bounds : Bounds) (initial : List ℤ) → is_filled bounds initial ≡ true → length (first_cells bounds initial) ≡ elements_in bounds
first-size bounds [] filled = length-replicate (elements_in bounds) None
first-size bounds (z ∷ initial) filled = length-map (z ∷ initial) (λ z. Some z) ∙ eqb-true (length (z ∷ initial)) (elements_in bounds) filled

first-within : (symbols : List Symbol) → list_all is_built_symbol symbols ≡ true → IsWithin symbols (first_store symbols)
first-within [] built = within-none
first-within (symbol ∷ rest) built = by (first-within rest) symbol.role refl
  where
    parts : (is_built_symbol symbol ≡ true) × (list_all is_built_symbol rest ≡ true)
    parts = and_parts (is_built_symbol symbol) (list_all is_built_symbol rest) built

    own : (nat_eq symbol.scope 0 ≡ true) × (is_built_role symbol.role ≡ true)
    own = and_parts (nat_eq symbol.scope 0) (is_built_role symbol.role) parts.0

    of_role : (role : Role) → symbol.role ≡ role → is_built_role role ≡ true
    of_role role is = ap is_built_role (sym is) ∙ own.1

    by : (list_all is_built_symbol rest ≡ true → IsWithin rest (first_store rest)) → (role : Role) → symbol.role ≡ role → IsWithin (symbol ∷ rest) (first_store (symbol ∷ rest))
    by all (Role.Variable logical kind bounds initial) is =
        let size = own-elements symbol logical kind bounds initial is in
        let filled = first-size bounds initial (of_role (Role.Variable logical kind bounds initial) is) in
        within-more symbol rest (begun bounds initial) (first_store rest) (first_store (symbol ∷ rest)) (all parts.1) (omega (arith, size, filled))
        (first-more symbol rest logical kind bounds initial own.0 is)
    by all (Role.Constant logical kind value) is = within-other symbol rest (first_store rest) (first_store (symbol ∷ rest)) (all parts.1) (rw (own.0, is) refl)
    by all (Role.Dummy place logical kind intent) is = absurd (false≢true (of_role (Role.Dummy place logical kind intent) is))
    by all (Role.Result logical kind) is = absurd (false≢true (of_role (Role.Result logical kind) is))
    by all (Role.Function procedure) is = absurd (false≢true (of_role (Role.Function procedure) is))
    by all (Role.Subroutine procedure) is = absurd (false≢true (of_role (Role.Subroutine procedure) is))

fit-within : (symbols : List Symbol) (store : Store) → are_built_symbols symbols ≡ true → IsWithin symbols store → FitSizes (sizes_of store)
fit-within symbols store built within = record { few = few; short = short }
  where
    parts : (nat_le (length symbols) 1048576 ≡ true) × ((list_all is_built_symbol symbols && nat_le (elements_of_all symbols) 4194304) ≡ true)
    parts = and_parts _ _ built

    all : nat_le (elements_of_all symbols) 4194304 ≡ true
    all = (and_parts (list_all is_built_symbol symbols) (nat_le (elements_of_all symbols) 4194304) parts.1).1

    few : length (sizes_of store) ≤ 4194304
    few =
        let names = leb-true (length symbols) 1048576 parts.0 in
        let long = length-map store size_of in
        let below = within.few in
        omega (arith, names, long, below)

    short : (k n : ℕ) → slice_get (sizes_of store) k ≡ Some n → n ≤ 4194304
    short k n found =
        let below = within.short k n found in
        let elements = leb-true (elements_of_all symbols) 4194304 all in
        omega (arith, below, elements)

-- The store of a built program fits, with any states and with its initial values.
pub fit-with : (symbols : List Symbol) (states : List (Option ℤ)) → IsTrue (are_built_symbols symbols) → FitSizes (sizes_of (store_with symbols states))
fit-with symbols states built = fit-within symbols (store_with symbols states) built (with-within symbols states)

pub fit-first : (symbols : List Symbol) → IsTrue (are_built_symbols symbols) → FitSizes (sizes_of (first_store symbols))
fit-first symbols built =
    let parts = and_parts (nat_le (length symbols) 1048576) _ built in
    fit-within symbols (first_store symbols) built (first-within symbols (and_parts (list_all is_built_symbol symbols) _ parts.1).0)
