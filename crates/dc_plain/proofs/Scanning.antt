-- The marks are scanned in store order.
use Rattle.std.proofs.Common.{◌≡◌, ℕ, zero, suc, ◌+◌, List, [], ◌∷◌, ◌++◌, Option, Some, None, refl, sym, ap, ◌∙◌, arith, slice_get, subst, length, map, replicate}
use Rattle.std.specs.Prelude.{option_map, option_and_then, ℤ}
use Rattle.std.proofs.lemmas.Option.{none-some, same_Some, slice_get-map}
use Rattle.std.proofs.lemmas.List.{length-map}
use Rattle.dc_int.specs.declared.access.ElementId.{ElementId}
use Rattle.dc_int.specs.Entries.{Entry, Reads, Defines, Undefines, Contributes}
use Rattle.dc_int.specs.Store.{Store, Variable, cells_from, elements_from, elements_of, changed_at}
use Rattle.dc_plain.specs.Marks.{marked_runs, Mark, Marks, Named, blank, blank_row, blank_marks, marked, marked_all, named_by, or_named, named_in_row, named_from}
use Rattle.dc_plain.proofs.Marking.{mark_in, mark_of_runs, mark-entries, marks-are, by_entries}
use Rattle.dc_plain.proofs.Clashing.{scan, scan-first, NamesFirst}

-- ---- rows against cells

-- an element by its variable and position
abbrev at : ℕ → ℕ → ElementId
at variable position = record { variable = variable; position = position }

named-none : (told : Option Named) → or_named told None ≡ told
named-none None = refl
named-none (Some n) = refl

named-assoc : (a b c : Option Named) → or_named (or_named a b) c ≡ or_named a (or_named b c)
named-assoc None b c = refl
named-assoc (Some n) b c = refl

scan-append : (told : ElementId → Option Named) (xs ys : List ElementId) → scan told (xs ++ ys) ≡ or_named (scan told xs) (scan told ys)
scan-append told [] ys = refl
scan-append told (x ∷ xs) ys = ap (or_named (told x)) (scan-append told xs ys) ∙ sym (named-assoc (told x) (scan told xs) (scan told ys))

-- the row has the marks of a variable's cells, from a position on
unfoldable pub IsRow : (ElementId → Mark) → ℕ → ℕ → List Mark → List (Option ℤ) → Type 0
IsRow m v p row cells = (k : ℕ) → slice_get row k ≡ option_map (λ state. m (at v (p + k))) (slice_get cells k)

row-scanned : (m : ElementId → Mark) (v p : ℕ) (row : List Mark) (cells : List (Option ℤ)) → IsRow m v p row cells
    → named_in_row v p row ≡ scan (λ x. named_by x (m x)) (cells_from v p cells)
unfolding IsRow
row-scanned m v p [] [] is = refl
row-scanned m v p [] (state ∷ cells) is = absurd (none-some (m (at v (p + 0))) (is 0))
row-scanned m v p (mark ∷ row) [] is = absurd (none-some mark (sym (is 0)))
row-scanned m v p (mark ∷ row) (state ∷ cells) is =
    let first : mark ≡ m (at v p) = same_Some mark (m (at v p)) (is 0 ∙ (λ i. Some (m (at v (plus-none i))))) in
    (λ i. or_named (named_by (at v p) (first i)) (named_in_row v (suc p) row))
    ∙ ap (or_named (named_by (at v p) (m (at v p)))) (row-scanned m v (suc p) row cells (λ k. is (suc k) ∙ (λ i. option_map (λ s. m (at v (plus-one k i))) (slice_get cells k))))
  where
    plus-none : p + 0 ≡ p
    plus-none = omega arith

    plus-one : (k : ℕ) → p + suc k ≡ suc p + k
    plus-one k = omega arith

-- the marks have those of a store's elements, from a variable on
pub record AreMarks (m : ElementId → Mark) (v : ℕ) (marks : Marks) (store : Store) : Type 0 where
  pub long : length marks ≡ length store
  pub rows : (k : ℕ) (row : List Mark) (variable : Variable) → slice_get marks k ≡ Some row → slice_get store k ≡ Some variable → IsRow m (v + k) 0 row variable.cells

marks-scanned : (m : ElementId → Mark) (v : ℕ) (marks : Marks) (store : Store) → AreMarks m v marks store → named_from v marks ≡ scan (λ x. named_by x (m x)) (elements_from v store)
marks-scanned m v [] [] are = refl
marks-scanned m v [] (variable ∷ store) are = absurd (zero-suc are.long)
  where
    zero-suc : length {A = List Mark} [] ≡ length (variable ∷ store) → ⊥
    zero-suc e = omega (arith, e)
marks-scanned m v (row ∷ marks) [] are = absurd (suc-zero are.long)
  where
    suc-zero : length (row ∷ marks) ≡ length {A = Variable} [] → ⊥
    suc-zero e = omega (arith, e)
marks-scanned m v (row ∷ marks) (variable ∷ store) are = joined (marks-scanned m (suc v) marks store further)
  where
    here : IsRow m v 0 row variable.cells
    here = subst (λ number. IsRow m number 0 row variable.cells) (omega arith) (are.rows 0 row variable refl refl)

    first : named_in_row v 0 row ≡ scan (λ x. named_by x (m x)) (cells_from v 0 variable.cells)
    first = row-scanned m v 0 row variable.cells here

    shorter : length marks ≡ length store
    shorter = let long = are.long in omega (arith, long)

    further : AreMarks m (suc v) marks store
    further = record { long = shorter; rows = λ k r w r_is w_is. subst (λ u. IsRow m u 0 r w.cells) (omega arith) (are.rows (suc k) r w r_is w_is) }

    joined : named_from (suc v) marks ≡ scan (λ x. named_by x (m x)) (elements_from (suc v) store)
        → named_from v (row ∷ marks) ≡ scan (λ x. named_by x (m x)) (elements_from v (variable ∷ store))
    joined rest = (λ i. or_named (first i) (rest i)) ∙ sym (scan-append (λ x. named_by x (m x)) (cells_from v 0 variable.cells) (elements_from (suc v) store))

-- ---- the marks after some iterations, each by its place

length-changed : {B : Type 0} (change : B → B) (items : List B) (n : ℕ) → length (changed_at change items n) ≡ length items
length-changed change [] n = refl
length-changed change (item ∷ items) zero = refl
length-changed change (item ∷ items) (suc n) = ap (λ k. suc k) (length-changed change items n)

lengths-changed : (change : Mark → Mark) (marks : Marks) (v p : ℕ) → map length (changed_at (λ row. changed_at change row p) marks v) ≡ map length marks
lengths-changed change [] v p = refl
lengths-changed change (row ∷ marks) zero p = ap (λ n. n ∷ map length marks) (length-changed change row p)
lengths-changed change (row ∷ marks) (suc v) p = ap (λ ns. length row ∷ ns) (lengths-changed change marks v p)

lengths-marked : (n : ℕ) (entry : Entry) (marks : Marks) → map length (marked n entry marks) ≡ map length marks
lengths-marked n (Reads x line) marks = lengths-changed _ marks x.variable x.position
lengths-marked n (Defines x value line) marks = lengths-changed _ marks x.variable x.position
lengths-marked n (Undefines x line) marks = lengths-changed _ marks x.variable x.position
lengths-marked n (Contributes x op value) marks = refl

lengths-marked_all : (n : ℕ) (entries : List Entry) (marks : Marks) → map length (marked_all n entries marks) ≡ map length marks
lengths-marked_all n [] marks = refl
lengths-marked_all n (entry ∷ entries) marks = lengths-marked_all n entries (marked n entry marks) ∙ lengths-marked n entry marks

-- Marks change no row's length.
pub lengths-runs : (n : ℕ) (runs : List (List Entry)) (marks : Marks) → map length (marked_runs n runs marks) ≡ map length marks
lengths-runs n [] marks = refl
lengths-runs n (run ∷ runs) marks = lengths-runs (suc n) runs (marked_all n run marks) ∙ lengths-marked_all n run marks

length-runs : (n : ℕ) (runs : List (List Entry)) (marks : Marks) → length (marked_runs n runs marks) ≡ length marks
length-runs n runs marks =
    sym (length-map (marked_runs n runs marks) length) ∙ ap length (lengths-runs n runs marks) ∙ length-map marks length

-- the cell of an element
abbrev cell_in : Store → ElementId → Option (Option ℤ)
cell_in store x = option_and_then (λ v. slice_get v.cells x.position) (slice_get store x.variable)

blank-row : (cells : List (Option ℤ)) (p : ℕ) → slice_get (replicate (length cells) blank) p ≡ option_map (λ state. blank) (slice_get cells p)
blank-row [] p = refl
blank-row (state ∷ cells) zero = refl
blank-row (state ∷ cells) (suc p) = blank-row cells p

blank-in : (store : Store) (x : ElementId) → mark_in (blank_marks store) x ≡ option_map (λ state. blank) (cell_in store x)
blank-in store x = ap (option_and_then (λ row. slice_get row x.position)) (slice_get-map blank_row store x.variable) ∙ by_variable (slice_get store x.variable)
  where
    by_variable : (v : Option Variable) → option_and_then (λ row. slice_get row x.position) (option_map blank_row v) ≡ option_map (λ state. blank) (option_and_then (λ w. slice_get w.cells x.position) v)
    by_variable None = refl
    by_variable (Some v) = blank-row v.cells x.position

runs-none : (x : ElementId) (n : ℕ) (runs : List (List Entry)) (marks : Marks) → mark_in marks x ≡ None → mark_in (marked_runs n runs marks) x ≡ None
runs-none x n [] marks none = none
runs-none x n (run ∷ runs) marks none = runs-none x (suc n) runs (marked_all n run marks) (mark-entries x n run marks ∙ ap (option_map (by_entries x n run)) none)

runs-in : (store : Store) (runs : List (List Entry)) (x : ElementId) → mark_in (marked_runs 0 runs (blank_marks store)) x ≡ option_map (λ state. mark_of_runs x runs) (cell_in store x)
runs-in store runs x = by_cell (cell_in store x) (blank-in store x)
  where
    by_cell : (cell : Option (Option ℤ)) → mark_in (blank_marks store) x ≡ option_map (λ state. blank) cell
        → mark_in (marked_runs 0 runs (blank_marks store)) x ≡ option_map (λ state. mark_of_runs x runs) cell
    by_cell None is = runs-none x 0 runs (blank_marks store) is
    by_cell (Some state) is = marks-are x runs (blank_marks store) is

pub marks-stand : (store : Store) (runs : List (List Entry)) → AreMarks (λ x. mark_of_runs x runs) 0 (marked_runs 0 runs (blank_marks store)) store
unfolding IsRow
marks-stand store runs = record {
  long = length-runs 0 runs (blank_marks store) ∙ length-map store blank_row;
  rows = λ k row variable row_is variable_is p.
      ap (option_and_then (λ r. slice_get r p)) (sym row_is) ∙ runs-in store runs (at k p)
      ∙ ap (λ w. option_map (λ state. mark_of_runs (at k p) runs) (option_and_then (λ v. slice_get v.cells p) w)) variable_is
      ∙ (λ i. option_map (λ state. mark_of_runs (at (none-before k i) (none-before p i)) runs) (slice_get variable.cells p));
}
  where
    none-before : (n : ℕ) → n ≡ 0 + n
    none-before n = omega arith

-- The marks that the iterations of a loop leave name the least clashing element in store order, and its
-- pair.
pub marks-name : (store : Store) (runs : List (List Entry)) → NamesFirst runs (elements_of store) (named_from 0 (marked_runs 0 runs (blank_marks store)))
marks-name store runs =
    subst (NamesFirst runs (elements_of store)) (sym (marks-scanned (λ x. mark_of_runs x runs) 0 (marked_runs 0 runs (blank_marks store)) store (marks-stand store runs)))
    (scan-first runs (elements_of store))
