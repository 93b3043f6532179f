-- The elements that two iterations touch become undefined, in store order.
use Rattle.std.proofs.Common.{◌≡◌, ℕ, suc, ◌+◌, Bool, true, false, cond, not, ◌&&◌, ◌||◌, List, [], ◌∷◌, ◌++◌, Option, Some, None, refl, sym, ap, ◌∙◌, arith, slice_get, subst, length, map}
use Rattle.std.specs.Prelude.{option_map, if◌then◌else◌, ◌==◌, filter, is_some, ℤ}
use Rattle.std.specs.List.{list_any}
use Rattle.std.proofs.lemmas.List.{map-append}
use Rattle.std.proofs.lemmas.List.Elements.{filter-append}
use Rattle.std.proofs.lemmas.Option.{none-some, same_Some}
use Rattle.dc_int.specs.declared.access.ElementId.{ElementId}
use Rattle.dc_int.specs.Entries.{Entry, Undefines, touches, store_after}
use Rattle.dc_int.specs.Store.{Store, Variable, cells_from, elements_from, elements_of, put_at}
use Rattle.dc_code.specs.Closing.{is_touched_twice}
use Rattle.dc_code.specs.Pairs.{Ends, widened, ends_of}
use Rattle.dc_plain.specs.Marks.{marked_runs, Mark, Marks, blank_marks, is_twice, forget_in_row, forget_from}
use Rattle.dc_plain.proofs.Marking.{mark_of_runs}
use Rattle.dc_plain.proofs.Scanning.{IsRow, AreMarks, marks-stand}

-- ---- an element's mark tells whether two iterations touch it

any-ends : (test : List Entry → Bool) (runs : List (List Entry)) → list_any test runs ≡ is_some (ends_of test runs)
any-ends test [] = refl
any-ends test (run ∷ runs) = ap (λ b. test run || b) (any-ends test runs) ∙ by_test (test run) (ends_of test runs)
  where
    by_test : (b : Bool) (later : Option Ends) → (b || is_some later) ≡ is_some (widened b later)
    by_test true None = refl
    by_test true (Some e) = refl
    by_test false None = refl
    by_test false (Some e) = refl

abbrev are_two : Option Ends → Bool
are_two None = false
are_two (Some e) = not (e.least == e.greatest)

twice-ends : (x : ElementId) (runs : List (List Entry)) → is_touched_twice x runs ≡ are_two (ends_of (touches x) runs)
twice-ends x [] = refl
twice-ends x (run ∷ runs) = (λ i. (touches x run && any-ends (touches x) runs i) || twice-ends x runs i) ∙ by_test (touches x run) (ends_of (touches x) runs)
  where
    by_test : (b : Bool) (later : Option Ends) → ((b && is_some later) || are_two later) ≡ are_two (widened b later)
    by_test true None = refl
    by_test true (Some e) = search (arith)
    by_test false None = refl
    by_test false (Some e) = search (arith)

-- ---- in store order

abbrev at : ℕ → ℕ → ElementId
at variable position = record { variable = variable; position = position }

abbrev undefined_at : ℕ → (ElementId → Bool) → List ElementId → Store → Store
undefined_at line twice elements store = store_after (map (λ x. Undefines x line) (filter twice elements)) store

after-append : (entries later : List Entry) (store : Store) → store_after (entries ++ later) store ≡ store_after later (store_after entries store)
after-append [] later store = refl
after-append (entry ∷ entries) later store = after-append entries later _

undefined-append : (line : ℕ) (twice : ElementId → Bool) (xs ys : List ElementId) (store : Store)
    → undefined_at line twice (xs ++ ys) store ≡ undefined_at line twice ys (undefined_at line twice xs store)
undefined-append line twice xs ys store =
    ap (λ es. store_after es store) (ap (map (λ x. Undefines x line)) (filter-append twice xs ys) ∙ map-append (λ x. Undefines x line) (filter twice xs) (filter twice ys))
    ∙ after-append (map (λ x. Undefines x line) (filter twice xs)) (map (λ x. Undefines x line) (filter twice ys)) store

-- one element of the list first
undefined-first : (line : ℕ) (twice : ElementId → Bool) (x : ElementId) (xs : List ElementId) (store : Store)
    → undefined_at line twice (x ∷ xs) store ≡ undefined_at line twice xs (if twice x then put_at store x None else store)
undefined-first line twice x xs store = by_test (twice x)
  where
    by_test : (b : Bool) → store_after (map (λ y. Undefines y line) (cond b (x ∷ filter twice xs) (filter twice xs))) store ≡ undefined_at line twice xs (if b then put_at store x None else store)
    by_test true = refl
    by_test false = refl

row-forgotten : (m : ElementId → Mark) (line v p : ℕ) (row : List Mark) (cells : List (Option ℤ)) (store : Store) → IsRow m v p row cells
    → forget_in_row v p row store ≡ undefined_at line (λ x. is_twice (m x)) (cells_from v p cells) store
unfolding IsRow
row-forgotten m line v p [] [] store is = refl
row-forgotten m line v p [] (state ∷ cells) store is = absurd (none-some (m (at v (p + 0))) (is 0))
row-forgotten m line v p (mark ∷ row) [] store is = absurd (none-some mark (sym (is 0)))
row-forgotten m line v p (mark ∷ row) (state ∷ cells) store is =
    let first : mark ≡ m (at v p) = same_Some mark (m (at v p)) (is 0 ∙ (λ i. Some (m (at v (plus-none i))))) in
    (λ i. forget_in_row v (suc p) row (if is_twice (first i) then put_at store (at v p) None else store))
    ∙ row-forgotten m line v (suc p) row cells (if is_twice (m (at v p)) then put_at store (at v p) None else store)
    (λ k. is (suc k) ∙ (λ i. option_map (λ s. m (at v (plus-one k i))) (slice_get cells k)))
    ∙ sym (undefined-first line (λ x. is_twice (m x)) (at v p) (cells_from v (suc p) cells) store)
  where
    plus-none : p + 0 ≡ p
    plus-none = omega arith

    plus-one : (k : ℕ) → p + suc k ≡ suc p + k
    plus-one k = omega arith

marks-forgotten : (m : ElementId → Mark) (line v : ℕ) (marks : Marks) (shape store : Store) → AreMarks m v marks shape
    → forget_from v marks store ≡ undefined_at line (λ x. is_twice (m x)) (elements_from v shape) store
marks-forgotten m line v [] [] store are = refl
marks-forgotten m line v [] (variable ∷ shape) store are = absurd (zero-suc are.long)
  where
    zero-suc : length {A = List Mark} [] ≡ length (variable ∷ shape) → ⊥
    zero-suc e = omega (arith, e)
marks-forgotten m line v (row ∷ marks) [] store are = absurd (suc-zero are.long)
  where
    suc-zero : length (row ∷ marks) ≡ length {A = Variable} [] → ⊥
    suc-zero e = omega (arith, e)
marks-forgotten m line v (row ∷ marks) (variable ∷ shape) store are = joined (λ s. marks-forgotten m line (suc v) marks shape s further)
  where
    twice : ElementId → Bool
    twice x = is_twice (m x)

    here : IsRow m v 0 row variable.cells
    here = subst (λ number. IsRow m number 0 row variable.cells) (omega arith) (are.rows 0 row variable refl refl)

    shorter : length marks ≡ length shape
    shorter = let long = are.long in omega (arith, long)

    further : AreMarks m (suc v) marks shape
    further = record { long = shorter; rows = λ k r w r_is w_is. subst (λ u. IsRow m u 0 r w.cells) (omega arith) (are.rows (suc k) r w r_is w_is) }

    first : forget_in_row v 0 row store ≡ undefined_at line (λ x. is_twice (m x)) (cells_from v 0 variable.cells) store
    first = row-forgotten m line v 0 row variable.cells store here

    joined : ((s : Store) → forget_from (suc v) marks s ≡ undefined_at line (λ x. is_twice (m x)) (elements_from (suc v) shape) s)
        → forget_from v (row ∷ marks) store ≡ undefined_at line (λ x. is_twice (m x)) (elements_from v (variable ∷ shape)) store
    joined rest =
        rest (forget_in_row v 0 row store) ∙ ap (undefined_at line (λ x. is_twice (m x)) (elements_from (suc v) shape)) first
        ∙ sym (undefined-append line (λ x. is_twice (m x)) (cells_from v 0 variable.cells) (elements_from (suc v) shape) store)

-- Forgetting by the marks of some iterations makes the elements undefined that two of them touch, in store
-- order.
pub forgotten-is : (line : ℕ) (shape store : Store) (runs : List (List Entry))
    → forget_from 0 (marked_runs 0 runs (blank_marks shape)) store ≡ store_after (map (λ x. Undefines x line) (filter (λ x. is_touched_twice x runs) (elements_of shape))) store
forgotten-is line shape store runs =
    marks-forgotten (λ x. mark_of_runs x runs) line 0 (marked_runs 0 runs (blank_marks shape)) shape store (marks-stand shape runs)
    ∙ (λ i. store_after (map (λ x. Undefines x line) (filter (λ x. (sym (twice-ends x runs)) i) (elements_of shape))) store)
