-- Runs in another order: they break and touch the same, and leave the same of each element that at most one
-- of them touches.
use Rattle.std.proofs.Common.{◌≡◌, ℕ, Bool, true, false, cond, ◌&&◌, ◌||◌, List, [], ◌∷◌, length, Option, Some, None, refl, sym, ap, ◌∙◌}
use Rattle.std.proofs.lemmas.Bool.{false≢true}
use Rattle.std.proofs.lemmas.Iterator.Adapters.{option_map_id}
use Rattle.std.specs.Prelude.{ℤ, option_map}
use Rattle.std.specs.List.{list_any}
use Rattle.std.specs.List.Sorted.{IsPermutation}
use Rattle.dc_int.specs.declared.access.ElementId.{ElementId}
use Rattle.dc_int.specs.declared.variable.Locality.{Locality}
use Rattle.dc_int.specs.Entries.{Entry, reads, touches, exposes, store_after, state_after}
use Rattle.dc_int.specs.Store.{Store, cell_of, value_at, bounds_of, elements_of}
use Rattle.dc_int.proofs.Fits.{bounds-after}
use Rattle.dc_int.proofs.Elements.{length-after, elements-after}
use Rattle.dc_int.proofs.Stores.{cell-after, state-after}
use Rattle.dc_code.specs.Breaks.{breaks, accesses}
use Rattle.dc_code.specs.Closing.{is_touched_twice}
use Rattle.dc_code.specs.Pairs.{clashes}
use Rattle.dc_code.proofs.Alone.{left_by, or-neither}
use Rattle.dc_code.proofs.Exchanges.{by_exchanges, some_pair, PassAlike, pass-alike, alike-under, alike-two}
use Rattle.dc_code.proofs.Stores.{value-untouched}

-- ---- clashes, and elements that are touched twice

or-comm : (a b : Bool) → (a || b) ≡ (b || a)
or-comm true true = refl
or-comm true false = refl
or-comm false true = refl
or-comm false false = refl

and-comm : (a b : Bool) → (a && b) ≡ (b && a)
and-comm true true = refl
and-comm true false = refl
and-comm false true = refl
and-comm false false = refl

breaks-either : (locality : Locality) (x : ElementId) (one other : List Entry) → breaks locality x one other ≡ breaks locality x other one
breaks-either Locality.Plain x one other = or-comm (touches x one && exposes x other) (touches x other && exposes x one)
breaks-either Locality.Shared x one other = or-comm (touches x one && accesses x other) (touches x other && accesses x one)
breaks-either locality x one other = refl

clashes-pair : (locality : Locality) (x : ElementId) (runs : List (List Entry)) → clashes locality x runs ≡ some_pair (breaks locality x) runs
clashes-pair locality x [] = refl
clashes-pair locality x (run ∷ runs) = ap (λ b. list_any (breaks locality x run) runs || b) (clashes-pair locality x runs)

-- An element clashes among runs and a permutation of them alike.
pub clashes-permuted
    : (locality : Locality) (x : ElementId) (runs others : List (List Entry)) → IsPermutation runs others
    → clashes locality x runs ≡ clashes locality x others
clashes-permuted locality x runs others permuted =
    clashes-pair locality x runs ∙ (pass-alike (breaks locality x) (breaks-either locality x) runs others permuted).pair
    ∙ sym (clashes-pair locality x others)

-- both touch the element
abbrev both : ElementId → List Entry → List Entry → Bool
both x one other = touches x one && touches x other

any-both : (b : Bool) (test : List Entry → Bool) (runs : List (List Entry)) → (b && list_any test runs) ≡ list_any (λ run. b && test run) runs
any-both true test runs = refl
any-both false test [] = refl
any-both false test (run ∷ runs) = any-both false test runs

twice-pair : (x : ElementId) (runs : List (List Entry)) → is_touched_twice x runs ≡ some_pair (both x) runs
twice-pair x [] = refl
twice-pair x (run ∷ runs) = (λ i. any-both (touches x run) (touches x) runs i || twice-pair x runs i)

-- An element is touched twice by runs and by a permutation of them alike.
pub twice-permuted
    : (x : ElementId) (runs others : List (List Entry)) → IsPermutation runs others → is_touched_twice x runs ≡ is_touched_twice x others
twice-permuted x runs others permuted =
    twice-pair x runs ∙ (pass-alike (both x) (λ one other. and-comm (touches x one) (touches x other)) runs others permuted).pair
    ∙ sym (twice-pair x others)

-- What is touched twice is touched.
pub twice-touched : (x : ElementId) (runs : List (List Entry)) → is_touched_twice x runs ≡ true → list_any (touches x) runs ≡ true
twice-touched x [] twice = twice
twice-touched x (run ∷ runs) twice = by (touches x run) twice (twice-touched x runs)
  where
    by
        : (b : Bool) → ((b && list_any (touches x) runs) || is_touched_twice x runs) ≡ true
        → (is_touched_twice x runs ≡ true → list_any (touches x) runs ≡ true)
        → (b || list_any (touches x) runs) ≡ true
    by true twice later = refl
    by false twice later = later twice

-- A SHARED element that is touched twice clashes.
pub twice-clashes : (x : ElementId) (runs : List (List Entry)) → is_touched_twice x runs ≡ true → clashes Locality.Shared x runs ≡ true
twice-clashes x runs twice = clashes-pair Locality.Shared x runs ∙ pairs runs (sym (twice-pair x runs) ∙ twice)
  where
    one_breaks : (one other : List Entry) → (touches x one && touches x other) ≡ true → breaks Locality.Shared x one other ≡ true
    one_breaks one other touched = by (touches x one) (touches x other) touched
      where
        by : (a b : Bool) → (a && b) ≡ true → ((a && (reads x other || b)) || (b && (reads x one || a))) ≡ true
        by true true e = ap (λ c. c || (reads x one || true)) (or-comm (reads x other) true)
        by true false e = absurd (false≢true e)
        by false b e = absurd (false≢true e)

    any_breaks
        : (run : List Entry) (runs : List (List Entry)) → list_any (both x run) runs ≡ true → list_any (breaks Locality.Shared x run) runs ≡ true
    any_breaks run [] e = e
    any_breaks run (other ∷ runs) e = by (both x run other) refl e (any_breaks run runs)
      where
        by
            : (b : Bool) → both x run other ≡ b → (b || list_any (both x run) runs) ≡ true
            → (list_any (both x run) runs ≡ true → list_any (breaks Locality.Shared x run) runs ≡ true)
            → (breaks Locality.Shared x run other || list_any (breaks Locality.Shared x run) runs) ≡ true
        by true is e later = ap (λ b. b || list_any (breaks Locality.Shared x run) runs) (one_breaks run other is)
        by false is e later =
            or-comm (breaks Locality.Shared x run other) (list_any (breaks Locality.Shared x run) runs)
            ∙ ap (λ b. b || breaks Locality.Shared x run other) (later e)

    pairs : (runs : List (List Entry)) → some_pair (both x) runs ≡ true → some_pair (breaks Locality.Shared x) runs ≡ true
    pairs [] e = e
    pairs (run ∷ runs) e = by (list_any (both x run) runs) refl e (pairs runs)
      where
        by
            : (b : Bool) → list_any (both x run) runs ≡ b → (b || some_pair (both x) runs) ≡ true
            → (some_pair (both x) runs ≡ true → some_pair (breaks Locality.Shared x) runs ≡ true)
            → (list_any (breaks Locality.Shared x run) runs || some_pair (breaks Locality.Shared x) runs) ≡ true
        by true is e later = ap (λ b. b || some_pair (breaks Locality.Shared x) runs) (any_breaks run runs is)
        by false is e later =
            or-comm (list_any (breaks Locality.Shared x run) runs) (some_pair (breaks Locality.Shared x) runs)
            ∙ ap (λ b. b || list_any (breaks Locality.Shared x run) runs) (later e)

-- ---- what runs leave

-- the state in which runs, one after another, leave an element that was in this state
abbrev pub state_left : ElementId → List (List Entry) → Option ℤ → Option ℤ
state_left x [] state = state
state_left x (run ∷ runs) state = state_left x runs (state_after x run state)

pub cell-left
    : (runs : List (List Entry)) (store : Store) (x : ElementId) → cell_of (left_by runs store) x ≡ option_map (state_left x runs) (cell_of store x)
cell-left [] store x = sym (option_map_id (cell_of store x))
cell-left (run ∷ runs) store x =
    cell-left runs (store_after run store) x ∙ ap (option_map (state_left x runs)) (cell-after run store x)
    ∙ by (cell_of store x)
  where
    by : (cell : Option (Option ℤ)) → option_map (state_left x runs) (option_map (state_after x run) cell) ≡ option_map (state_left x (run ∷ runs)) cell
    by None = refl
    by (Some state) = refl

pub elements-left : (runs : List (List Entry)) (store : Store) → elements_of (left_by runs store) ≡ elements_of store
elements-left [] store = refl
elements-left (run ∷ runs) store = elements-left runs (store_after run store) ∙ elements-after run store

pub length-left : (runs : List (List Entry)) (store : Store) → length (left_by runs store) ≡ length store
length-left [] store = refl
length-left (run ∷ runs) store = length-left runs (store_after run store) ∙ length-after run store

pub bounds-left : (runs : List (List Entry)) (store : Store) (variable : ℕ) → bounds_of (left_by runs store) variable ≡ bounds_of store variable
bounds-left [] store variable = refl
bounds-left (run ∷ runs) store variable = bounds-left runs (store_after run store) variable ∙ bounds-after run store variable

-- An element that no run touches has the value that it had.
pub value-left
    : (runs : List (List Entry)) (store : Store) (x : ElementId) → list_any (touches x) runs ≡ false
    → value_at (left_by runs store) x ≡ value_at store x
value-left [] store x apart = refl
value-left (run ∷ runs) store x apart =
    let each = or-neither (touches x run) (list_any (touches x) runs) apart in
    value-left runs (store_after run store) x each.1 ∙ sym (value-untouched run store x each.0)

untouched-state : (x : ElementId) (run : List Entry) (state : Option ℤ) → touches x run ≡ false → state_after x run state ≡ state
untouched-state x run state apart = state-after x run state ∙ ap (λ b. cond b (state_after x run None) state) apart

-- Two runs of which at most one touches an element leave the same in either order.
one-touches
    : (x : ElementId) (one other : List Entry) (state : Option ℤ) → both x one other ≡ false
    → state_after x other (state_after x one state) ≡ state_after x one (state_after x other state)
one-touches x one other state apart = by (touches x one) (touches x other) refl refl apart
  where
    by
        : (a b : Bool) → touches x one ≡ a → touches x other ≡ b → (a && b) ≡ false
        → state_after x other (state_after x one state) ≡ state_after x one (state_after x other state)
    by true true one_is other_is e = absurd (false≢true (sym e))
    by true false one_is other_is e =
        untouched-state x other (state_after x one state) other_is ∙ ap (state_after x one) (sym (untouched-state x other state other_is))
    by false b one_is other_is e =
        ap (state_after x other) (untouched-state x one state one_is) ∙ sym (untouched-state x one (state_after x other state) one_is)

-- Runs leave the same of an element that at most one of them touches.
record LeftAlike (x : ElementId) (runs others : List (List Entry)) : Type 0 where
  alike : PassAlike (both x) runs others
  left : some_pair (both x) runs ≡ false → (state : Option ℤ) → state_left x runs state ≡ state_left x others state

left-alike : (x : ElementId) (runs others : List (List Entry)) → IsPermutation runs others → LeftAlike x runs others
left-alike x = by_exchanges (LeftAlike x)
    (λ runs. record { alike = record { any = λ passes. refl; pair = refl }; left = λ once state. refl })
    (λ xs ys zs one other. record {
      alike = record { any = λ passes. one.alike.any passes ∙ other.alike.any passes; pair = one.alike.pair ∙ other.alike.pair };
      left = λ once state. one.left once state ∙ other.left (sym one.alike.pair ∙ once) state;
    })
    (λ run xs ys held. record {
      alike = alike-under (both x) run xs ys held.alike;
      left = λ once state. held.left (or-neither (list_any (both x run) xs) (some_pair (both x) xs) once).1 (state_after x run state);
    })
    (λ one other xs. record {
      alike = alike-two (both x) (λ a b. and-comm (touches x a) (touches x b)) one other xs;
      left = λ once state.
          ap (state_left x xs) (one-touches x one other state
          (or-neither (both x one other) (list_any (both x one) xs)
          (or-neither (both x one other || list_any (both x one) xs) (some_pair (both x) (other ∷ xs)) once).0).0);
    })

-- What runs leave of an element that no two touch is the same in any order.
pub left-permuted
    : (x : ElementId) (runs others : List (List Entry)) → IsPermutation runs others → is_touched_twice x runs ≡ false
    → (state : Option ℤ) → state_left x runs state ≡ state_left x others state
left-permuted x runs others permuted once = (left-alike x runs others permuted).left (sym (twice-pair x runs) ∙ once)
