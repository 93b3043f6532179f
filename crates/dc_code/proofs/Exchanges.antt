-- What holds of neighbours that change places, at the front and further back, holds of any permutation.
use Rattle.std.proofs.Common.{◌≡◌, ℕ, zero, suc, ◌<◌, Bool, true, false, ◌||◌, List, [], ◌∷◌, ◌++◌, length, refl, ap, ap₂, ◌∙◌, subst, arith}
use Rattle.std.proofs.lemmas.List.{append_assoc}
use Rattle.std.specs.Prelude.{slice_set, slice_index_or, swap, flat_map}
use Rattle.std.specs.List.{list_any}
use Rattle.std.specs.List.Sorted.{IsPermutation}
use Rattle.std.proofs.lemmas.List.Sorted.{IsPermutation-keeps, IsPermutation-refl, IsPermutation-trans, IsPermutation-append_right, IsPermutation-append_left, IsPermutation-append_comm}

module _ {X : Type 0} (R : List X → List X → Type 0)
    (same : (xs : List X) → R xs xs)
    (again : (xs ys zs : List X) → R xs ys → R ys zs → R xs zs)
    (under : (x : X) (xs ys : List X) → R xs ys → R (x ∷ xs) (x ∷ ys))
    (two : (x y : X) (xs : List X) → R (x ∷ y ∷ xs) (y ∷ x ∷ xs)) where
  -- the first item against one further back
  with_first : (x : X) (xs : List X) (k : ℕ) (d : X) → k < length xs → R (x ∷ xs) (slice_index_or xs k d ∷ slice_set xs k x)
  with_first x [] k d below = absurd (omega arith)
  with_first x (y ∷ xs) zero d below = two x y xs
  with_first x (y ∷ xs) (suc k) d below =
      again (x ∷ y ∷ xs) (y ∷ x ∷ xs) (slice_index_or xs k d ∷ y ∷ slice_set xs k x) (two x y xs)
      (again (y ∷ x ∷ xs) (y ∷ slice_index_or xs k d ∷ slice_set xs k x) (slice_index_or xs k d ∷ y ∷ slice_set xs k x)
      (under y (x ∷ xs) (slice_index_or xs k d ∷ slice_set xs k x) (with_first x xs k d (omega arith)))
      (two y (slice_index_or xs k d) (slice_set xs k x)))

  -- any two items
  exchanged
      : (xs : List X) (i j : ℕ) (d : X) → i < length xs → j < length xs
      → R xs (slice_set (slice_set xs i (slice_index_or xs j d)) j (slice_index_or xs i d))
  exchanged [] i j d first second = absurd (omega arith)
  exchanged (x ∷ xs) zero zero d first second = same (x ∷ xs)
  exchanged (x ∷ xs) zero (suc j) d first second = with_first x xs j d (omega arith)
  exchanged (x ∷ xs) (suc i) zero d first second = with_first x xs i d (omega arith)
  exchanged (x ∷ xs) (suc i) (suc j) d first second =
      under x xs (slice_set (slice_set xs i (slice_index_or xs j d)) j (slice_index_or xs i d)) (exchanged xs i j d (omega arith) (omega arith))

  swapped : (xs : List X) (i j : ℕ) → i < length xs → j < length xs → R xs (swap xs i j)
  swapped [] i j first second = absurd (omega arith)
  swapped (x ∷ xs) i j first second = exchanged (x ∷ xs) i j x first second

  -- What holds of one list and itself, goes on, holds behind one more item, and holds of two neighbours
  -- in front that change places, holds of a list and any permutation.
  pub by_exchanges : (xs ys : List X) → IsPermutation xs ys → R xs ys
  by_exchanges xs ys =
      IsPermutation-keeps xs (R xs) (same xs) (λ l i j first second held. again xs l (swap l i j) held (swapped l i j first second)) ys

-- ---- pairs of items

-- Some two items pass the test.
abbrev pub some_pair : {X : Type 0} → (X → X → Bool) → List X → Bool
some_pair test [] = false
some_pair test (x ∷ xs) = list_any (test x) xs || some_pair test xs

four : (a b c d e : Bool) → a ≡ b → ((a || c) || (d || e)) ≡ ((b || d) || (c || e))
four true b c d e same = subst (λ t. true ≡ ((t || d) || (c || e))) same refl
four false b c d e same = subst (λ t. (c || (d || e)) ≡ ((t || d) || (c || e))) same (by c d e)
  where
    by : (c d e : Bool) → (c || (d || e)) ≡ (d || (c || e))
    by true true e = refl
    by true false e = refl
    by false true e = refl
    by false false e = refl

three : (a b c : Bool) → (a || (b || c)) ≡ (b || (a || c))
three true true c = refl
three true false c = refl
three false true c = refl
three false false c = refl

-- Two lists pass any test alike, and any test of two items.
pub record PassAlike {X : Type 0} (test : X → X → Bool) (xs ys : List X) : Type 0 where
  pub any : (passes : X → Bool) → list_any passes xs ≡ list_any passes ys
  pub pair : some_pair test xs ≡ some_pair test ys

pub alike-under : {X : Type 0} (test : X → X → Bool) (x : X) (xs ys : List X) → PassAlike test xs ys → PassAlike test (x ∷ xs) (x ∷ ys)
alike-under test x xs ys held =
    record { any = λ passes. ap (λ b. passes x || b) (held.any passes); pair = ap₂ (λ a b. a || b) (held.any (test x)) held.pair }

pub alike-two
    : {X : Type 0} (test : X → X → Bool) → ((x y : X) → test x y ≡ test y x) → (x y : X) (xs : List X) → PassAlike test (x ∷ y ∷ xs) (y ∷ x ∷ xs)
alike-two test either x y xs = record {
  any = λ passes. three (passes x) (passes y) (list_any passes xs);
  pair = four (test x y) (test y x) (list_any (test x) xs) (list_any (test y) xs) (some_pair test xs) (either x y);
}

-- A test of two items that they pass in either order is passed by a permutation alike.
pub pass-alike
    : {X : Type 0} (test : X → X → Bool) → ((x y : X) → test x y ≡ test y x) → (xs ys : List X) → IsPermutation xs ys → PassAlike test xs ys
pass-alike test either = by_exchanges (PassAlike test)
    (λ xs. record { any = λ passes. refl; pair = refl })
    (λ xs ys zs one other. record { any = λ passes. one.any passes ∙ other.any passes; pair = one.pair ∙ other.pair })
    (alike-under test)
    (alike-two test either)

-- What the items of a permutation give, one after another, is a permutation.
pub flat_map-permutation : {X Y : Type 0} (f : X → List Y) (xs ys : List X) → IsPermutation xs ys → IsPermutation (flat_map f xs) (flat_map f ys)
flat_map-permutation f = by_exchanges (λ xs ys. IsPermutation (flat_map f xs) (flat_map f ys))
    (λ xs. IsPermutation-refl (flat_map f xs))
    (λ xs ys zs one other. IsPermutation-trans (flat_map f xs) (flat_map f ys) (flat_map f zs) one other)
    (λ x xs ys held. IsPermutation-append_right (f x) (flat_map f xs) (flat_map f ys) held)
    (λ x y xs. front (f x) (f y) (flat_map f xs))
  where
    front : {Y : Type 0} (first second rest : List Y) → IsPermutation (first ++ (second ++ rest)) (second ++ (first ++ rest))
    front first second rest =
        subst (λ l. IsPermutation l (second ++ (first ++ rest))) (append_assoc first second rest)
        (subst (λ l. IsPermutation ((first ++ second) ++ rest) l) (append_assoc second first rest)
        (IsPermutation-append_left rest (first ++ second) (second ++ first) (IsPermutation-append_comm first second)))
