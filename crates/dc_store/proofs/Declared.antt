-- The elements of a store that fits are those that its shapes have.
use Rattle.std.proofs.Common.{◌≡◌, ℕ, zero, suc, true, false, List, [], ◌∷◌, length, Option, Some, None, refl, sym, ap, ◌∙◌, IsTrue, is_some, slice_get, arith}
use Rattle.std.specs.Prelude.{nat_lt, option_and_then}
use Rattle.std.proofs.lemmas.Bool.Decides.{nat_tests}
use Rattle.dc_int.specs.declared.access.ElementId.{ElementId}
use Rattle.dc_int.specs.declared.variable.Shape.{Shape}
use Rattle.dc_int.specs.Shapes.{store_fits}
use Rattle.dc_int.specs.Store.{Variable, Store, cell_of}
use Rattle.dc_int.proofs.Fits.{fits-length, shape-of}
use Rattle.dc_store.specs.Shaped.{has_element}

some-before : {A : Type 0} (items : List A) (k : ℕ) → is_some (slice_get items k) ≡ nat_lt k (length items)
some-before [] k = sym (not-below-zero k)
  where
    not-below-zero : (k : ℕ) → nat_lt k 0 ≡ false
    not-below-zero k = grind (arith, nat_tests)
some-before (item ∷ items) zero = sym (zero-below (length items))
  where
    zero-below : (n : ℕ) → nat_lt 0 (suc n) ≡ true
    zero-below n = grind (arith, nat_tests)
some-before (item ∷ items) (suc k) = some-before items k ∙ lt-both k (length items)
  where
    lt-both : (m n : ℕ) → nat_lt m n ≡ nat_lt (suc m) (suc n)
    lt-both m n = grind (arith, nat_tests)

missing-too : {A B : Type 0} (items : List A) (others : List B) (k : ℕ) → length others ≡ length items → slice_get others k ≡ None → slice_get items k ≡ None
missing-too [] [] k same none = refl
missing-too [] (other ∷ others) k same none = refl
missing-too (item ∷ items) [] k same none = cc
missing-too (item ∷ items) (other ∷ others) zero same none = cc
missing-too (item ∷ items) (other ∷ others) (suc k) same none = missing-too items others k (cc) none

pub elements-declared : (shapes : List Shape) (store : Store) (x : ElementId) → IsTrue (store_fits shapes store) → is_some (cell_of store x) ≡ has_element shapes x
unfolding cell_of
elements-declared shapes store x fits = by (slice_get store x.variable) refl
  where
    by
        : (found : Option Variable) → slice_get store x.variable ≡ found
        → is_some (option_and_then (λ variable. slice_get variable.cells x.position) found) ≡ has_element shapes x
    by None none = rw missing refl
      where
        missing : slice_get shapes x.variable ≡ None
        missing = missing-too shapes store x.variable (fits-length shapes store fits) none
    by (Some variable) found =
        let of = shape-of shapes store x.variable variable fits found in
        some-before variable.cells x.position ∙ ap (λ n. nat_lt x.position n) of.as_cells ∙ sym (rw of.is refl)

-- An element that the shapes have exists.
pub exists_declared : (shapes : List Shape) (store : Store) (x : ElementId) → IsTrue (store_fits shapes store) → IsTrue (has_element shapes x) → IsTrue (is_some (cell_of store x))
exists_declared shapes store x fits has = elements-declared shapes store x fits ∙ has
