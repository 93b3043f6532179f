-- One item of a list that is changed, and all that are.
use Rattle.std.proofs.Common.{◌≡◌, ℕ, zero, suc, ◌<◌, ◌≤◌, List, [], ◌∷◌, length, get_or, map, replicate, refl, ap, ◌∙◌, arith}
use Rattle.std.specs.Prelude.{slice_set}
use Rattle.dc_int.specs.Store.{changed_at}

module _ {A : Type 0} where
  -- An item that is read at a place, and put there when it is changed.
  pub changed_item
      : (change : A → A) (items : List A) (n : ℕ) (item after : A) → n < length items → item ≡ get_or items n item → after ≡ change item
      → slice_set items n after ≡ changed_at change items n
  changed_item change [] n item after within read is = refl
  changed_item change (first ∷ rest) zero item after within read is = ap (λ v. v ∷ rest) (is ∙ ap change read)
  changed_item change (first ∷ rest) (suc n) item after within read is =
      ap (λ vs. first ∷ vs) (changed_item change rest n item after (omega (arith, within)) read is)

  -- no change past the end
  pub changed_past : (change : A → A) (items : List A) (n : ℕ) → length items ≤ n → items ≡ changed_at change items n
  changed_past change [] n past = refl
  changed_past change (first ∷ rest) zero past = absurd (omega (arith, past))
  changed_past change (first ∷ rest) (suc n) past = ap (λ vs. first ∷ vs) (changed_past change rest n (omega (arith, past)))

  pub map_same : (state : A) (items : List A) → replicate (length items) state ≡ map (λ (item : A). state) items
  map_same state [] = refl
  map_same state (first ∷ rest) = ap (λ vs. state ∷ vs) (map_same state rest)
