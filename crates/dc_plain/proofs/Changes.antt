-- A change of one item of a list, as it is seen by a view of the items.
use Rattle.std.proofs.Common.{◌≡◌, ℕ, zero, suc, ◌≤◌, List, [], ◌∷◌, length, map, Some, None, refl, sym, ap, ◌∙◌, slice_get, slice_set, arith}
use Rattle.std.specs.Prelude.{option_map, Bool, true, false, cond}
use Rattle.std.proofs.lemmas.List.{length-map}
use Rattle.dc_int.specs.Store.{changed_at, same}

pub changed-found : {A B : Type 0} (view : A → B) (items : List A) (n : ℕ) (item after : A) (change : B → B) → slice_get items n ≡ Some item
    → view after ≡ change (view item) → map view (slice_set items n after) ≡ changed_at change (map view items) n
changed-found view [] n item after change found is = refl
changed-found view (first ∷ rest) zero item after change found is = ap (λ v. v ∷ map view rest) (is ∙ ap change (sym (same_first found)))
  where
    same_first : Some first ≡ Some item → view first ≡ view item
    same_first e = cc
changed-found view (first ∷ rest) (suc n) item after change found is = ap (λ vs. view first ∷ vs) (changed-found view rest n item after change found is)

changed-past : {B : Type 0} (items : List B) (n : ℕ) (change : B → B) → length items ≤ n → changed_at change items n ≡ items
changed-past [] n change past = refl
changed-past (first ∷ rest) zero change past = absurd (omega (arith, past))
changed-past (first ∷ rest) (suc n) change past = ap (λ vs. first ∷ vs) (changed-past rest n change (omega (arith, past)))

pub unchanged-past : {A B : Type 0} (view : A → B) (items : List A) (n : ℕ) (change : B → B) → length items ≤ n → map view items ≡ changed_at change (map view items) n
unchanged-past view items n change past = let same = length-map items view in sym (changed-past (map view items) n change (omega (arith, same, past)))

same-both : {B : Type 0} (b : Bool) (x : B) → x ≡ cond b x x
same-both true x = refl
same-both false x = refl

-- What stands at a place after a change at a place.
pub get-changed : {B : Type 0} (change : B → B) (items : List B) (n m : ℕ) → slice_get (changed_at change items n) m ≡ cond (same n m) (option_map change (slice_get items m)) (slice_get items m)
get-changed change [] n m = same-both (same n m) None
get-changed change (first ∷ rest) zero zero = refl
get-changed change (first ∷ rest) zero (suc m) = refl
get-changed change (first ∷ rest) (suc n) zero = refl
get-changed change (first ∷ rest) (suc n) (suc m) = get-changed change rest n m
