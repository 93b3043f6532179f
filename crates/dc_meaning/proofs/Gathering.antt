-- Results that are gathered item by item.
use Rattle.std.proofs.Common.{◌≡◌, ℕ, suc, ◌+◌, ◌-◌, ◌<◌, List, [], ◌∷◌, ◌++◌, length, drop, get_or, refl, sym, ap, ◌∙◌, arith, append_assoc, append-nil, drop-cons}
use Rattle.std.specs.Prelude.{Result, Ok, Err}
use Rattle.dc_code.specs.declared.frame.Place.{Place}
use Rattle.dc_code.specs.Troubles.{Slots}
use Rattle.dc_plain.specs.Views.{View}
use Rattle.dc_meaning.specs.declared.stop.Stop.{Stop}
use Rattle.dc_meaning.specs.Acts.{Act, just, ◌>>=◌, for_each}
use Rattle.dc_meaning.specs.Gathering.{gathered, places_from}
use Rattle.dc_meaning.specs.Values.{Callee}
use Rattle.dc_meaning.specs.Walking.{Stays}
use Rattle.dc_meaning.proofs.Walking.{acts-then, stays-just, stays-then, stays-bad, stays-as}

-- the item at a place, before the others
pub next-is : {A : Type 0} (items : List A) (at : ℕ) (item : A) → at < length items → item ≡ get_or items at item → drop at items ≡ item ∷ drop (at + 1) items
next-is items at item below is =
    let next : suc at ≡ at + 1 = omega arith in
    drop-cons items at item below ∙ ap (λ (first : _). first ∷ drop (suc at) items) (sym is) ∙ ap (λ k. item ∷ drop k items) next

pub gathered-step : {A B : Type 0} (act : A → Act B) (results : List B) (item : A) (items : List A)
    → gathered act results (item ∷ items) ≡ (act item >>= (λ b. gathered act (results ++ b ∷ []) items))
gathered-step act results item items =
    let rest = for_each act items in
    acts-then (act item) (λ b. rest >>= (λ bs. just (b ∷ bs))) (λ bs. just (results ++ bs))
    ∙ (λ i. act item >>= (λ b. acts-then rest (λ bs. just (b ∷ bs)) (λ bs. just (results ++ bs)) i))
    ∙ (λ i. act item >>= (λ b. rest >>= (λ bs. just (sym (append_assoc results (b ∷ []) bs) i))))

-- an act that begins with nothing gathered
pub gathered-all : {A B : Type 0} (act : A → Act B) (items : List A) → for_each act items ≡ gathered act [] items
gathered-all act [] = refl
gathered-all act (item ∷ items) = sym (acts-then (act item) (λ b. for_each act items >>= (λ bs. just (b ∷ bs))) (λ bs. just bs)
    ∙ (λ i. act item >>= (λ b. acts-then (for_each act items) (λ bs. just (b ∷ bs)) (λ bs. just bs) i)))

module _ {A B : Type 0} {own : Slots} (act : Callee → A → Act B) where
  -- one more result
  pub gathered-on : {view between after : View} {r : Result (List B) Stop} (shown more : List B) (item : A) (items : List A) (b : B) → more ≡ shown ++ b ∷ []
      → Stays (λ b. b) own view (λ call. act call item) between (Ok b) → Stays (λ bs. bs) own between (λ call. gathered (act call) more items) after r
      → Stays (λ bs. bs) own view (λ call. gathered (act call) shown (item ∷ items)) after r
  gathered-on shown more item items b is one rest =
      stays-as (λ call. gathered-step (act call) shown item items)
      (stays-then (λ call b. gathered (act call) (shown ++ b ∷ []) items) one
      (stays-as (λ call. ap (λ bs. gathered (act call) bs items) (sym is)) rest))

  pub gathered-bad : {view after : View} {e : Stop} (shown : List B) (item : A) (items : List A) → Stays (λ (b : B). b) own view (λ call. act call item) after (Err e)
      → Stays (λ bs. bs) own view (λ call. gathered (act call) shown (item ∷ items)) after (Err e)
  gathered-bad shown item items one =
      stays-as (λ call. gathered-step (act call) shown item items) (stays-bad {A = List B} {tell = λ bs. bs} (λ call b. gathered (act call) (shown ++ b ∷ []) items) one)

  pub gathered-none : {view : View} (shown : List B) → Stays (λ bs. bs) own view (λ call. gathered (act call) shown []) view (Ok shown)
  gathered-none shown = stays-just shown (λ call. ap just (append-nil shown))

-- ---- of the elements of a variable

pub places-step : (variable count position : ℕ) → places_from variable (suc count) position ≡ Place.Outer (record { variable = variable; position = position }) ∷ places_from variable count (position + 1)
places-step variable count position = refl

pub count-step : (size position : ℕ) → position < size → size - position ≡ suc (size - (position + 1))
count-step size position below = omega (arith, below)
