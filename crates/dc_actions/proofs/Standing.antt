-- Parts of lists, and where they stand in a whole list.
use Rattle.std.proofs.Common.{◌≡◌, ◌<◌, ℕ, zero, suc, ◌+◌, List, [], ◌∷◌, ◌++◌, length, Some, refl, ap, ◌∙◌, subst, arith}
use Rattle.std.specs.Prelude.{slice_get}
use Rattle.dc_actions.proofs.Placing.{get-left, get-right}

-- The part stands in the whole list from a place on.
pub record Stand {A : Type 0} (whole : List A) (from : ℕ) (part : List A) : Type 0 where
  pub each : (i : ℕ) (item : A) → slice_get part i ≡ Some item → slice_get whole (from + i) ≡ Some item

pub all-stand : {A : Type 0} (whole : List A) → Stand whole 0 whole
all-stand whole = record { each = λ i item e. ap (slice_get whole) (none-before i) ∙ e }
  where
    none-before : (i : ℕ) → 0 + i ≡ i
    none-before i = omega arith

pub behind-stand : {A : Type 0} (before behind : List A) → Stand (before ++ behind) (length before) behind
behind-stand before behind = record { each = λ i item e. get-right before behind i ∙ e }

pub first-stand : {A : Type 0} (whole : List A) (from : ℕ) (first second : List A) → Stand whole from (first ++ second) → Stand whole from first
first-stand whole from first second stand = record { each = λ i item e. stand.each i item (get-left first second i item e) }

pub second-stand : {A : Type 0} (whole : List A) (from : ℕ) (first second : List A) → Stand whole from (first ++ second) → Stand whole (from + length first) second
second-stand whole from first second stand =
    record { each = λ i item e. subst (λ n. slice_get whole n ≡ Some item) (behind i) (stand.each (length first + i) item (get-right first second i ∙ e)) }
  where
    behind : (i : ℕ) → from + (length first + i) ≡ from + length first + i
    behind i = omega arith

pub here-stands : {A : Type 0} (whole : List A) (from : ℕ) (item : A) (rest : List A) → Stand whole from (item ∷ rest) → slice_get whole from ≡ Some item
here-stands whole from item rest stand = ap (slice_get whole) (none-behind from) ∙ stand.each 0 item refl
  where
    none-behind : (n : ℕ) → n ≡ n + 0
    none-behind n = omega arith

pub found-within : {A : Type 0} (items : List A) (at : ℕ) → at < length items → (item : A) × (slice_get items at ≡ Some item)
found-within [] at within = absurd (omega (arith, within))
found-within (item ∷ items) zero within = (item, refl)
found-within (item ∷ items) (suc at) within = found-within items at (omega (arith, within))
