-- Which element clashes, and which two iterations are named. Iterations are counted from 0, and
-- each is given by the entries that it makes alone on the opening store. This project's own, on the
-- restrictions of ISO/IEC 1539-1:2023, clause 11.1.7.5.
use Rattle.std.specs.Prelude.{◌≡◌, ◌≢◌, slice_get, ℕ, suc, Bool, true, false, not, ◌||◌, List, [], ◌∷◌, Option, Some, None, option_map, find, if◌then◌else◌}
use Rattle.std.specs.List.{list_any}
use Rattle.dc_int.specs.declared.access.ElementId.{ElementId}
use Rattle.dc_int.specs.declared.variable.Locality.{Locality}
use Rattle.dc_int.specs.Entries.{Entry, touches, exposes}
use Rattle.dc_int.specs.Store.{Store, same, elements_of}
use Rattle.dc_code.specs.Breaks.{breaks}

-- An element clashes where two different iterations break its restriction.
abbrev pub clashes : Locality → ElementId → List (List Entry) → Bool
clashes locality x [] = false
clashes locality x (one ∷ others) = list_any (breaks locality x one) others || clashes locality x others

-- The least clashing element in store order.
abbrev pub first_clash : (ℕ → Locality) → Store → List (List Entry) → Option ElementId
first_clash locality store runs = find (λ x. clashes (locality x.variable) x runs) (elements_of store)

-- The least and the greatest iteration that the test holds of.
pub record Ends : Type 0 where
  pub least : ℕ
  pub greatest : ℕ

-- the ends among one more iteration in front of those that were counted, which moves them on by one
abbrev pub widened : Bool → Option Ends → Option Ends
widened true None = Some (record { least = 0; greatest = 0 })
widened true (Some ends) = Some (record { least = 0; greatest = suc ends.greatest })
widened false None = None
widened false (Some ends) = Some (record { least = suc ends.least; greatest = suc ends.greatest })

abbrev pub ends_of : (List Entry → Bool) → List (List Entry) → Option Ends
ends_of test [] = None
ends_of test (run ∷ runs) = widened (test run) (ends_of test runs)

-- A toucher and an exposed reader that are two iterations: the least toucher with the least reader or, where
-- these are one, with the greatest reader; and where that is the same one too, the greatest toucher with it.
abbrev pub with_reader : Ends → Ends → ℕ × ℕ
with_reader touchers readers =
    if not (same readers.least touchers.least) then (touchers.least, readers.least)
    else if not (same readers.greatest touchers.least) then (touchers.least, readers.greatest)
    else (touchers.greatest, readers.least)

abbrev pub are_two_sharing : Locality → Ends → Bool
are_two_sharing Locality.Shared touchers = not (same touchers.least touchers.greatest)
are_two_sharing locality touchers = false

abbrev pub pair_of : Locality → Option Ends → Option Ends → Option (ℕ × ℕ)
pair_of locality None readers = None
pair_of locality (Some touchers) readers =
    if are_two_sharing locality touchers then Some (touchers.least, touchers.greatest) else option_map (with_reader touchers) readers

-- The pair of iterations that is named for a clashing element, in the order in which they are run:
-- two touchers where it is SHARED, and else a toucher and an exposed reader.
abbrev pub pair : Locality → ElementId → List (List Entry) → Option (ℕ × ℕ)
pair locality x runs = pair_of locality (ends_of (touches x) runs) (ends_of (exposes x) runs)

-- The iterations of these two numbers are different, and break the restriction of the element.
pub record BreakTogether (locality : Locality) (x : ElementId) (runs : List (List Entry)) (i j : ℕ) : Type 0 where
  pub different : i ≢ j
  pub one : List Entry
  pub other : List Entry
  pub one_is : slice_get runs i ≡ Some one
  pub other_is : slice_get runs j ≡ Some other
  pub broken : breaks locality x one other ≡ true

-- A pair is named, and it breaks the restriction.
pub record NamesBreak (locality : Locality) (x : ElementId) (runs : List (List Entry)) : Type 0 where
  pub i : ℕ
  pub j : ℕ
  pub named : pair locality x runs ≡ Some (i, j)
  pub together : BreakTogether locality x runs i j
