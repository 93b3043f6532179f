-- Ranges of which no two meet: what meets them, what is taken out of them and what is put in.
use Rattle.std.proofs.Common.{◌≡◌, ℕ, ◌+◌, ◌<◌, if◌then◌else◌, Bool, true, false, ◌||◌, List, [], ◌∷◌, Some, None, is_some, ℤ, int_le, ◌≤ℤ◌, ◌<ℤ◌, refl, sym, ap, subst, ◌∙◌, inl, inr, arith, Ordering, Less, Equal, Greater, int_cmp}
use Rattle.std.specs.Prelude.{slice_get}
use Rattle.std.specs.List.{list_any, find, filter}
use Rattle.std.specs.Map.{lookup, remove_entry}
use Rattle.std.specs.Ordering.{MatchOrdering, match_ordering}
use Rattle.std.specs.BTreeMap.{insert_entry, is_at}
use Rattle.std.specs.BTreeMap.Range.{range_contains}
use Rattle.std.specs.declared.ops.Bound.TheVariants.{Included, Unbounded}
use Rattle.std.proofs.lemmas.Bool.{cases_Bool, or_parts}
use Rattle.std.proofs.lemmas.Cmp.{int_ranked}
use Rattle.std.proofs.lemmas.Int.{ints, clamps}
use Rattle.std.proofs.lemmas.Option.{same_Some, none-some}
use Rattle.dc_scope.specs.Ranges.{HasNumbers, AreAbove, AreApart, reaches, touches, joined, HaveSame}

-- ---- the first that passes a test

pub some_found : {X : Type 0} (test : X → Bool) (xs : List X) → is_some (find test xs) ≡ list_any test xs
some_found test [] = refl
some_found test (x ∷ xs) = elim (cases_Bool (test x)) [ inl holds ↦ rw holds refl | inr fails ↦ rw fails (some_found test xs) ]

-- The first that passes is the first of those that pass.
first_of_filter : {X : Type 0} (one other : X → Bool) → ((x : X) → one x ≡ other x) → (xs : List X) → slice_get (filter one xs) 0 ≡ find other xs
first_of_filter one other same [] = refl
first_of_filter one other same (x ∷ xs) =
    let here = same x in
    elim (cases_Bool (other x)) [
      | inl holds ↦ let passes : one x ≡ true = here ∙ holds in rw (passes, holds) refl
      | inr fails ↦ let skipped : one x ≡ false = here ∙ fails in rw (skipped, fails) (first_of_filter one other same xs)
    ]

in_range_from : (low z : ℤ) → range_contains int_cmp (Included low) Unbounded z ≡ int_le low z
in_range_from low z = grind (arith, ints)

-- The first of what lies in `low..`.
pub first_in_range : (range : ℤ × ℤ) (start : ℤ) → start ≡ range.1 → (ranges within : List (ℤ × ℤ)) → within ≡ filter (λ r. range_contains int_cmp (Included start) Unbounded r.0) ranges → slice_get within 0 ≡ find (reaches range) ranges
first_in_range range start same ranges within is =
    ap (λ (l : List (ℤ × ℤ)). slice_get l 0) is
    ∙ first_of_filter (λ (r : ℤ × ℤ). range_contains int_cmp (Included start) Unbounded r.0) (reaches range) (λ r. in_range_from start r.0 ∙ ap (λ z. int_le z r.0) same) ranges

-- ---- the first that meets

-- What ends before all begin meets none.
none_met : (range : ℤ × ℤ) (end : ℤ) (ranges : List (ℤ × ℤ)) → range.0 ≤ℤ end → AreAbove end ranges → find (touches range) ranges ≡ None
none_met range end [] less above = refl
none_met range end (first ∷ rest) less above =
    let fails : touches range first ≡ false = grind (arith, ints, less, above.0) in
    rw fails (none_met range end rest less above.1)

module _ (range first : ℤ × ℤ) where
  -- Only the first that is reached can be the first that is met.
  pub met_first : (ranges : List (ℤ × ℤ)) → find (reaches range) ranges ≡ Some first → first.1 ≤ℤ range.0 → find (touches range) ranges ≡ Some first
  met_first [] found less = absurd (none-some first found)
  met_first (next ∷ rest) found less =
      elim (cases_Bool (reaches range next)) [
        | inl holds ↦
            let is : next ≡ first = same_Some next first (rw holds at found) in
            let met : touches range next ≡ true = grind (arith, ints, holds, less, is) in
            rw (met, is) refl
        | inr fails ↦
            let missed : touches range next ≡ false = grind (arith, fails) in
            rw missed (met_first rest (rw fails at found) less)
      ]

  pub met_none : (ranges : List (ℤ × ℤ)) → AreApart ranges → find (reaches range) ranges ≡ Some first → range.0 <ℤ first.1 → find (touches range) ranges ≡ None
  met_none [] apart found less = refl
  met_none (next ∷ rest) apart found less =
      elim (cases_Bool (reaches range next)) [
        | inl holds ↦
            let is : next ≡ first = same_Some next first (rw holds at found) in
            let missed : touches range next ≡ false = grind (arith, ints, less, is) in
            let below : range.0 ≤ℤ next.0 = grind (arith, ints, less, is, apart.0) in
            rw missed (none_met range next.0 rest below apart.1)
        | inr fails ↦
            let missed : touches range next ≡ false = grind (arith, fails) in
            rw missed (met_none rest apart.2 (rw fails at found) less)
      ]

pub met_nowhere : (range : ℤ × ℤ) (ranges : List (ℤ × ℤ)) → find (reaches range) ranges ≡ None → find (touches range) ranges ≡ None
met_nowhere range [] none = refl
met_nowhere range (next ∷ rest) none =
    elim (cases_Bool (reaches range next)) [
      | inl holds ↦ absurd (none-some next (sym (rw holds at none)))
      | inr fails ↦
          let missed : touches range next ≡ false = grind (arith, fails) in
          rw missed (met_nowhere range rest (rw fails at none))
    ]

-- ---- what is taken out

module _ (test : ℤ × ℤ → Bool) where
  pub found-passes : (ranges : List (ℤ × ℤ)) (range : ℤ × ℤ) → find test ranges ≡ Some range → test range ≡ true
  found-passes [] range found = absurd (none-some range found)
  found-passes (first ∷ rest) range found =
      elim (cases_Bool (test first)) [
        | inl holds ↦ subst (λ r. test r ≡ true) (same_Some first range (rw holds at found)) holds
        | inr fails ↦ found-passes rest range (rw fails at found)
      ]

  pub found-has_numbers : (ranges : List (ℤ × ℤ)) (range : ℤ × ℤ) → AreApart ranges → find test ranges ≡ Some range → HasNumbers range
  found-has_numbers [] range apart found = absurd (none-some range found)
  found-has_numbers (first ∷ rest) range apart found =
      elim (cases_Bool (test first)) [
        | inl holds ↦ subst (λ (r : ℤ × ℤ). HasNumbers r) (same_Some first range (rw holds at found)) apart.0
        | inr fails ↦ found-has_numbers rest range apart.2 (rw fails at found)
      ]

  found-above : (end : ℤ) (ranges : List (ℤ × ℤ)) (range : ℤ × ℤ) → AreAbove end ranges → AreApart ranges → find test ranges ≡ Some range → end <ℤ range.0
  found-above end [] range above apart found = absurd (none-some range found)
  found-above end (first ∷ rest) range above apart found =
      elim (cases_Bool (test first)) [
        | inl holds ↦ let less : end <ℤ first.0 = grind (arith, ints, above.0, apart.0) in subst (λ (r : ℤ × ℤ). end <ℤ r.0) (same_Some first range (rw holds at found)) less
        | inr fails ↦ found-above end rest range above.1 apart.2 (rw fails at found)
      ]

  pub found-has_key : (ranges : List (ℤ × ℤ)) (range : ℤ × ℤ) → find test ranges ≡ Some range → is_some (lookup (is_at (int_cmp range.0)) ranges) ≡ true
  found-has_key [] range found = absurd (none-some range found)
  found-has_key (first ∷ rest) range found =
      elim (cases_Bool (is_at (int_cmp range.0) first.0)) [
        | inl here ↦ rw here refl
        | inr past ↦
            elim (cases_Bool (test first)) [
              | inl holds ↦ let is : first ≡ range = same_Some first range (rw holds at found) in absurd (grind (arith, ints, past, is))
              | inr fails ↦ rw past (found-has_key rest range (rw fails at found))
            ]
      ]

  -- What meets the others or the one that is taken out is what met them before.
  taken_out : (passes : ℤ × ℤ → Bool) (ranges : List (ℤ × ℤ)) (range : ℤ × ℤ) → AreApart ranges → find test ranges ≡ Some range → list_any passes ranges ≡ (passes range || list_any passes (remove_entry (is_at (int_cmp range.0)) ranges))
  taken_out passes [] range apart found = absurd (none-some range found)
  taken_out passes (first ∷ rest) range apart found =
      elim (cases_Bool (test first)) [
        | inl holds ↦
            let is : first ≡ range = same_Some first range (rw holds at found) in
            let here : is_at (int_cmp range.0) first.0 ≡ true = grind (arith, ints, is) in
            rw (here, is) refl
        | inr fails ↦
            let less : first.0 <ℤ range.0 = found-above first.0 rest range apart.1 apart.2 (rw fails at found) in
            let past : is_at (int_cmp range.0) first.0 ≡ false = grind (arith, ints, less) in
            let others = taken_out passes rest range apart.2 (rw fails at found) in
            rw (past, others) (grind arith)
      ]

AreAbove-remove : (end : ℤ) (test : ℤ → Bool) (ranges : List (ℤ × ℤ)) → AreAbove end ranges → AreAbove end (remove_entry test ranges)
AreAbove-remove end test [] above = tt
AreAbove-remove end test (first ∷ rest) above =
    elim (cases_Bool (test first.0)) [ inl here ↦ rw here above.1 | inr past ↦ rw past (above.0, AreAbove-remove end test rest above.1) ]

pub AreApart-remove : (test : ℤ → Bool) (ranges : List (ℤ × ℤ)) → AreApart ranges → AreApart (remove_entry test ranges)
AreApart-remove test [] apart = tt
AreApart-remove test (first ∷ rest) apart =
    elim (cases_Bool (test first.0)) [
      | inl here ↦ rw here apart.2
      | inr past ↦ rw past (apart.0, AreAbove-remove first.0 test rest apart.1, AreApart-remove test rest apart.2)
    ]

-- ---- what is put in

AreAbove-less : (end less : ℤ) (ranges : List (ℤ × ℤ)) → less <ℤ end → AreAbove end ranges → AreAbove less ranges
AreAbove-less end less [] below above = tt
AreAbove-less end less (first ∷ rest) below above = (grind (arith, ints, below, above.0), AreAbove-less end less rest below above.1)

AreAbove-insert : (end low high : ℤ) (ranges : List (ℤ × ℤ)) → end <ℤ low → AreAbove end ranges → AreAbove end (insert_entry int_cmp ranges high low)
AreAbove-insert end low high [] less above = (less, tt)
AreAbove-insert end low high (first ∷ rest) less above = by (int_cmp high first.0) (AreAbove-insert end low high rest less above.1)
  where
    by : (order : Ordering) → AreAbove end (insert_entry int_cmp rest high low) → AreAbove end (match_ordering order ((high, low) ∷ first ∷ rest) ((first.0, low) ∷ rest) (first ∷ insert_entry int_cmp rest high low))
    by Less behind = (less, above)
    by Equal behind = (less, above.1)
    by Greater behind = (above.0, behind)

module _ (range : ℤ × ℤ) (numbers : HasNumbers range) where
  pub AreApart-insert : (ranges : List (ℤ × ℤ)) → AreApart ranges → list_any (touches range) ranges ≡ false → AreApart (insert_entry int_cmp ranges range.0 range.1)
  AreApart-insert [] apart clear = (numbers, tt, tt)
  AreApart-insert (first ∷ rest) apart clear =
      let parts = or_parts (touches range first) (list_any (touches range) rest) clear in
      by (int_cmp range.0 first.0) (int_ranked range.0 first.0 (int_cmp range.0 first.0) refl) parts.0 (AreApart-insert rest apart.2 parts.1)
    where
      by : (order : Ordering) → MatchOrdering order (range.0 <ℤ first.0) (range.0 ≡ first.0) (first.0 <ℤ range.0) → touches range first ≡ false → AreApart (insert_entry int_cmp rest range.0 range.1)
          → AreApart (match_ordering order (range ∷ first ∷ rest) ((first.0, range.1) ∷ rest) (first ∷ insert_entry int_cmp rest range.0 range.1))
      by Less is missed behind = (numbers, (grind (arith, ints, numbers, is, missed, apart.0), AreAbove-less first.0 range.0 rest is apart.1), apart)
      by Equal is missed behind = absurd (grind (arith, ints, numbers, is, missed, apart.0))
      by Greater is missed behind =
          let less : first.0 <ℤ range.1 = grind (arith, ints, is, missed, apart.0) in
          (apart.0, AreAbove-insert first.0 range.1 range.0 rest less apart.1, behind)

  put_in : (passes : ℤ × ℤ → Bool) (ranges : List (ℤ × ℤ)) → AreApart ranges → list_any (touches range) ranges ≡ false → list_any passes (insert_entry int_cmp ranges range.0 range.1) ≡ (passes range || list_any passes ranges)
  put_in passes [] apart clear = refl
  put_in passes (first ∷ rest) apart clear =
      let parts = or_parts (touches range first) (list_any (touches range) rest) clear in
      by (int_cmp range.0 first.0) (int_ranked range.0 first.0 (int_cmp range.0 first.0) refl) parts.0 (put_in passes rest apart.2 parts.1)
    where
      by : (order : Ordering) → MatchOrdering order (range.0 <ℤ first.0) (range.0 ≡ first.0) (first.0 <ℤ range.0) → touches range first ≡ false → list_any passes (insert_entry int_cmp rest range.0 range.1) ≡ (passes range || list_any passes rest)
          → list_any passes (match_ordering order (range ∷ first ∷ rest) ((first.0, range.1) ∷ rest) (first ∷ insert_entry int_cmp rest range.0 range.1)) ≡ (passes range || list_any passes (first ∷ rest))
      by Less is missed behind = refl
      by Equal is missed behind = absurd (grind (arith, ints, numbers, is, missed, apart.0))
      by Greater is missed behind = rw behind (grind arith)

-- ---- ranges that meet are one

joined_meets : (range other third : ℤ × ℤ) → HasNumbers range → HasNumbers other → HasNumbers third → touches range other ≡ true → touches third (joined range other) ≡ (touches third other || touches third range)
joined_meets range other third here there beside met = grind (arith, ints, clamps, here, there, beside, met)

pub joined-has_numbers : (range other : ℤ × ℤ) → HasNumbers range → HasNumbers other → HasNumbers (joined range other)
joined-has_numbers range other here there = omega (arith, ints, clamps, here, there)

pub one_less : (before after : ℕ) (taken : Bool) → after + (if taken then 1 else 0) ≡ before → taken ≡ true → after < before
one_less before after taken count is = grind (arith, count, is)

moved : (first second rest before all : Bool) → before ≡ (first || rest) → (second || before) ≡ all → ((first || second) || rest) ≡ all
moved first second rest before all whole same = grind (arith, whole, same)

-- The steps by which ranges that are met are taken out, and the joined one is put in.
pub HaveSame-taken : (range met : ℤ × ℤ) (ranges all : List (ℤ × ℤ)) → AreApart ranges → HasNumbers range → find (touches range) ranges ≡ Some met → HaveSame (range ∷ ranges) all
    → HaveSame (joined range met ∷ remove_entry (is_at (int_cmp met.0)) ranges) all
HaveSame-taken range met ranges all apart numbers found same third beside =
    let numbers_met = found-has_numbers (touches range) ranges met apart found in
    let one = joined_meets range met third numbers numbers_met beside (found-passes (touches range) ranges met found) in
    let before = taken_out (touches range) (touches third) ranges met apart found in
    rw one (moved (touches third met) (touches third range) _ _ _ before (same third beside))

pub HaveSame-put : (range : ℤ × ℤ) (ranges all : List (ℤ × ℤ)) → AreApart ranges → HasNumbers range → list_any (touches range) ranges ≡ false → HaveSame (range ∷ ranges) all → HaveSame (insert_entry int_cmp ranges range.0 range.1) all
HaveSame-put range ranges all apart numbers clear same third beside = put_in range numbers (touches third) ranges apart clear ∙ same third beside
