-- A loop that goes on ends alike in every order of its iterations.
use Rattle.std.proofs.Common.{◌≡◌, ℕ, Bool, true, false, ◌||◌, List, [], ◌∷◌, map, All, Some, None, refl, sym, ap, ◌∙◌}
use Rattle.std.proofs.lemmas.Bool.{false≢true}
use Rattle.std.proofs.lemmas.List.Elements.{All-nil, All-cons, All-head, All-tail}
use Rattle.std.proofs.lemmas.List.Sorted.{All-permutation, IsPermutation-map}
use Rattle.std.proofs.lemmas.Option.{none-some}
use Rattle.std.specs.Prelude.{ℤ, is_some, find, if◌then◌else◌}
use Rattle.std.specs.List.{list_any}
use Rattle.std.specs.List.Sorted.{IsPermutation}
use Rattle.dc_int.specs.declared.access.ElementId.{ElementId}
use Rattle.dc_int.specs.declared.variable.Locality.{Locality}
use Rattle.dc_int.specs.Entries.{touches}
use Rattle.dc_int.specs.Store.{Store, cell_of, same_element, elements_of}
use Rattle.dc_int.proofs.Elements.{elements-complete}
use Rattle.dc_int.proofs.Stores.{same_element-is}
use Rattle.dc_code.specs.Laws.{IsFramed, DiffersAtRead, KeepsLocality, KeepLocality, IsCombinable, EndsAlike, NothingWrong, alone_runs, may_touch}
use Rattle.dc_code.specs.Loops.{Loop, Passage, alone, order, closed}
use Rattle.dc_code.specs.Pairs.{clashes}
use Rattle.dc_code.specs.Verdicts.{go_on, verdict}
use Rattle.dc_code.proofs.Alone.{done_alone, order-alone}
use Rattle.dc_code.proofs.Closings.{closing-permuted}
use Rattle.dc_code.proofs.Judged.{nothing-wrong}
use Rattle.dc_code.proofs.Permuted.{clashes-permuted}
use Rattle.dc_code.proofs.Reduced.{HoldsCombinable}

-- What is not found among some elements fails the test.
none-found
    : (test : ElementId → Bool) (elements : List ElementId) (x : ElementId) → find test elements ≡ None → list_any (same_element x) elements ≡ true
    → test x ≡ false
none-found test [] x none among = absurd (false≢true among)
none-found test (y ∷ elements) x none among = by (test y) refl (same_element x y) refl none among (none-found test elements x)
  where
    by
        : (a : Bool) → test y ≡ a → (b : Bool) → same_element x y ≡ b → (if a then Some y else find test elements) ≡ None
        → (b || list_any (same_element x) elements) ≡ true
        → (find test elements ≡ None → list_any (same_element x) elements ≡ true → test x ≡ false) → test x ≡ false
    by true passes b is none among later = absurd (none-some y (sym none))
    by false fails true is none among later = ap test (same_element-is x y is) ∙ fails
    by false fails false is none among later = later none among

module _ (loop : Loop) (store : Store) (framed : IsFramed loop) (differs : DiffersAtRead loop) where
  abbrev locality : ℕ → Locality
  locality = loop.form.localities.locality

  never-touched
      : (iterations : List (List ℤ)) → KeepLocality loop store iterations → (x : ElementId) → may_touch (locality x.variable) ≡ false
      → list_any (touches x) (alone_runs loop store iterations) ≡ false
  never-touched [] keep x never = refl
  never-touched (at ∷ rest) keep x never =
      by (touches x (alone loop store at).entries) refl (never-touched rest (All-tail (KeepsLocality loop store) at rest keep) x never)
    where
      by
          : (b : Bool) → touches x (alone loop store at).entries ≡ b → list_any (touches x) (alone_runs loop store rest) ≡ false
          → (b || list_any (touches x) (alone_runs loop store rest)) ≡ false
      by true touched later = absurd (false≢true (sym never ∙ (All-head (KeepsLocality loop store) at rest keep).allowed x touched))
      by false apart later = later

  all-combinable : (iterations : List (List ℤ)) → KeepLocality loop store iterations → All (All (IsCombinable loop.form.localities)) (alone_runs loop store iterations)
  all-combinable [] keep = All-nil (All (IsCombinable loop.form.localities))
  all-combinable (at ∷ rest) keep =
      All-cons (All (IsCombinable loop.form.localities)) (alone loop store at).entries (alone_runs loop store rest)
      (All-head (KeepsLocality loop store) at rest keep).contributed (all-combinable rest (All-tail (KeepsLocality loop store) at rest keep))

  -- Where nothing is wrong, every order of the iterations ends alike.
  pub ends-alike
      : (iterations ordered : List (List ℤ)) → KeepLocality loop store iterations → HoldsCombinable loop.form.localities store
      → NothingWrong loop store iterations
      → IsPermutation iterations ordered
      → EndsAlike loop store iterations ordered
  ends-alike iterations ordered keep holds nothing permuted =
      let keep_too = All-permutation (KeepsLocality loop store) iterations ordered permuted keep in
      let runs = alone_runs loop store iterations in
      let others = alone_runs loop store ordered in
      let runs_permuted : IsPermutation runs others =
      IsPermutation-map (λ (passage : Passage). passage.entries) (map (alone loop store) iterations) (map (alone loop store) ordered)
      (IsPermutation-map (alone loop store) iterations ordered permuted) in
      let apart : (x : ElementId) → is_some (cell_of store x) ≡ true → clashes (locality x.variable) x runs ≡ false =
      λ x some. none-found (λ (y : ElementId). clashes (locality y.variable) y runs) (elements_of store) x nothing.clash
      (elements-complete store x some) in
      let apart_too : (x : ElementId) → is_some (cell_of store x) ≡ true → clashes (locality x.variable) x others ≡ false =
      λ x some. sym (clashes-permuted (locality x.variable) x runs others runs_permuted) ∙ apart x some in
      let well = All-permutation (λ at. (alone loop store at).trouble ≡ None) iterations ordered permuted nothing.well in
      let ascending : order loop [] store iterations ≡ done_alone loop store store iterations =
      order-alone loop store framed iterations keep nothing.well apart in
      let other : order loop [] store ordered ≡ done_alone loop store store ordered = order-alone loop store framed ordered keep_too well apart_too in
      let same : closed loop (done_alone loop store store iterations) ≡ closed loop (done_alone loop store store ordered) =
      closing-permuted loop.form.localities loop.form.line store runs others runs_permuted apart (never-touched iterations keep)
      (never-touched ordered keep_too)
      (all-combinable iterations keep) holds in
      record {
        runs = ap (λ o. o.runs) other;
        ends = record {
          well = ap (λ o. o.trouble) other;
          unbroken = λ x some. ap (λ o. clashes (locality x.variable) x o.runs) other ∙ apart_too x some;
          closing = ap (closed loop) other ∙ sym same ∙ ap (closed loop) (sym ascending);
        };
      }

-- Where the verdict is that the loop goes on, every order of its iterations ends alike.
pub goes-on_alike
    : (loop : Loop) (store : Store) → IsFramed loop → DiffersAtRead loop → HoldsCombinable loop.form.localities store
    → (iterations : List (List ℤ)) → KeepLocality loop store iterations → verdict loop store iterations ≡ go_on
    → (ordered : List (List ℤ)) → IsPermutation iterations ordered → EndsAlike loop store iterations ordered
goes-on_alike loop store framed differs holds iterations keep told ordered permuted =
    ends-alike loop store framed differs iterations ordered keep holds (nothing-wrong loop store framed differs iterations keep told) permuted
