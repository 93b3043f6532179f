-- Where all iterations end well and an element clashes, the verdict is a race.
use Rattle.std.proofs.Common.{◌≡◌, ◌≢◌, ◌⊎◌, inl, inr, ℕ, zero, suc, Bool, true, false, not, List, [], ◌∷◌, map, All, Option, Some, None, refl, sym, ap, ◌∙◌, subst}
use Rattle.std.proofs.lemmas.Bool.{false≢true, cases_Bool}
use Rattle.std.proofs.lemmas.List.Elements.{All-head, All-tail}
use Rattle.std.proofs.lemmas.Option.{none-some, same_Some}
use Rattle.std.specs.Prelude.{ℤ, slice_get, find, option_and_then, if◌then◌else◌}
use Rattle.dc_int.specs.declared.access.ElementId.{ElementId}
use Rattle.dc_int.specs.declared.variable.Locality.{Locality}
use Rattle.dc_int.specs.Entries.{Entry, Reads, touches, store_after}
use Rattle.dc_int.specs.Store.{Store, elements_of}
use Rattle.dc_code.specs.declared.verdict.Race.{Race}
use Rattle.dc_code.specs.Breaks.{breaks, reading_breaks}
use Rattle.dc_code.specs.Computation.{FirstDifference}
use Rattle.dc_code.specs.Laws.{SamePassage, SameStart, IsFramed, DiffersAtRead, KeepsLocality, KeepLocality, EndWell, TellsRace, NamesIterations, NothingWrong, alone_runs, may_touch}
use Rattle.dc_code.specs.Loops.{Loop, Passage, alone, order}
use Rattle.dc_code.specs.Pairs.{clashes, first_clash}
use Rattle.dc_code.specs.Verdicts.{go_on, race, first_of, or_later, bad_iteration, race_in, race_between, race_among, verdict}
use Rattle.dc_code.proofs.Clashes.{HasBreak, breaks-somewhere, broken-has_break, break-has_race}
use Rattle.dc_code.proofs.Orders.{behind_it, pair-runs, same-race}
use Rattle.dc_code.proofs.Pairs.{pair-breaks, and-true}
use Rattle.dc_code.proofs.Races.{race-is_real}
use Rattle.dc_code.proofs.Stores.{shape-after, value-untouched}
use Rattle.dc_code.proofs.Verdicts.{behind_first, behind_second, behind_clash, told_of, told-race, told-nothing, none-bad-end_well}

-- ---- the second of two iterations, behind the first

not-touched : (run : List Entry) (x : ElementId) → (touches x run ≡ true → ⊥) → touches x run ≡ false
not-touched run x never = elim (cases_Bool (touches x run)) [ inl touched ↦ absurd (never touched) | inr apart ↦ apart ]

module _ (loop : Loop) (store : Store) where
  -- An iteration begins alike over the store and over what another leaves of it.
  pub start-behind : (first : List ℤ) → KeepsLocality loop store first → SameStart loop.form store (store_after (alone loop store first).entries store)
  start-behind first keeps = record {
    shape = shape-after (alone loop store first).entries store;
    copied = λ x among. value-untouched (alone loop store first).entries store x
        (not-touched (alone loop store first).entries x (λ touched. false≢true (sym (keeps.apart x touched) ∙ among)));
  }

  -- a read of what the first iteration touched, and the second didn't
  fresh-read
      : (first : List ℤ) (x : ElementId) (before : List Entry) → KeepsLocality loop store first → touches x (alone loop store first).entries ≡ true
      → touches x before ≡ false
      → reading_breaks (loop.form.localities.locality x.variable) x (alone loop store first).entries before ≡ true
  fresh-read first x before keeps touched fresh = by (loop.form.localities.locality x.variable) (keeps.allowed x touched)
    where
      by : (locality : Locality) → may_touch locality ≡ true → reading_breaks locality x (alone loop store first).entries before ≡ true
      by Locality.Plain may = and-true (touches x (alone loop store first).entries) (not (touches x before)) touched (ap not fresh)
      by Locality.Shared may = touched
      by other may = absurd (false≢true may)

  module _ (framed : IsFramed loop) (differs : DiffersAtRead loop) where
    -- Behind another, an iteration runs over what that one leaves.
    pub behind-is
        : (first second : List ℤ) → behind_it loop store first second ≡ alone loop (store_after (alone loop store first).entries store) second
    behind-is first second = (λ i. loop.block (framed.replayed store first i) (framed.orders store first i) second)

    -- Where two iterations, each alone, break the restriction of an element, one run behind the other
    -- has a first break.
    pub behind-breaks
        : (first second : List ℤ) (x : ElementId) → KeepsLocality loop store first
        → breaks (loop.form.localities.locality x.variable) x (alone loop store first).entries (alone loop store second).entries ≡ true
        → HasBreak loop.form.localities.locality (alone loop store first).entries (behind_it loop store first second).entries
    behind-breaks first second x keeps broken =
        subst (λ (passage : Passage). HasBreak loop.form.localities.locality (alone loop store first).entries passage.entries)
        (sym (behind-is first second))
        (by (differs.differs store (store_after (alone loop store first).entries store) second (start-behind first keeps)))
      where
        by
            : SamePassage (alone loop store second) (alone loop (store_after (alone loop store first).entries store) second)
            ⊎ FirstDifference store (store_after (alone loop store first).entries store) (alone loop store second).entries
            (alone loop (store_after (alone loop store first).entries store) second).entries
            → HasBreak loop.form.localities.locality (alone loop store first).entries
            (alone loop (store_after (alone loop store first).entries store) second).entries
        by (inl same) =
            subst (HasBreak loop.form.localities.locality (alone loop store first).entries) (sym same.entries)
            (broken-has_break loop.form.localities.locality x (alone loop store first).entries (alone loop store second).entries broken)
        by (inr d) =
            let touched : touches d.element (alone loop store first).entries ≡ true =
            elim (cases_Bool (touches d.element (alone loop store first).entries)) [
              | inl touched ↦ touched
              | inr apart ↦ absurd (d.differ (value-untouched (alone loop store first).entries store d.element apart))
            ] in
            breaks-somewhere loop.form.localities.locality (alone loop store first).entries
            (alone loop (store_after (alone loop store first).entries store) second).entries d.before
            (Reads d.element d.line) d.right_rest d.right_is
            (fresh-read first d.element d.before keeps touched d.fresh)

-- ---- the verdict

pub found-passes : {A : Type 0} (test : A → Bool) (items : List A) (x : A) → find test items ≡ Some x → test x ≡ true
found-passes test [] x e = absurd (none-some x e)
found-passes test (item ∷ items) x e = by (test item) refl e (found-passes test items x)
  where
    by : (b : Bool) → test item ≡ b → (if b then Some item else find test items) ≡ Some x → (find test items ≡ Some x → test x ≡ true) → test x ≡ true
    by true passes e later = subst (λ a. test a ≡ true) (same_Some item x e) passes
    by false fails e later = later e

-- Where all iterations end well, none is told as one that doesn't.
pub none-bad
    : (loop : Loop) (store : Store) (iterations : List (List ℤ)) → EndWell loop store iterations
    → bad_iteration iterations (map (alone loop store) iterations) ≡ None
none-bad loop store [] well = refl
none-bad loop store (at ∷ rest) well =
    ap (λ trouble. or_later at trouble (bad_iteration rest (map (alone loop store) rest)))
    (All-head (λ a. (alone loop store a).trouble ≡ None) at rest well)
    ∙ none-bad loop store rest (All-tail (λ a. (alone loop store a).trouble ≡ None) at rest well)

all-at : {A : Type 0} (P : A → Type 0) (items : List A) (k : ℕ) (item : A) → All P items → slice_get items k ≡ Some item → P item
all-at P [] k item all is = absurd (none-some item is)
all-at P (first ∷ items) zero item all is = subst P (same_Some first item is) (All-head P first items all)
all-at P (first ∷ items) (suc k) item all is = all-at P items k item (All-tail P first items all) is

-- an iteration with this number, and the entries that it makes alone
record IterationAt (loop : Loop) (store : Store) (iterations : List (List ℤ)) (k : ℕ) (run : List Entry) : Type 0 where
  at : List ℤ
  is : slice_get iterations k ≡ Some at
  run_is : (alone loop store at).entries ≡ run

iteration-at
    : (loop : Loop) (store : Store) (iterations : List (List ℤ)) (k : ℕ) (run : List Entry)
    → slice_get (alone_runs loop store iterations) k ≡ Some run
    → IterationAt loop store iterations k run
iteration-at loop store [] k run e = absurd (none-some run e)
iteration-at loop store (at ∷ rest) zero run e = record { at = at; is = refl; run_is = same_Some (alone loop store at).entries run e }
iteration-at loop store (at ∷ rest) (suc k) run e =
    let later = iteration-at loop store rest k run e in record { at = later.at; is = later.is; run_is = later.run_is }

module _ (loop : Loop) (store : Store) (framed : IsFramed loop) (differs : DiffersAtRead loop)
    (iterations : List (List ℤ)) (keep : KeepLocality loop store iterations) (well : EndWell loop store iterations) where
  abbrev locality : ℕ → Locality
  locality = loop.form.localities.locality

  -- A race is told of two iterations that break a restriction.
  between-told
      : (i j : ℕ) (first second : List ℤ) (x : ElementId) → slice_get iterations i ≡ Some first → slice_get iterations j ≡ Some second
      → breaks (locality x.variable) x (alone loop store first).entries (alone loop store second).entries ≡ true
      → (found : Race) × (race_between loop store iterations (i, j) ≡ Some (race found first second))
  between-told i j first second x first_is second_is broken =
      let good = all-at (λ at. (alone loop store at).trouble ≡ None) iterations i first well first_is in
      let keeps = all-at (KeepsLocality loop store) iterations i first keep first_is in
      let told =
      break-has_race locality i j (alone loop store first).entries (behind_it loop store first second).entries
      (behind-breaks loop store framed differs first second x keeps broken) in
      let in_runs : told_of loop store i j first second ≡ Some told.found =
      ap (race_in locality i j) (pair-runs loop store first second good) ∙ told.is in (
        told.found,
        ap (option_and_then (behind_first loop store iterations i j)) first_is ∙ ap (option_and_then (behind_second loop store i j first)) second_is
            ∙ ap (option_and_then (λ (found : Race). Some (race found first second))) in_runs,
      )

  -- For a clashing element a race is told.
  clash-told
      : (x : ElementId) → first_clash locality store (alone_runs loop store iterations) ≡ Some x
      → (found : Race) × (first : List ℤ) × (second : List ℤ)
      × (race_among loop store iterations (alone_runs loop store iterations) ≡ Some (race found first second))
  clash-told x clash =
      let runs = alone_runs loop store iterations in
      let clashing : clashes (locality x.variable) x runs ≡ true =
      found-passes (λ (y : ElementId). clashes (locality y.variable) y runs) (elements_of store) x clash in
      let names = pair-breaks (locality x.variable) x runs clashing in
      let one = iteration-at loop store iterations names.i names.together.one names.together.one_is in
      let two = iteration-at loop store iterations names.j names.together.other names.together.other_is in
      let broken : breaks (locality x.variable) x (alone loop store one.at).entries (alone loop store two.at).entries ≡ true =
      (λ i. breaks (locality x.variable) x (one.run_is i) (two.run_is i)) ∙ names.together.broken in
      let told = between-told names.i names.j one.at two.at x one.is two.is broken in (
        told.0,
        one.at,
        two.at,
        ap (option_and_then (behind_clash loop store iterations runs)) clash
            ∙ ap (option_and_then (race_between loop store iterations)) names.named ∙ told.1,
      )

  -- A clash is a race.
  pub clash-is_race
      : (x : ElementId) → first_clash locality store (alone_runs loop store iterations) ≡ Some x → TellsRace (verdict loop store iterations)
  clash-is_race x clash =
      let told = clash-told x clash in
      record {
        found = told.0;
        first = told.1;
        second = told.2;
        is = ap (λ bad. first_of bad (race_among loop store iterations (alone_runs loop store iterations)))
            (none-bad loop store iterations well) ∙ ap (first_of None) told.3;
      }

  -- Where the loop goes on nothing is wrong.
  pub no-clash
      : race_among loop store iterations (alone_runs loop store iterations) ≡ None
      → first_clash locality store (alone_runs loop store iterations) ≡ None
  no-clash none = by (first_clash locality store (alone_runs loop store iterations)) refl
    where
      by
          : (clash : Option ElementId) → first_clash locality store (alone_runs loop store iterations) ≡ clash
          → first_clash locality store (alone_runs loop store iterations) ≡ None
      by None is = is
      by (Some x) is = let told = clash-told x is in absurd (none-some (race told.0 told.1 told.2) (sym none ∙ told.3))

-- Where the loop goes on, nothing is wrong with its iterations.
pub nothing-wrong
    : (loop : Loop) (store : Store) → IsFramed loop → DiffersAtRead loop → (iterations : List (List ℤ))
    → KeepLocality loop store iterations → verdict loop store iterations ≡ go_on
    → NothingWrong loop store iterations
nothing-wrong loop store framed differs iterations keep told =
    let nothing = told-nothing loop store iterations told in
    let well = none-bad-end_well loop store iterations nothing.bad in
    record { well = well; clash = no-clash loop store framed differs iterations keep well nothing.raced }

-- ---- the iterations of a race

race-numbers
    : (locality : ℕ → Locality) (i j : ℕ) (runs : List (List Entry)) (found : Race) → race_in locality i j runs ≡ Some found
    → (found.first.iteration ≡ i) × (found.second.iteration ≡ j)
race-numbers locality i j [] found e = absurd (none-some found e)
race-numbers locality i j (one ∷ []) found e = absurd (none-some found e)
race-numbers locality i j (one ∷ other ∷ []) found e = let told = race-is_real locality i j one other found e in (told.first_is, told.second_is)
race-numbers locality i j (one ∷ other ∷ third ∷ rest) found e = absurd (none-some found e)

-- A verdict of a race names two different iterations.
pub race-names
    : (loop : Loop) (store : Store) (iterations : List (List ℤ)) (found : Race) (first second : List ℤ)
    → verdict loop store iterations ≡ race found first second
    → NamesIterations found iterations first second
race-names loop store iterations found first second told =
    let locality = loop.form.localities.locality in
    let runs = alone_runs loop store iterations in
    let among = told-race loop store iterations found first second told in
    let clashing = found-passes (λ (y : ElementId). clashes (locality y.variable) y runs) (elements_of store) among.x among.clash in
    let names = pair-breaks (locality among.x.variable) among.x runs clashing in
    let same_pair : (among.i, among.j) ≡ (names.i, names.j) = same_Some (among.i, among.j) (names.i, names.j) (sym among.named ∙ names.named) in
    let apart : among.i ≢ among.j = λ same. names.together.different (sym (ap (λ pair. pair.0) same_pair) ∙ same ∙ ap (λ pair. pair.1) same_pair) in
    let between = among.between in
    let numbers =
    race-numbers locality among.i among.j (order loop [] store (between.first ∷ between.second ∷ [])).runs between.found between.found_is in
    let same = same-race found between.found first second between.first between.second between.said_is in
    let i_is : found.first.iteration ≡ among.i = ap (λ r. r.first.iteration) same.0 ∙ numbers.0 in
    let j_is : found.second.iteration ≡ among.j = ap (λ r. r.second.iteration) same.0 ∙ numbers.1 in
    record {
      first_is = ap (slice_get iterations) i_is ∙ between.first_is ∙ ap (λ (at : List ℤ). Some at) (sym same.1);
      second_is = ap (slice_get iterations) j_is ∙ between.second_is ∙ ap (λ (at : List ℤ). Some at) (sym same.2);
      different = λ equal. apart (sym i_is ∙ equal ∙ j_is);
    }

-- Where nothing is wrong, the loop goes on.
pub nothing-goes_on
    : (loop : Loop) (store : Store) (iterations : List (List ℤ)) → NothingWrong loop store iterations → verdict loop store iterations ≡ go_on
nothing-goes_on loop store iterations nothing =
    ap (λ bad. first_of bad (race_among loop store iterations (alone_runs loop store iterations))) (none-bad loop store iterations nothing.well)
    ∙ ap (λ clash. first_of None (option_and_then (behind_clash loop store iterations (alone_runs loop store iterations)) clash)) nothing.clash
