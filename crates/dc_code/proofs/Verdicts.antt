-- What a verdict shows of the iterations that it names.
use Rattle.std.proofs.Common.{◌≡◌, ℕ, suc, Bool, true, false, List, [], ◌∷◌, map, Option, Some, None, refl, sym, ap, ◌∙◌, subst}
use Rattle.std.proofs.lemmas.Bool.{false≢true}
use Rattle.std.proofs.lemmas.List.Elements.{All-nil, All-cons}
use Rattle.std.proofs.lemmas.Option.{none-some, same_Some}
use Rattle.std.specs.Prelude.{ℤ, slice_get, option_and_then}
use Rattle.dc_int.specs.declared.access.ElementId.{ElementId}
use Rattle.dc_int.specs.Entries.{Entry}
use Rattle.dc_int.specs.Store.{Store}
use Rattle.dc_code.specs.declared.verdict.Race.{Race}
use Rattle.dc_code.specs.Laws.{alone_runs, EndWell}
use Rattle.dc_code.specs.Loops.{Loop, Passage, alone, order}
use Rattle.dc_code.specs.Pairs.{first_clash, pair}
use Rattle.dc_code.specs.Troubles.{Trouble}
use Rattle.dc_code.specs.Verdicts.{Verdict, go_on, at_header, in_iteration, race, first_of, or_later, bad_iteration, race_in, race_between, race_among, verdict}

-- What is handed on came of something.
pub record HandedOn {A B : Type 0} (option : Option A) (next : A → Option B) (b : B) : Type 0 where
  pub item : A
  pub is : option ≡ Some item
  pub next_is : next item ≡ Some b

pub handed_on : {A B : Type 0} (option : Option A) (next : A → Option B) (b : B) → option_and_then next option ≡ Some b → HandedOn option next b
handed_on None next b e = absurd (none-some b e)
handed_on (Some a) next b e = record { item = a; is = refl; next_is = e }

-- ---- a race

-- The verdict is the race of the iterations i and j.
pub record RaceBetween (loop : Loop) (store : Store) (iterations : List (List ℤ)) (i j : ℕ) (said : Verdict) : Type 0 where
  pub first : List ℤ
  pub second : List ℤ
  pub found : Race
  pub first_is : slice_get iterations i ≡ Some first
  pub second_is : slice_get iterations j ≡ Some second
  pub found_is : race_in loop.form.localities.locality i j (order loop [] store (first ∷ second ∷ [])).runs ≡ Some found
  pub said_is : said ≡ race found first second

-- the steps of `race_between`, each behind what the one before it found
abbrev pub told_of : Loop → Store → ℕ → ℕ → List ℤ → List ℤ → Option Race
told_of loop store i j first second = race_in loop.form.localities.locality i j (order loop [] store (first ∷ second ∷ [])).runs

abbrev pub behind_second : Loop → Store → ℕ → ℕ → List ℤ → List ℤ → Option Verdict
behind_second loop store i j first second = option_and_then (λ found. Some (race found first second)) (told_of loop store i j first second)

abbrev pub behind_first : Loop → Store → List (List ℤ) → ℕ → ℕ → List ℤ → Option Verdict
behind_first loop store iterations i j first = option_and_then (behind_second loop store i j first) (slice_get iterations j)

pub race-between
    : (loop : Loop) (store : Store) (iterations : List (List ℤ)) (i j : ℕ) (said : Verdict)
    → race_between loop store iterations (i, j) ≡ Some said → RaceBetween loop store iterations i j said
race-between loop store iterations i j said e =
    let one : HandedOn (slice_get iterations i) (behind_first loop store iterations i j) said =
    handed_on (slice_get iterations i) (behind_first loop store iterations i j) said e in
    let two = handed_on (slice_get iterations j) (behind_second loop store i j one.item) said one.next_is in
    let three = handed_on (told_of loop store i j one.item two.item) (λ found. Some (race found one.item two.item)) said two.next_is in
    record {
      first = one.item;
      second = two.item;
      found = three.item;
      first_is = one.is;
      second_is = two.is;
      found_is = three.is;
      said_is = sym (same_Some (race three.item one.item two.item) said three.next_is);
    }

-- what `race_among` goes on with behind a clash
abbrev pub behind_clash : Loop → Store → List (List ℤ) → List (List Entry) → ElementId → Option Verdict
behind_clash loop store iterations runs x =
    option_and_then (race_between loop store iterations) (pair (loop.form.localities.locality x.variable) x runs)

-- The verdict is the race that the least clashing element names.
pub record RaceAmong (loop : Loop) (store : Store) (iterations : List (List ℤ)) (runs : List (List Entry)) (said : Verdict) : Type 0 where
  pub x : ElementId
  pub i : ℕ
  pub j : ℕ
  pub clash : first_clash loop.form.localities.locality store runs ≡ Some x
  pub named : pair (loop.form.localities.locality x.variable) x runs ≡ Some (i, j)
  pub between : RaceBetween loop store iterations i j said

pub race-among
    : (loop : Loop) (store : Store) (iterations : List (List ℤ)) (runs : List (List Entry)) (said : Verdict)
    → race_among loop store iterations runs ≡ Some said → RaceAmong loop store iterations runs said
race-among loop store iterations runs said e =
    let one = handed_on (first_clash loop.form.localities.locality store runs) (behind_clash loop store iterations runs) said e in
    let two = handed_on (pair (loop.form.localities.locality one.item.variable) one.item runs) (race_between loop store iterations) said one.next_is in
    record {
      x = one.item;
      i = two.item.0;
      j = two.item.1;
      clash = one.is;
      named = two.is;
      between =
          race-between loop store iterations two.item.0 two.item.1 said two.next_is;
    }

-- ---- the parts of a verdict

-- the verdict tells of a race
abbrev is_race : Verdict → Bool
is_race (race found first second) = true
is_race said = false

among-is_race
    : (loop : Loop) (store : Store) (iterations : List (List ℤ)) (runs : List (List Entry)) (said : Verdict)
    → race_among loop store iterations runs ≡ Some said → is_race said ≡ true
among-is_race loop store iterations runs said e = ap is_race (race-among loop store iterations runs said e).between.said_is

-- A verdict that tells of an iteration has the trouble that this one meets alone.
bad-alone
    : (loop : Loop) (store : Store) (iterations : List (List ℤ)) (met : Trouble) (at : List ℤ)
    → bad_iteration iterations (map (alone loop store) iterations) ≡ Some (in_iteration met at) → (alone loop store at).trouble ≡ Some met
bad-alone loop store [] met at e = absurd (none-some (in_iteration met at) e)
bad-alone loop store (other ∷ rest) met at e = by (alone loop store other).trouble refl e (bad-alone loop store rest met at)
  where
    by
        : (trouble : Option Trouble) → (alone loop store other).trouble ≡ trouble
        → or_later other trouble (bad_iteration rest (map (alone loop store) rest)) ≡ Some (in_iteration met at)
        → (bad_iteration rest (map (alone loop store) rest) ≡ Some (in_iteration met at) → (alone loop store at).trouble ≡ Some met)
        → (alone loop store at).trouble ≡ Some met
    by (Some trouble) is e later =
        let same : in_iteration trouble other ≡ in_iteration met at = same_Some (in_iteration trouble other) (in_iteration met at) e in
        let same_trouble : trouble ≡ met = cc in
        let same_values : other ≡ at = cc in
        subst (λ values. (alone loop store values).trouble ≡ Some met) same_values (is ∙ ap (λ (t : Trouble). Some t) same_trouble)
    by None is e later = later e

-- A verdict that tells of an iteration is that of the first one that doesn't end well.
told-bad
    : (loop : Loop) (store : Store) (iterations : List (List ℤ)) (met : Trouble) (at : List ℤ)
    → verdict loop store iterations ≡ in_iteration met at
    → bad_iteration iterations (map (alone loop store) iterations) ≡ Some (in_iteration met at)
told-bad loop store iterations met at told =
    by (bad_iteration iterations (map (alone loop store) iterations)) refl
    (race_among loop store iterations (alone_runs loop store iterations)) refl told
  where
    by
        : (bad : Option Verdict) → bad_iteration iterations (map (alone loop store) iterations) ≡ bad
        → (raced : Option Verdict) → race_among loop store iterations (alone_runs loop store iterations) ≡ raced
        → first_of bad raced ≡ in_iteration met at
        → bad_iteration iterations (map (alone loop store) iterations) ≡ Some (in_iteration met at)
    by (Some said) bad_is raced raced_is e = bad_is ∙ ap (λ (v : Verdict). Some v) e
    by None bad_is (Some said) raced_is e =
        let shown : is_race said ≡ true = among-is_race loop store iterations (alone_runs loop store iterations) said raced_is in
        let told : is_race said ≡ false = ap is_race e in
        cc
    by None bad_is None raced_is e = cc

pub told-alone
    : (loop : Loop) (store : Store) (iterations : List (List ℤ)) (met : Trouble) (at : List ℤ)
    → verdict loop store iterations ≡ in_iteration met at → (alone loop store at).trouble ≡ Some met
told-alone loop store iterations met at told = bad-alone loop store iterations met at (told-bad loop store iterations met at told)

-- It is one of the iterations.
bad-place
    : (iterations : List (List ℤ)) (passages : List Passage) (met : Trouble) (at : List ℤ)
    → bad_iteration iterations passages ≡ Some (in_iteration met at) → (place : ℕ) × (slice_get iterations place ≡ Some at)
bad-place [] passages met at e = absurd (none-some (in_iteration met at) e)
bad-place (other ∷ rest) [] met at e = absurd (none-some (in_iteration met at) e)
bad-place (other ∷ rest) (passage ∷ passages) met at e = by passage.trouble e (bad-place rest passages met at)
  where
    by
        : (trouble : Option Trouble) → or_later other trouble (bad_iteration rest passages) ≡ Some (in_iteration met at)
        → (bad_iteration rest passages ≡ Some (in_iteration met at) → (place : ℕ) × (slice_get rest place ≡ Some at))
        → (place : ℕ) × (slice_get (other ∷ rest) place ≡ Some at)
    by (Some trouble) e later =
        let same : in_iteration trouble other ≡ in_iteration met at = same_Some (in_iteration trouble other) (in_iteration met at) e in
        let same_values : other ≡ at = cc in
        (0, ap (λ (values : List ℤ). Some values) same_values)
    by None e later = let found = later e in (suc found.0, found.1)

pub told-place
    : (loop : Loop) (store : Store) (iterations : List (List ℤ)) (met : Trouble) (at : List ℤ)
    → verdict loop store iterations ≡ in_iteration met at → (place : ℕ) × (slice_get iterations place ≡ Some at)
told-place loop store iterations met at told =
    bad-place iterations (map (alone loop store) iterations) met at (told-bad loop store iterations met at told)

bad-is_race
    : (iterations : List (List ℤ)) (passages : List Passage) (said : Verdict) → bad_iteration iterations passages ≡ Some said → is_race said ≡ false
bad-is_race [] passages said e = absurd (none-some said e)
bad-is_race (at ∷ rest) [] said e = absurd (none-some said e)
bad-is_race (at ∷ rest) (passage ∷ passages) said e = by passage.trouble e (bad-is_race rest passages said)
  where
    by
        : (trouble : Option Trouble) → or_later at trouble (bad_iteration rest passages) ≡ Some said
        → (bad_iteration rest passages ≡ Some said → is_race said ≡ false) → is_race said ≡ false
    by (Some met) e later = ap is_race (sym (same_Some (in_iteration met at) said e))
    by None e later = later e

-- A verdict of a race is that of the least clashing element.
pub told-race
    : (loop : Loop) (store : Store) (iterations : List (List ℤ)) (found : Race) (first second : List ℤ)
    → verdict loop store iterations ≡ race found first second
    → RaceAmong loop store iterations (alone_runs loop store iterations) (race found first second)
told-race loop store iterations found first second told =
    by (bad_iteration iterations (map (alone loop store) iterations)) refl
    (race_among loop store iterations (alone_runs loop store iterations)) refl told
  where
    by
        : (bad : Option Verdict) → bad_iteration iterations (map (alone loop store) iterations) ≡ bad
        → (raced : Option Verdict) → race_among loop store iterations (alone_runs loop store iterations) ≡ raced
        → first_of bad raced ≡ race found first second
        → RaceAmong loop store iterations (alone_runs loop store iterations) (race found first second)
    by (Some said) bad_is raced raced_is e =
        let shown : is_race said ≡ false = bad-is_race iterations (map (alone loop store) iterations) said bad_is in
        let told : is_race said ≡ true = ap is_race e in
        absurd (false≢true (sym shown ∙ told))
    by None bad_is (Some said) raced_is e =
        race-among loop store iterations (alone_runs loop store iterations) (race found first second) (raced_is ∙ ap (λ (v : Verdict). Some v) e)
    by None bad_is None raced_is e = cc

-- ---- iterations have no header

abbrev is_at_header : Verdict → Bool
is_at_header (at_header trouble) = true
is_at_header said = false

bad-no_header
    : (iterations : List (List ℤ)) (passages : List Passage) (said : Verdict) → bad_iteration iterations passages ≡ Some said
    → is_at_header said ≡ false
bad-no_header [] passages said e = absurd (none-some said e)
bad-no_header (at ∷ rest) [] said e = absurd (none-some said e)
bad-no_header (at ∷ rest) (passage ∷ passages) said e = by passage.trouble e (bad-no_header rest passages said)
  where
    by
        : (trouble : Option Trouble) → or_later at trouble (bad_iteration rest passages) ≡ Some said
        → (bad_iteration rest passages ≡ Some said → is_at_header said ≡ false) → is_at_header said ≡ false
    by (Some met) e later = ap is_at_header (sym (same_Some (in_iteration met at) said e))
    by None e later = later e

-- A verdict on iterations is no header's trouble.
pub told-no_header
    : (loop : Loop) (store : Store) (iterations : List (List ℤ)) (trouble : Trouble) → verdict loop store iterations ≡ at_header trouble → ⊥
told-no_header loop store iterations trouble told =
    by (bad_iteration iterations (map (alone loop store) iterations)) refl
    (race_among loop store iterations (alone_runs loop store iterations)) refl told
  where
    by
        : (bad : Option Verdict) → bad_iteration iterations (map (alone loop store) iterations) ≡ bad
        → (raced : Option Verdict) → race_among loop store iterations (alone_runs loop store iterations) ≡ raced
        → first_of bad raced ≡ at_header trouble → ⊥
    by (Some said) bad_is raced raced_is e =
        false≢true (sym (bad-no_header iterations (map (alone loop store) iterations) said bad_is) ∙ ap is_at_header e)
    by None bad_is (Some said) raced_is e =
        let among = race-among loop store iterations (alone_runs loop store iterations) said raced_is in
        false≢true (sym (ap is_at_header among.between.said_is) ∙ ap is_at_header e)
    by None bad_is None raced_is e = false≢true (ap is_at_header e)

-- ---- a loop that goes on

abbrev goes_on : Verdict → Bool
goes_on go_on = true
goes_on said = false

bad-goes_on
    : (iterations : List (List ℤ)) (passages : List Passage) (said : Verdict) → bad_iteration iterations passages ≡ Some said → goes_on said ≡ false
bad-goes_on [] passages said e = absurd (none-some said e)
bad-goes_on (at ∷ rest) [] said e = absurd (none-some said e)
bad-goes_on (at ∷ rest) (passage ∷ passages) said e = by passage.trouble e (bad-goes_on rest passages said)
  where
    by
        : (trouble : Option Trouble) → or_later at trouble (bad_iteration rest passages) ≡ Some said
        → (bad_iteration rest passages ≡ Some said → goes_on said ≡ false) → goes_on said ≡ false
    by (Some met) e later = ap goes_on (sym (same_Some (in_iteration met at) said e))
    by None e later = later e

-- No iteration is told as one that doesn't end well, and no race.
pub record TellsNothing (loop : Loop) (store : Store) (iterations : List (List ℤ)) : Type 0 where
  pub bad : bad_iteration iterations (map (alone loop store) iterations) ≡ None
  pub raced : race_among loop store iterations (alone_runs loop store iterations) ≡ None

pub told-nothing
    : (loop : Loop) (store : Store) (iterations : List (List ℤ)) → verdict loop store iterations ≡ go_on → TellsNothing loop store iterations
told-nothing loop store iterations told =
    by (bad_iteration iterations (map (alone loop store) iterations)) refl
    (race_among loop store iterations (alone_runs loop store iterations)) refl told
  where
    by
        : (bad : Option Verdict) → bad_iteration iterations (map (alone loop store) iterations) ≡ bad
        → (raced : Option Verdict) → race_among loop store iterations (alone_runs loop store iterations) ≡ raced
        → first_of bad raced ≡ go_on → TellsNothing loop store iterations
    by (Some said) bad_is raced raced_is e =
        absurd (false≢true (sym (bad-goes_on iterations (map (alone loop store) iterations) said bad_is) ∙ ap goes_on e))
    by None bad_is (Some said) raced_is e =
        let among = race-among loop store iterations (alone_runs loop store iterations) said raced_is in
        absurd (false≢true (sym (ap goes_on among.between.said_is) ∙ ap goes_on e))
    by None bad_is None raced_is e = record { bad = bad_is; raced = raced_is }

-- So each iteration ends well.
pub none-bad-end_well
    : (loop : Loop) (store : Store) (iterations : List (List ℤ)) → bad_iteration iterations (map (alone loop store) iterations) ≡ None
    → EndWell loop store iterations
none-bad-end_well loop store [] none = All-nil (λ at. (alone loop store at).trouble ≡ None)
none-bad-end_well loop store (at ∷ rest) none = by (alone loop store at).trouble refl none (none-bad-end_well loop store rest)
  where
    by
        : (trouble : Option Trouble) → (alone loop store at).trouble ≡ trouble
        → or_later at trouble (bad_iteration rest (map (alone loop store) rest)) ≡ None
        → (bad_iteration rest (map (alone loop store) rest) ≡ None → EndWell loop store rest) → EndWell loop store (at ∷ rest)
    by (Some met) is e later = absurd (none-some (in_iteration met at) (sym e))
    by None is e later = All-cons (λ a. (alone loop store a).trouble ≡ None) at rest is (later e)
