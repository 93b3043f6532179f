-- Orders that begin with the iterations that a verdict names.
use Rattle.std.proofs.Common.{◌≡◌, ℕ, List, [], ◌∷◌, Option, Some, None, refl, sym, ap, ◌∙◌}
use Rattle.std.proofs.lemmas.Option.{none-some}
use Rattle.std.specs.Prelude.{ℤ, is_none, if◌then◌else◌}
use Rattle.dc_int.specs.Store.{Store}
use Rattle.dc_code.specs.declared.verdict.Race.{Race}
use Rattle.dc_code.specs.Laws.{EndsAt, BeginsWithRace}
use Rattle.dc_code.specs.Loops.{Loop, Passage, Ordered, Orders, alone, order, joined, behind_one, nothing_done}
use Rattle.dc_code.specs.Troubles.{Trouble}
use Rattle.dc_code.specs.Verdicts.{in_iteration, race, race_in, race_of, verdict}
use Rattle.dc_code.proofs.Races.{race-is_real}
use Rattle.dc_code.proofs.Verdicts.{RaceBetween, told-alone, told-race}

-- What follows an iteration that met trouble is nothing.
pub behind-bad
    : (passage : Passage) (rest : Orders → Store → Ordered) (met : Trouble) → passage.trouble ≡ Some met
    → behind_one passage rest ≡ joined passage (nothing_done passage.store passage.orders passage.trouble)
behind-bad passage rest met bad =
    ap (λ trouble. joined passage
    (if is_none trouble then rest passage.orders passage.store else nothing_done passage.store passage.orders passage.trouble)) bad

-- What follows an iteration that ended well is the rest.
pub behind-good
    : (passage : Passage) (rest : Orders → Store → Ordered) → passage.trouble ≡ None
    → behind_one passage rest ≡ joined passage (rest passage.orders passage.store)
behind-good passage rest good =
    ap (λ trouble. joined passage
    (if is_none trouble then rest passage.orders passage.store else nothing_done passage.store passage.orders passage.trouble)) good

-- The iteration of a verdict, in front of any others, is the only one of the order.
pub bad-ends
    : (loop : Loop) (store : Store) (iterations : List (List ℤ)) (met : Trouble) (at : List ℤ)
    → verdict loop store iterations ≡ in_iteration met at
    → (rest : List (List ℤ)) → EndsAt loop store at met (order loop [] store (at ∷ rest))
bad-ends loop store iterations met at told rest =
    let bad = told-alone loop store iterations met at told in
    let only = behind-bad (alone loop store at) (λ left after. order loop left after rest) met bad in
    record { runs = ap (λ ordered. ordered.runs) only; trouble = ap (λ ordered. ordered.trouble) only ∙ bad }

-- ---- a race

-- what the second of two iterations does, run behind the first
abbrev pub behind_it : Loop → Store → List ℤ → List ℤ → Passage
behind_it loop store first second = loop.block (alone loop store first).store (alone loop store first).orders second

-- what an order does behind its second iteration
abbrev behind_both : Loop → Store → List ℤ → List ℤ → List (List ℤ) → Ordered
behind_both loop store first second rest = behind_one (behind_it loop store first second) (λ left after. order loop left after rest)

two-runs
    : (loop : Loop) (store : Store) (first second : List ℤ) (rest : List (List ℤ)) → (alone loop store first).trouble ≡ None
    → order loop [] store (first ∷ second ∷ rest) ≡ joined (alone loop store first) (behind_both loop store first second rest)
two-runs loop store first second rest good = behind-good (alone loop store first) (λ left after. order loop left after (second ∷ rest)) good

-- behind a last iteration nothing is run
nothing-behind : (passage : Passage) → (behind_one passage (λ left after. nothing_done after left None)).runs ≡ passage.entries ∷ []
nothing-behind passage = ap (λ runs. passage.entries ∷ runs) (by passage.trouble)
  where
    by
        : (trouble : Option Trouble)
        → (if is_none trouble then nothing_done passage.store passage.orders None
        else nothing_done passage.store passage.orders passage.trouble).runs ≡ []
    by (Some met) = refl
    by None = refl

-- Where the first of two iterations ends well, both are run.
pub pair-runs
    : (loop : Loop) (store : Store) (first second : List ℤ) → (alone loop store first).trouble ≡ None
    → (order loop [] store (first ∷ second ∷ [])).runs ≡ (alone loop store first).entries ∷ (behind_it loop store first second).entries ∷ []
pair-runs loop store first second good =
    ap (λ ordered. ordered.runs) (two-runs loop store first second [] good)
    ∙ ap (λ runs. (alone loop store first).entries ∷ runs) (nothing-behind (behind_it loop store first second))

-- The iterations of a race are run, and the race is real in them.
race-begins
    : (loop : Loop) (store : Store) (i j : ℕ) (found : Race) (first second : List ℤ)
    → race_in loop.form.localities.locality i j (order loop [] store (first ∷ second ∷ [])).runs ≡ Some found
    → (rest : List (List ℤ)) → BeginsWithRace loop.form.localities.locality found (order loop [] store (first ∷ second ∷ rest))
race-begins loop store i j found first second told rest = by (alone loop store first).trouble refl
  where
    by
        : (trouble : Option Trouble) → (alone loop store first).trouble ≡ trouble
        → BeginsWithRace loop.form.localities.locality found (order loop [] store (first ∷ second ∷ rest))
    by (Some met) bad =
        let only : (order loop [] store (first ∷ second ∷ [])).runs ≡ (alone loop store first).entries ∷ [] =
        ap (λ ordered. ordered.runs) (behind-bad (alone loop store first) (λ left after. order loop left after (second ∷ [])) met bad) in
        absurd (none-some found (sym (ap (race_in loop.form.localities.locality i j) only) ∙ told))
    by None good =
        let of_two
        : race_of loop.form.localities.locality i j (alone loop store first).entries (behind_it loop store first second).entries ≡ Some found =
        sym (ap (race_in loop.form.localities.locality i j) (pair-runs loop store first second good)) ∙ told in
        record {
          one = (alone loop store first).entries;
          other = (behind_it loop store first second).entries;
          later = _;
          runs = ap (λ ordered. ordered.runs) (two-runs loop store first second rest good);
          real = (race-is_real loop.form.localities.locality i j (alone loop store first).entries
              (behind_it loop store first second).entries found of_two).real;
        }

-- Races that are the same as verdicts have the same parts.
pub same-race
    : (found other : Race) (first second third fourth : List ℤ) → race found first second ≡ race other third fourth
    → (found ≡ other) × (first ≡ third) × (second ≡ fourth)
same-race found other first second third fourth same =
    let of_found : found ≡ other = cc in
    let of_first : first ≡ third = cc in
    let of_second : second ≡ fourth = cc in
    (of_found, of_first, of_second)

-- the race of a verdict, by its iterations
race-between-begins
    : (loop : Loop) (store : Store) (iterations : List (List ℤ)) (i j : ℕ) (found : Race) (first second : List ℤ)
    → RaceBetween loop store iterations i j (race found first second)
    → (rest : List (List ℤ)) → BeginsWithRace loop.form.localities.locality found (order loop [] store (first ∷ second ∷ rest))
race-between-begins loop store iterations i j found first second told rest =
    let same = same-race found told.found first second told.first told.second told.said_is in
    rw (same.0, same.1, same.2) (race-begins loop store i j told.found told.first told.second told.found_is rest)

-- Every order that begins with the two iterations of a verdict begins with its race.
pub race-in_order
    : (loop : Loop) (store : Store) (iterations : List (List ℤ)) (found : Race) (first second : List ℤ)
    → verdict loop store iterations ≡ race found first second
    → (rest : List (List ℤ)) → BeginsWithRace loop.form.localities.locality found (order loop [] store (first ∷ second ∷ rest))
race-in_order loop store iterations found first second told rest =
    let among = told-race loop store iterations found first second told in
    race-between-begins loop store iterations among.i among.j found first second among.between rest
