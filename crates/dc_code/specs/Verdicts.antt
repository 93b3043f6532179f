-- The verdict on a loop, whole: `judgement`, the first that applies of the header's trouble, the trouble of the
-- least iteration that, alone, doesn't end well, a race, and that the loop goes on with its closing store. This
-- project's own, on the restrictions of ISO/IEC 1539-1:2023, clause 11.1.7.5.
use Rattle.std.specs.Prelude.{ℕ, List, [], ◌∷◌, map, slice_get, Option, Some, None, option_and_then, ℤ}
use Rattle.dc_int.specs.declared.access.Access.{Access}
use Rattle.dc_int.specs.declared.fault.Why.{Why}
use Rattle.dc_int.specs.declared.variable.Locality.{Locality}
use Rattle.dc_int.specs.Entries.{Entry, access_of}
use Rattle.dc_int.specs.Store.{Store}
use Rattle.dc_code.specs.declared.verdict.Party.{Party}
use Rattle.dc_code.specs.declared.verdict.Race.{Race}
use Rattle.dc_code.specs.declared.verdict.Verdict as answers
use Rattle.dc_code.specs.Breaks.{first_break, named_beside}
use Rattle.dc_code.specs.Computation.{Reached, done, bad, paused, over}
use Rattle.dc_code.specs.Loops.{Loop, Passage, HeaderResult, header_of, alone, order, closed}
use Rattle.dc_code.specs.Pairs.{first_clash, pair}
use Rattle.dc_code.specs.Troubles.{Trouble, Side, ended, masked, raced, inside}

pub data Verdict : Type 0 where
  go_on : Verdict
  at_header : Trouble → Verdict
  in_iteration : Trouble → List ℤ → Verdict
  race : Race → List ℤ → List ℤ → Verdict

-- What an option holds is handed on, for `do` blocks.
infixl 20 ◌>>=◌
abbrev ◌>>=◌ : {A B : Type 0} → Option A → (A → Option B) → Option B
option >>= next = option_and_then next option

-- ---- the least iteration that doesn't end well

abbrev pub or_later : List ℤ → Option Trouble → Option Verdict → Option Verdict
or_later at (Some trouble) later = Some (in_iteration trouble at)
or_later at None later = later

abbrev pub bad_iteration : List (List ℤ) → List Passage → Option Verdict
bad_iteration (at ∷ rest) (passage ∷ passages) = or_later at passage.trouble (bad_iteration rest passages)
bad_iteration iterations passages = None

-- ---- the race

abbrev pub party : ℕ → Access → Party
party iteration access = record { iteration = iteration; action = access.action; line = access.line }

-- The race of the iterations i and j, by what they did in succession: the first break, and the access
-- that is named beside it.
abbrev pub race_of : (ℕ → Locality) → ℕ → ℕ → List Entry → List Entry → Option Race
race_of locality i j first second = do
  breaking ← first_break locality first second
  beside ← named_beside locality first breaking
  access ← access_of breaking
  other ← access_of beside
  Some (record { element = access.element; first = party i other; second = party j access })

abbrev pub race_in : (ℕ → Locality) → ℕ → ℕ → List (List Entry) → Option Race
race_in locality i j (first ∷ second ∷ []) = race_of locality i j first second
race_in locality i j runs = None

-- The race of a pair (i, j), which is run again, i and then j, over one store.
abbrev pub race_between : Loop → Store → List (List ℤ) → ℕ × ℕ → Option Verdict
race_between loop store iterations (i, j) = do
  first ← slice_get iterations i
  second ← slice_get iterations j
  found ← race_in loop.form.localities.locality i j (order loop [] store (first ∷ second ∷ [])).runs
  Some (race found first second)

-- The race that the least clashing element names, if one clashes.
abbrev pub race_among : Loop → Store → List (List ℤ) → List (List Entry) → Option Verdict
race_among loop store iterations runs = do
  x ← first_clash loop.form.localities.locality store runs
  named ← pair (loop.form.localities.locality x.variable) x runs
  race_between loop store iterations named

-- ---- the verdict on iterations

abbrev pub first_of : Option Verdict → Option Verdict → Verdict
first_of (Some verdict) other = verdict
first_of None (Some verdict) = verdict
first_of None None = go_on

-- The verdict by what each iteration does alone.
abbrev pub judged : Loop → Store → List (List ℤ) → List Passage → Verdict
judged loop store iterations passages =
    first_of (bad_iteration iterations passages) (race_among loop store iterations (map (λ passage. passage.entries) passages))

-- The verdict on these iterations, over the store with which the loop is reached.
abbrev pub verdict : Loop → Store → List (List ℤ) → Verdict
verdict loop store iterations = judged loop store iterations (map (alone loop store) iterations)

-- ---- the verdict on a loop

-- What is said of a loop, and the store and the turns behind it.
pub record Visited : Type 0 where
  pub verdict : Verdict
  pub store : Store
  pub turns : ℕ

-- Where a loop doesn't go on, the store stays.
abbrev pub stays : Store → Verdict → Visited
stays store said = record { verdict = said; store = store; turns = 0 }

-- By the verdict on the iterations that a header gave. Where the loop goes on, the store behind it is the
-- closing store of the iterations in ascending order.
abbrev pub visited_by : Loop → Store → HeaderResult → Verdict → Visited
visited_by loop store given go_on = record { verdict = go_on; store = closed loop (order loop [] store given.iterations); turns = given.turns }
visited_by loop store given said = stays store said

-- By how the header ended: with its trouble, or with the iterations.
abbrev pub judged_by : Loop → Store → Reached ⊥ Trouble HeaderResult → Visited
judged_by loop store (bad trouble) = stays store (at_header trouble)
judged_by loop store (done given) = visited_by loop store given (verdict loop store given.iterations)
judged_by loop store (paused event rest) = absurd event

-- The verdict on a loop that is reached with so many turns over this store, and what is behind it: the first of
-- these that applies.
-- 1. The header's trouble.
-- 2. The trouble of the least iteration that, alone, doesn't end well.
-- 3. A race, where an element clashes.
-- 4. The loop goes on, with the closing store.
abbrev pub judgement : Loop → ℕ → Store → Visited
judgement loop turns store = judged_by loop store (over store (header_of loop.form turns)).reached

-- ---- as trouble

abbrev pub side : Party → List ℤ → Side
side party at = record { at = at; action = party.action; line = party.line }

-- The trouble that a verdict tells of, as it is seen from outside the loop.
abbrev pub trouble_in : Verdict → Option Trouble
trouble_in go_on = None
trouble_in (at_header trouble) = Some trouble
trouble_in (in_iteration trouble at) = Some (inside at trouble)
trouble_in (race found first second) = Some (raced found.element (side found.first first) (side found.second second) [])

-- ---- as the code answers it

abbrev pub header_trouble : Why → ℕ → Option (List ℤ) → Trouble
header_trouble why line None = ended why line []
header_trouble why line (Some mask) = masked why line [] mask

abbrev pub seen : answers.Verdict → Verdict
seen answers.Verdict.GoOn = go_on
seen (answers.Verdict.HeaderFault why line mask) = at_header (header_trouble why line mask)
seen (answers.Verdict.IterFault why line at) = in_iteration (ended (Why.Fault why) line []) at
seen (answers.Verdict.IterSpent line at) = in_iteration (ended Why.Spent line []) at
seen (answers.Verdict.Race found first_at second_at) = race found first_at second_at
