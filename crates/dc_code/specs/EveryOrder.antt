-- What the verdict on a loop of the main program says of every order of its iterations. This project's own, on
-- ISO/IEC 1539-1:2023, clauses 11.1.7.4 and 11.1.7.5.
use Rattle.std.specs.Prelude.{◌≡◌, ◌⊎◌, ℕ, List, [], ◌∷◌, slice_get, Some, ℤ}
use Rattle.std.specs.List.Sorted.{IsPermutation}
use Rattle.dc_int.specs.Store.{Store}
use Rattle.dc_code.specs.declared.verdict.Race.{Race}
use Rattle.dc_code.specs.Computation.{done, bad, over}
use Rattle.dc_code.specs.Inner.{judging}
use Rattle.dc_code.specs.Laws.{EndsAt, EndsWith, BeginsWithRace, NamesIterations}
use Rattle.dc_code.specs.Loops.{HeaderResult, header_of, Loop, order}
use Rattle.dc_code.specs.Troubles.{Trouble}
use Rattle.dc_code.specs.Verdicts.{Verdict, go_on, at_header, in_iteration, race}
use Rattle.dc_code.specs.Visits.{visited}

-- Every order of the iterations ends with this one store.
pub record AllEndWith (loop : Loop) (store : Store) (iterations : List (List ℤ)) (after : Store) : Type 0 where
  pub each : (ordered : List (List ℤ)) → IsPermutation iterations ordered → EndsWith loop store ordered after

-- One of the iterations has these index values, and every order that begins with it ends at it, with this
-- trouble.
pub record EndsAll (loop : Loop) (store : Store) (iterations : List (List ℤ)) (met : Trouble) (at : List ℤ) : Type 0 where
  pub place : ℕ
  pub is : slice_get iterations place ≡ Some at
  pub each : (rest : List (List ℤ)) → EndsAt loop store at met (order loop [] store (at ∷ rest))

-- Two different iterations have these index values, and in every order that begins with the two, one after
-- the other, they break the restriction of the element that is named.
pub record BreaksAll (loop : Loop) (store : Store) (iterations : List (List ℤ)) (found : Race) (first second : List ℤ) : Type 0 where
  pub names : NamesIterations found iterations first second
  pub each : (rest : List (List ℤ)) → BeginsWithRace loop.form.localities.locality found (order loop [] store (first ∷ second ∷ rest))

-- What a verdict says of these iterations, and of the store behind the loop where it goes on. Of iterations no
-- header's trouble is told.
abbrev pub HoldsInOrders : Loop → Store → List (List ℤ) → Store → Verdict → Type 0
HoldsInOrders loop store iterations after go_on = AllEndWith loop store iterations after
HoldsInOrders loop store iterations after (at_header trouble) = ⊥
HoldsInOrders loop store iterations after (in_iteration met at) = EndsAll loop store iterations met at
HoldsInOrders loop store iterations after (race found first second) = BreaksAll loop store iterations found first second

-- The header meets trouble, which is what is told.
pub record TellsHeader (loop : Loop) (turns : ℕ) (store : Store) : Type 0 where
  pub trouble : Trouble
  pub met : (over store (header_of loop.form turns)).reached ≡ bad trouble
  pub is : (visited judging loop turns store).verdict ≡ at_header trouble

-- The header gives iterations, and what is told holds in every order of these.
pub record TellsOrders (loop : Loop) (turns : ℕ) (store : Store) : Type 0 where
  pub given : HeaderResult
  pub opens : (over store (header_of loop.form turns)).reached ≡ done given
  pub holds : HoldsInOrders loop store given.iterations (visited judging loop turns store).store (visited judging loop turns store).verdict

-- What is said of the loop, where it is reached with so many turns over this store: the trouble of its header,
-- or what holds in every order of the iterations that its header gives.
pub record SaysOfOrders (loop : Loop) (turns : ℕ) (store : Store) : Type 0 where
  pub says : TellsHeader loop turns store ⊎ TellsOrders loop turns store
