-- What the plain judge asks of a loop, and what its steps leave. No clause of a public call rests on it but
-- through what these records say.
use Rattle.std.specs.Prelude.{◌≡◌, ℕ, ◌+◌, false, List, [], ◌∷◌, map, slice_get, Option, Some, None, Result, Ok, Err, ℤ, IsTrue}
use Rattle.dc_int.specs.declared.fault.Why.{Why}
use Rattle.dc_int.specs.Entries.{Entry, store_after}
use Rattle.dc_int.specs.Store.{Store}
use Rattle.dc_code.specs.declared.verdict.Verdict as answers
use Rattle.dc_code.specs.Loops.{Passage, Loop, alone, Ordered, order, closed}
use Rattle.dc_code.specs.Troubles.{ended}
use Rattle.dc_code.specs.Verdicts.{Verdict, go_on, in_iteration, race, bad_iteration, verdict, seen}
use Rattle.dc_tree.specs.Blocks.{Items, items}
use Rattle.dc_tree.specs.Entities.{Scope}
use Rattle.dc_entities.specs.Found.{IsNamed}
use Rattle.dc_plain.specs.Marks.{Marks, marked_all, marked_runs}
use Rattle.dc_plain.specs.Plainly.{plain}
use Rattle.dc_plain.specs.Views.{View}
use Rattle.dc_sorts.specs.Standing.{standing_of, scope_at}
use Rattle.dc_meaning.specs.declared.stop.Stop.{Stop}
use Rattle.dc_walk.specs.declared.task.Task.{Task}
use Rattle.dc_walk.specs.declared.judge.Bad as code
use Rattle.dc_walk.specs.declared.judge.Told.{Told}
use Rattle.dc_walk.specs.Alone.{trouble_of}
use Rattle.dc_meaning.specs.Execution.{exec_all}
use Rattle.dc_meaning.specs.WalkScope.{index_names}
use Rattle.dc_walk.specs.Flows.{Finishes}
use Rattle.dc_walk.specs.Walked.{is_walked_block}

-- ---- one iteration

-- The cells hold what an iteration did: its entries, the store after, and how it ended.
pub record IsDone (passage : Passage) (view : View) (met : Option (Why × ℕ)) : Type 0 where
  pub entries : view.entries ≡ passage.entries
  pub store : view.store ≡ passage.store
  pub orders : passage.orders ≡ []
  pub trouble : passage.trouble ≡ trouble_of met

abbrev pub IsDoneBy : Passage → View → Result (Unit {0}) Stop → Type 0
IsDoneBy passage view (Ok well) = IsDone passage view None
IsDoneBy passage view (Err (Stop.Failed why line)) = IsDone passage view (Some (why, line))
IsDoneBy passage view (Err Stop.NoMemory) = Unit

abbrev pub fresh : Store → View
fresh store = record { store = store; entries = [] }

-- What the walker does for a block in a scope, given so many turns, is an iteration of the loop.
pub record IsRunBy (parts : Loop) (turns : ℕ) (scope : Scope) (block : Items) : Type 0 where
  pub runs
      : (z : ℤ) (store : Store) (after : View) (result : Result (Unit {0}) Stop)
      → ((number : ℕ) → Finishes ((Some z ∷ []) ∷ []) turns (fresh store) (λ call. exec_all scope call number block) after result)
      → IsDoneBy (parts.block store [] (z ∷ [])) after result

-- All variables of the loop have unspecified locality, and its iterations are told by their entries.
pub record IsPlainly (parts : Loop) : Type 0 where
  pub locality : parts.form.localities.locality ≡ plain
  pub passed : parts.form.localities.passed ≡ (λ variable. false)
  pub orders : (store : Store) (z : ℤ) → (parts.block store [] (z ∷ [])).orders ≡ []
  pub replays : (store : Store) (z : ℤ) → (parts.block store [] (z ∷ [])).store ≡ store_after (parts.block store [] (z ∷ [])).entries store

-- A loop that the judge can run.
pub record IsTask (parts : Loop) (task : Task) : Type 0 where
  pub named : IsNamed task.standing task.numbering.now
  pub walked : IsTrue (is_walked_block (scope_at (standing_of task.standing)) (index_names task.standing) (items task.body.now))
  pub run : IsRunBy parts task.turns (scope_at (standing_of task.standing)) (items task.body.now)
  pub plainly : IsPlainly parts

-- How an iteration ended, and the marks with what it did.
pub record IsOne (passage : Passage) (n : ℕ) (before after : Marks) (met : Option (Why × ℕ)) : Type 0 where
  pub trouble : passage.trouble ≡ trouble_of met
  pub marks : after ≡ marked_all n passage.entries before

-- ---- all iterations

abbrev pub combination : ℤ → List ℤ
combination z = z ∷ []

-- A race that was found, as a verdict.
abbrev pub told_of : Told → Verdict
told_of told = race told.race (combination told.first) (combination told.second)

abbrev pub alone_passages : Loop → Store → List ℤ → List Passage
alone_passages parts store active = map (λ z. alone parts store (combination z)) active

abbrev pub entries_in : Passage → List Entry
entries_in passage = passage.entries

abbrev pub bad_of : Loop → Store → List ℤ → Option Verdict
bad_of parts store active = bad_iteration (map combination active) (alone_passages parts store active)

-- An iteration that doesn't end well, among those with these index values.
pub record IsBad (active : List ℤ) (said : Option Verdict) (bad : code.Bad) : Type 0 where
  pub at : ℤ
  pub place : slice_get active bad.iteration ≡ Some at
  pub is : said ≡ Some (in_iteration (ended bad.why bad.line []) (combination at))

abbrev pub runs_of : Loop → Store → List ℤ → List (List Entry)
runs_of parts store active = map entries_in (alone_passages parts store active)

-- What is left of the marks after iterations that are counted from a number on: the marks of all, where all
-- ended well, or the first that didn't.
abbrev pub IsMarkedFrom : Loop → Store → ℕ → List ℤ → Marks → Marks → Option code.Bad → Type 0
IsMarkedFrom parts store n active before after None = (bad_of parts store active ≡ None) × (after ≡ marked_runs n (runs_of parts store active) before)
IsMarkedFrom parts store n active before after (Some bad) =
    (at : ℤ) × (bad_of parts store active ≡ Some (in_iteration (ended bad.why bad.line []) (combination at))) × (k : ℕ) × (slice_get active k ≡ Some at) × (bad.iteration ≡ n + k)

abbrev pub IsMarked : Loop → Store → List ℤ → Marks → Marks → Option code.Bad → Type 0
IsMarked parts store active before after bad = IsMarkedFrom parts store 0 active before after bad

-- What an order leaves: its store, and the marks with what its iterations did.
pub record IsOrdered (ordered : Ordered) (before : Marks) (store : Store) (after : Marks) : Type 0 where
  pub store_is : store ≡ ordered.store
  pub marks : after ≡ marked_runs 0 ordered.runs before

-- ---- the verdict

-- The store behind a loop: the closing store where it goes on, and else the store before it.
abbrev pub store_behind : Loop → Store → List ℤ → Verdict → Store
store_behind parts store active go_on = closed parts (order parts [] store (map combination active))
store_behind parts store active other = store

-- The verdict on the iterations with these index values, and the store behind the loop.
pub record IsJudged (parts : Loop) (store : Store) (active : List ℤ) (after : Store) (said : answers.Verdict) : Type 0 where
  pub verdict_is : verdict parts store (map combination active) ≡ seen said
  pub store_is : after ≡ store_behind parts store active (seen said)
