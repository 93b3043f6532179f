-- What a computation does to a store and to the list of the entries made so far, as the walker keeps them.
-- This project's own.
use Rattle.std.specs.Prelude.{◌≡◌, ℕ, [], ◌∷◌, ◌++◌, Result, Ok, Err}
use Rattle.dc_int.specs.Entries.{Reads, Defines, Undefines, Contributes}
use Rattle.dc_int.specs.Store.{value_at, bounds_of}
use Rattle.dc_code.specs.Computation.{Computation, give, fail, read, define, undefine, contribute, ask, pause, Reached, done, bad, paused, Run}
use Rattle.dc_code.specs.Troubles.{Computing, Slots}
use Rattle.dc_plain.specs.Views.{View, noted}
use Rattle.dc_meaning.specs.declared.stop.Stop.{Stop}
use Rattle.dc_meaning.specs.Acts.{State, Act}
use Rattle.dc_meaning.specs.Values.{Callee}

-- What a computation leaves of a view, and where it ends.
abbrev pub seen_over : {E T A : Type 0} → View → Computation E T A → View × Reached E T A
seen_over view (give a) = (view, done a)
seen_over view (fail trouble) = (view, bad trouble)
seen_over view (read x line rest) = seen_over (noted (Reads x line) view) (rest (value_at view.store x))
seen_over view (define x value line rest) = seen_over (noted (Defines x value line) view) rest
seen_over view (undefine x line rest) = seen_over (noted (Undefines x line) view) rest
seen_over view (contribute x op value rest) = seen_over (noted (Contributes x op value) view) rest
seen_over view (ask variable rest) = seen_over view (rest (bounds_of view.store variable))
seen_over view (pause event rest) = (view, paused event rest)

-- A view with a run behind it.
abbrev pub behind_view : {E T A : Type 0} → View → Run E T A → View × Reached E T A
behind_view view run = (record { store = run.store; entries = view.entries ++ run.entries }, run.reached)

-- The state of a block with these entities and so many turns left.
abbrev pub state_in : Slots → ℕ → State
state_in own turns = record { frames = record { slots = own; dummies = [] } ∷ []; turns = turns }

-- What the walker answers for an act from a state is what that does: its result, as `tell` sees it, and the
-- state that it leaves, or how it ends badly. Nothing is said where memory was wanting.
abbrev pub Answers : {A B : Type 0} → (A → B) → View → Computing (B × State) → State → View → Result A Stop → Type 0
Answers tell before c left after (Ok a) = seen_over before c ≡ (after, done (tell a, left))
Answers tell before c left after (Err (Stop.Failed why line)) = seen_over before c ≡ (after, bad (record { why = why; line = line }))
Answers tell before c left after (Err Stop.NoMemory) = Unit

-- The same whatever a call does.
pub record Walks {A B : Type 0} (tell : A → B) (state : State) (before : View) (act : Callee → Act B) (left : State) (after : View) (result : Result A Stop) : Type 0 where
  pub answers : (call : Callee) → Answers tell before (act call state) left after result

-- The same of an act that spends no turns, however many are left, and leaves the block's entities as they are.
pub record Stays {A B : Type 0} (tell : A → B) (own : Slots) (before : View) (act : Callee → Act B) (after : View) (result : Result A Stop) : Type 0 where
  pub each : (turns : ℕ) → Walks tell (state_in own turns) before act (state_in own turns) after result
