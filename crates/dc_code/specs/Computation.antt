-- Computations: what a block, a mask, a header or a run of code does, as a tree of questions to the
-- store and of entries. The store is no part of it; it is put under the tree by `over`. So one law
-- about computations holds of trees and of code at once. This project's own.
use Rattle.std.specs.Prelude.{◌≡◌, ℕ, ◌≢◌, true, false, List, [], ◌∷◌, ◌++◌, Option, Some, None, is_some, ℤ}
use Rattle.dc_int.specs.declared.access.ElementId.{ElementId}
use Rattle.dc_int.specs.declared.operation.ReduceOp.{ReduceOp}
use Rattle.dc_int.specs.Store.{Bounds, Store, cell_of, value_at, put_at, bounds_of}
use Rattle.dc_int.specs.Entries.{Entry, Reads, Defines, Undefines, Contributes, exposes, touches}

-- A computation that gives an A, ends badly with a T, or pauses at an E. Each step is an entry but
-- for two: a question for the bounds of a variable, and a pause, which is told a number when it
-- goes on. The entry of a read is there also where the element turns out to be undefined.
pub data Computation (E T A : Type 0) : Type 0 where
  give : A → Computation E T A
  fail : T → Computation E T A
  read : ElementId → ℕ → (Option ℤ → Computation E T A) → Computation E T A
  define : ElementId → ℤ → ℕ → Computation E T A → Computation E T A
  undefine : ElementId → ℕ → Computation E T A → Computation E T A
  contribute : ElementId → ReduceOp → ℤ → Computation E T A → Computation E T A
  ask : ℕ → (Option Bounds → Computation E T A) → Computation E T A
  pause : E → (ℤ → Computation E T A) → Computation E T A

-- First this, then what its result asks for.
abbrev pub sequence : {E T A B : Type 0} → Computation E T A → (A → Computation E T B) → Computation E T B
sequence (give a) next = next a
sequence (fail trouble) next = fail trouble
sequence (read x line rest) next = read x line (λ state. sequence (rest state) next)
sequence (define x value line rest) next = define x value line (sequence rest next)
sequence (undefine x line rest) next = undefine x line (sequence rest next)
sequence (contribute x op value rest) next = contribute x op value (sequence rest next)
sequence (ask variable rest) next = ask variable (λ bounds. sequence (rest bounds) next)
sequence (pause event rest) next = pause event (λ told. sequence (rest told) next)

-- The same for `do` blocks.
infixl 20 ◌>>=◌
abbrev pub ◌>>=◌ : {E T A B : Type 0} → Computation E T A → (A → Computation E T B) → Computation E T B
c >>= next = sequence c next

-- Where a computation over a store ends: with its result, with trouble, or at a pause with what is
-- left to do.
pub data Reached (E T A : Type 0) : Type 0 where
  done : A → Reached E T A
  bad : T → Reached E T A
  paused : E → (ℤ → Computation E T A) → Reached E T A

-- What a computation does over a store: its entries in order, the store after, and where it ends.
pub record Run (E T A : Type 0) : Type 0 where
  pub entries : List Entry
  pub store : Store
  pub reached : Reached E T A

abbrev pub without_entries : {E T A : Type 0} → Store → Reached E T A → Run E T A
without_entries store reached = record { entries = []; store = store; reached = reached }

abbrev pub behind_entries : {E T A : Type 0} → List Entry → Run E T A → Run E T A
behind_entries entries run = record { entries = entries ++ run.entries; store = run.store; reached = run.reached }

abbrev pub over : {E T A : Type 0} → Store → Computation E T A → Run E T A
over store (give a) = without_entries store (done a)
over store (fail trouble) = without_entries store (bad trouble)
over store (read x line rest) = behind_entries (Reads x line ∷ []) (over store (rest (value_at store x)))
over store (define x value line rest) = behind_entries (Defines x value line ∷ []) (over (put_at store x (Some value)) rest)
over store (undefine x line rest) = behind_entries (Undefines x line ∷ []) (over (put_at store x None) rest)
over store (contribute x op value rest) = behind_entries (Contributes x op value ∷ []) (over store rest)
over store (ask variable rest) = over store (rest (bounds_of store variable))
over store (pause event rest) = without_entries store (paused event rest)

-- What follows where a run has ended.
abbrev pub followed : {E T A B : Type 0} → Run E T A → (A → Computation E T B) → Run E T B
followed run next = behind_entries run.entries (from run.store run.reached next)
  where
    from : {E T A B : Type 0} → Store → Reached E T A → (A → Computation E T B) → Run E T B
    from store (done a) next = over store (next a)
    from store (bad trouble) next = without_entries store (bad trouble)
    from store (paused event rest) next = without_entries store (paused event (λ told. sequence (rest told) next))

-- Two stores have the same elements and bounds.
pub record SameShape (first second : Store) : Type 0 where
  pub elements : (x : ElementId) → is_some (cell_of first x) ≡ is_some (cell_of second x)
  pub bounds : (variable : ℕ) → bounds_of first variable ≡ bounds_of second variable

-- Two stores agree for these entries: they have the same elements and bounds, and the same value of
-- each element with an exposed read among the entries.
pub record Agree (first second : Store) (entries : List Entry) : Type 0 where
  pub shape : SameShape first second
  pub exposed : (x : ElementId) → exposes x entries ≡ true → value_at first x ≡ value_at second x

-- Over another store that agrees, a computation makes the same entries and ends alike.
pub record SameRun {E T A : Type 0} (first second : Run E T A) : Type 0 where
  pub entries : second.entries ≡ first.entries
  pub reached : second.reached ≡ first.reached

-- The first difference of two runs of one computation: after the same entries both read an element
-- that was not touched before, and of which the stores hold different states.
pub record FirstDifference (first second : Store) (left right : List Entry) : Type 0 where
  pub before : List Entry
  pub element : ElementId
  pub line : ℕ
  pub left_rest : List Entry
  pub right_rest : List Entry
  pub left_is : left ≡ before ++ Reads element line ∷ left_rest
  pub right_is : right ≡ before ++ Reads element line ∷ right_rest
  pub fresh : touches element before ≡ false
  pub differ : value_at first element ≢ value_at second element
