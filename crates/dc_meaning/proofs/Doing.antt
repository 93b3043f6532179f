-- What a computation does is only what it may: which elements it accesses, in which states it leaves these, and at
-- which events it pauses.
use Rattle.std.proofs.Common.{◌≡◌, ℕ, zero, suc, List, All, Option, Some, None, refl, subst}
use Rattle.std.proofs.lemmas.List.Elements.{All-nil, All-cons}
use Rattle.std.proofs.lemmas.Option.{none-some, same_Some}
use Rattle.std.specs.Prelude.{ℤ, slice_get, true}
use Rattle.dc_int.specs.declared.access.Access.{Access}
use Rattle.dc_int.specs.declared.access.ElementId.{ElementId}
use Rattle.dc_int.specs.declared.variable.Shape.{Shape}
use Rattle.dc_int.specs.Entries.{Reads, Defines, Undefines, accesses_of}
use Rattle.dc_int.specs.Shapes.{state_fits}
use Rattle.dc_int.specs.Store.{Bounds, Store, value_at, put_at, bounds_of}
use Rattle.dc_code.specs.Closing.{Localities}
use Rattle.dc_code.specs.Computation.{give, fail, read, define, undefine, contribute, ask, pause, sequence, over}
use Rattle.dc_code.specs.Laws.{NeverPauses, IsCombinable, DefinesFitting}
use Rattle.dc_code.specs.Troubles.{Event, Computing}

-- ---- what may be done

-- The elements that may be accessed, the states in which each of these may be left, and the events at which there
-- may be a pause.
pub record May : Type 1 where
  pub access : ElementId → Type 0
  pub leave : ElementId → Option ℤ → Type 0
  pub pause_at : Event → Type 0

abbrev pub Any : {A : Type 0} → A → Type 0
Any a = Unit {0}

abbrev pub Never : {A : Type 0} → A → Type 0
Never a = ⊥

-- An expression may read elements with P.
abbrev pub reading : (ElementId → Type 0) → May
reading P = record { access = P; leave = λ x state. ⊥; pause_at = Never }

-- A block without loops and output may access elements with P, and leave them in states with L.
abbrev pub quietly : (ElementId → Type 0) → (ElementId → Option ℤ → Type 0) → May
quietly P L = record { access = P; leave = L; pause_at = Never }

-- It does only what it may, whatever is read and told, and Q holds of the result. There is no contribution.
abbrev pub Only : {A : Type 0} → May → (A → Type 0) → Computing A → Type 0
Only may Q (give a) = Q a
Only may Q (fail trouble) = Unit {0}
Only may Q (read x line rest) = may.access x × ((state : Option ℤ) → Only may Q (rest state))
Only may Q (define x value line rest) = may.access x × may.leave x (Some value) × Only may Q rest
Only may Q (undefine x line rest) = may.access x × may.leave x None × Only may Q rest
Only may Q (contribute x op value rest) = ⊥
Only may Q (ask variable rest) = (bounds : Option Bounds) → Only may Q (rest bounds)
Only may Q (pause event rest) = may.pause_at event × ((told : ℤ) → Only may Q (rest told))

pub only-then : {A B : Type 0} (may : May) (Q : A → Type 0) (R : B → Type 0) (c : Computing A) (next : A → Computing B) → Only may Q c
    → ((a : A) → Q a → Only may R (next a)) → Only may R (sequence c next)
only-then may Q R (give a) next only later = later a only
only-then may Q R (fail trouble) next only later = tt
only-then may Q R (read x line rest) next only later = (only.0, λ state. only-then may Q R (rest state) next (only.1 state) later)
only-then may Q R (define x value line rest) next only later = (only.0, only.1, only-then may Q R rest next only.2 later)
only-then may Q R (undefine x line rest) next only later = (only.0, only.1, only-then may Q R rest next only.2 later)
only-then may Q R (contribute x op value rest) next only later = absurd only
only-then may Q R (ask variable rest) next only later = λ bounds. only-then may Q R (rest bounds) next (only bounds) later
only-then may Q R (pause event rest) next only later = (only.0, λ told. only-then may Q R (rest told) next (only.1 told) later)

pub only-any : {A : Type 0} (may : May) (Q : A → Type 0) (c : Computing A) → Only may Q c → Only may Any c
only-any may Q (give a) only = tt
only-any may Q (fail trouble) only = tt
only-any may Q (read x line rest) only = (only.0, λ state. only-any may Q (rest state) (only.1 state))
only-any may Q (define x value line rest) only = (only.0, only.1, only-any may Q rest only.2)
only-any may Q (undefine x line rest) only = (only.0, only.1, only-any may Q rest only.2)
only-any may Q (contribute x op value rest) only = absurd only
only-any may Q (ask variable rest) only = λ bounds. only-any may Q (rest bounds) (only bounds)
only-any may Q (pause event rest) only = (only.0, λ told. only-any may Q (rest told) (only.1 told))

-- ---- what follows

-- The accesses over a store are of elements that may be accessed.
pub only-made : {A : Type 0} (may : May) (Q : A → Type 0) (store : Store) (c : Computing A) → Only may Q c → (k : ℕ) (access : Access)
    → slice_get (accesses_of (over store c).entries) k ≡ Some access → may.access access.element
only-made may Q store (give a) only k access e = absurd (none-some access e)
only-made may Q store (fail trouble) only k access e = absurd (none-some access e)
only-made may Q store (read x line rest) only zero access e = subst (λ (a : Access). may.access a.element) (same_Some _ access e) only.0
only-made may Q store (read x line rest) only (suc k) access e = only-made may Q store (rest (value_at store x)) (only.1 (value_at store x)) k access e
only-made may Q store (define x value line rest) only zero access e = subst (λ (a : Access). may.access a.element) (same_Some _ access e) only.0
only-made may Q store (define x value line rest) only (suc k) access e = only-made may Q (put_at store x (Some value)) rest only.2 k access e
only-made may Q store (undefine x line rest) only zero access e = subst (λ (a : Access). may.access a.element) (same_Some _ access e) only.0
only-made may Q store (undefine x line rest) only (suc k) access e = only-made may Q (put_at store x None) rest only.2 k access e
only-made may Q store (contribute x op value rest) only k access e = absurd only
only-made may Q store (ask variable rest) only k access e = only-made may Q store (rest (bounds_of store variable)) (only (bounds_of store variable)) k access e
only-made may Q store (pause event rest) only k access e = absurd (none-some access e)

-- Where no pause is allowed, there is none.
pub only-quiet : {A : Type 0} (may : May) (Q : A → Type 0) (c : Computing A) → ((event : Event) → may.pause_at event → ⊥) → Only may Q c → NeverPauses c
only-quiet may Q (give a) none only = tt
only-quiet may Q (fail trouble) none only = tt
only-quiet may Q (read x line rest) none only = λ state. only-quiet may Q (rest state) none (only.1 state)
only-quiet may Q (define x value line rest) none only = only-quiet may Q rest none only.2
only-quiet may Q (undefine x line rest) none only = only-quiet may Q rest none only.2
only-quiet may Q (contribute x op value rest) none only = absurd only
only-quiet may Q (ask variable rest) none only = λ bounds. only-quiet may Q (rest bounds) none (only bounds)
only-quiet may Q (pause event rest) none only = absurd (none event only.0)

-- All contributions can be combined, since there are none.
pub only-contributes : {A : Type 0} (may : May) (Q : A → Type 0) (localities : Localities) (store : Store) (c : Computing A) → Only may Q c
    → All (IsCombinable localities) (over store c).entries
only-contributes may Q localities store (give a) only = All-nil (IsCombinable localities)
only-contributes may Q localities store (fail trouble) only = All-nil (IsCombinable localities)
only-contributes may Q localities store (read x line rest) only =
    All-cons (IsCombinable localities) (Reads x line) (over store (rest (value_at store x))).entries tt
    (only-contributes may Q localities store (rest (value_at store x)) (only.1 (value_at store x)))
only-contributes may Q localities store (define x value line rest) only =
    let after = put_at store x (Some value) in
    All-cons (IsCombinable localities) (Defines x value line) (over after rest).entries tt (only-contributes may Q localities after rest only.2)
only-contributes may Q localities store (undefine x line rest) only =
    let after = put_at store x None in
    All-cons (IsCombinable localities) (Undefines x line) (over after rest).entries tt (only-contributes may Q localities after rest only.2)
only-contributes may Q localities store (contribute x op value rest) only = absurd only
only-contributes may Q localities store (ask variable rest) only = only-contributes may Q localities store (rest (bounds_of store variable)) (only (bounds_of store variable))
only-contributes may Q localities store (pause event rest) only = All-nil (IsCombinable localities)

-- Where elements may be left only in states that fit, each definition is of a value that fits.
pub only-defines : {A : Type 0} (may : May) (Q : A → Type 0) (shapes : List Shape) (c : Computing A)
    → ((x : ElementId) (value : ℤ) → may.leave x (Some value) → state_fits shapes x (Some value) ≡ true) → Only may Q c → DefinesFitting shapes c
only-defines may Q shapes (give a) fit only = tt
only-defines may Q shapes (fail trouble) fit only = tt
only-defines may Q shapes (read x line rest) fit only = λ state fits. only-defines may Q shapes (rest state) fit (only.1 state)
only-defines may Q shapes (define x value line rest) fit only = (fit x value only.1, only-defines may Q shapes rest fit only.2)
only-defines may Q shapes (undefine x line rest) fit only = only-defines may Q shapes rest fit only.2
only-defines may Q shapes (contribute x op value rest) fit only = absurd only
only-defines may Q shapes (ask variable rest) fit only = λ bounds. only-defines may Q shapes (rest bounds) fit (only bounds)
only-defines may Q shapes (pause event rest) fit only = λ told. only-defines may Q shapes (rest told) fit (only.1 told)

-- Where no element may be left in any state, the store stays as it is.
pub only-stays : {A : Type 0} (may : May) (Q : A → Type 0) (store : Store) (c : Computing A) → ((x : ElementId) (state : Option ℤ) → may.leave x state → ⊥) → Only may Q c
    → (over store c).store ≡ store
only-stays may Q store (give a) none only = refl
only-stays may Q store (fail trouble) none only = refl
only-stays may Q store (read x line rest) none only = only-stays may Q store (rest (value_at store x)) none (only.1 (value_at store x))
only-stays may Q store (define x value line rest) none only = absurd (none x (Some value) only.1)
only-stays may Q store (undefine x line rest) none only = absurd (none x None only.1)
only-stays may Q store (contribute x op value rest) none only = absurd only
only-stays may Q store (ask variable rest) none only = only-stays may Q store (rest (bounds_of store variable)) none (only (bounds_of store variable))
only-stays may Q store (pause event rest) none only = refl
