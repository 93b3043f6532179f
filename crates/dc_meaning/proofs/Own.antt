-- What acts do to the elements of variables is only what they may.
use Rattle.std.proofs.Common.{◌≡◌, ◌<◌, ◌≤◌, ◌+◌, ℕ, zero, suc, List, [], ◌∷◌, zip, Option, Some, None, refl, arith}
use Rattle.std.specs.Prelude.{Ok, Err, ℤ}
use Rattle.std.specs.List.{range_with_len}
use Rattle.dc_int.specs.declared.access.ElementId.{ElementId}
use Rattle.dc_int.specs.declared.fault.FaultKind.{FaultKind}
use Rattle.dc_int.specs.declared.operation.OpFault.{OpFault}
use Rattle.dc_int.specs.Operations.{Outcome}
use Rattle.dc_int.specs.Sorts.{Sort, fitted}
use Rattle.dc_int.specs.Store.{Bounds, elements_in, position_in}
use Rattle.dc_code.specs.declared.frame.Place.{Place}
use Rattle.dc_code.specs.Computation.{give}
use Rattle.dc_code.specs.Troubles.{Slots}
use Rattle.dc_tree.specs.Entities.{Entity, outside, slots, dummy, constant, function, subroutine, reduction, nothing}
use Rattle.dc_tree.specs.Typing.{sort_of_entity}
use Rattle.dc_meaning.specs.Acts as acts
use Rattle.dc_meaning.specs.Acts.{State, Act, ◌>>=◌, just, wrong, for_each, load, required, refer_to}
use Rattle.dc_meaning.specs.Headers.{inside_frame}
use Rattle.dc_meaning.specs.Places.{bounds_of_entity, position_at, place_of, element_at, whole_of, whole_values, value_at_entity}
use Rattle.dc_meaning.specs.Values.{settled}
use Rattle.dc_meaning.proofs.Doing.{May, Any, Only, only-then, only-any}
use Rattle.dc_meaning.proofs.Positions.{position-below}

pub record Own {A : Type 0} (may : May) (Q : A → Type 0) (act : Act A) : Type 0 where
  pub holds : (state : State) → Only may (λ w. Q w.0) (act state)

-- ---- places and entities

abbrev pub OwnPlace : (ElementId → Type 0) → Place → Type 0
OwnPlace P (Place.Outer x) = P x
OwnPlace P (Place.InFrame frame group position) = Unit {0}

abbrev pub Each : {A : Type 0} → (A → Type 0) → List A → Type 0
Each Q [] = Unit {0}
Each Q (a ∷ more) = Q a × Each Q more

pub any-each : {A : Type 0} (items : List A) → Each Any items
any-each [] = tt
any-each (a ∷ more) = (tt, any-each more)

range-below : (first count most : ℕ) → first + count ≤ most → Each (λ position. position < most) (range_with_len first count)
range-below first zero most inside = tt
range-below first (suc count) most inside = (omega (arith, inside), range-below (first + 1) count most (omega (arith, inside)))

pub zip-each : {A B : Type 0} (Q : A → Type 0) (items : List A) (others : List B) → Each Q items → Each (λ w. Q w.0) (zip items others)
zip-each Q [] others have = tt
zip-each Q (a ∷ more) [] have = tt
zip-each Q (a ∷ more) (b ∷ others) have = (have.0, zip-each Q more others have.1)

-- The elements of an outside variable have P. No procedure, dummy or REDUCE variable stands in the scopes of programs
-- that are run.
abbrev pub OwnEntity : (ElementId → Type 0) → Entity → Type 0
OwnEntity P (outside variable sort bounds) = (position : ℕ) → position < elements_in bounds → P (record { variable = variable; position = position })
OwnEntity P (slots group sort bounds) = Unit {0}
OwnEntity P (constant sort z) = Unit {0}
OwnEntity P nothing = Unit {0}
OwnEntity P (dummy place sort) = ⊥
OwnEntity P (function procedure sort) = ⊥
OwnEntity P (subroutine procedure intents) = ⊥
OwnEntity P (reduction variable op sort bounds) = ⊥

pub entity-weaker : (P Q : ElementId → Type 0) → ((x : ElementId) → P x → Q x) → (e : Entity) → OwnEntity P e → OwnEntity Q e
entity-weaker P Q weaker (outside variable sort bounds) own = λ position below. weaker (record { variable = variable; position = position }) (own position below)
entity-weaker P Q weaker (slots group sort bounds) own = tt
entity-weaker P Q weaker (constant sort z) own = tt
entity-weaker P Q weaker nothing own = tt
entity-weaker P Q weaker (dummy place sort) own = own
entity-weaker P Q weaker (function procedure sort) own = own
entity-weaker P Q weaker (subroutine procedure intents) own = own
entity-weaker P Q weaker (reduction variable op sort bounds) own = own

-- The element may be accessed, and left with any value as a variable of this sort takes it.
abbrev pub Takes : May → Sort → ElementId → Type 0
Takes may sort x = may.access x × ((given : ℤ) → may.leave x (Some (fitted sort given)))

-- The variable may be assigned to.
abbrev pub OwnTarget : May → Entity → Type 0
OwnTarget may e = OwnEntity (Takes may (sort_of_entity e)) e

pub target-read : (may : May) (e : Entity) → OwnTarget may e → OwnEntity may.access e
target-read may e own = entity-weaker (Takes may (sort_of_entity e)) may.access (λ x takes. takes.0) e own

-- ---- acts

module _ (may : May) where
  pub both-own : {A B : Type 0} {Q : A → Type 0} {R : B → Type 0} {first : Act A} {next : A → Act B} → Own may Q first → ((a : A) → Q a → Own may R (next a)) → Own may R (first >>= next)
  both-own {Q = Q} {R = R} {first = first} {next = next} one more =
      record { holds = λ state. only-then may (λ w. Q w.0) (λ w. R w.0) (first state) (λ w. next w.0 w.1) (one.holds state) (λ w q. (more w.0 q).holds w.1) }

  pub just-own : {A : Type 0} {Q : A → Type 0} (a : A) → Q a → Own may Q (just a)
  just-own a q = record { holds = λ state. q }

  pub wrong-own : {A : Type 0} {Q : A → Type 0} (fault : FaultKind) (line : ℕ) → Own may Q (wrong {A = A} fault line)
  wrong-own fault line = record { holds = λ state. tt }

  pub each-own : {A B : Type 0} {Q : A → Type 0} {R : B → Type 0} (act : A → Act B) → ((a : A) → Q a → Own may R (act a)) → (items : List A) → Each Q items
      → Own may (Each R) (for_each act items)
  each-own {R = R} act own [] have = just-own [] tt
  each-own {Q = Q} {R = R} act own (item ∷ items) have =
      both-own {Q = R} {R = Each R} (own item have.0)
      (λ first r. both-own {Q = Each R} {R = Each R} (each-own {Q = Q} {R = R} act own items have.1) (λ rest more. just-own (first ∷ rest) (r, more)))

  pub any-own : {A : Type 0} {Q : A → Type 0} {act : Act A} → Own may Q act → Own may Any act
  any-own {Q = Q} {act = act} own = record { holds = λ state. only-any may (λ w. Q w.0) (act state) (own.holds state) }

  -- ---- places

  pub load-own : (line : ℕ) (place : Place) → OwnPlace may.access place → Own may Any (load line place)
  load-own line (Place.Outer x) own = record { holds = λ state. (own, λ read. tt) }
  load-own line (Place.InFrame frame group position) own = record { holds = λ state. tt }

  pub store-own : (line : ℕ) (place : Place) (z : ℤ) → OwnPlace (λ x. may.access x × may.leave x (Some z)) place → Own may Any (acts.store line place z)
  store-own line (Place.Outer x) z own = record { holds = λ state. (own.0, own.1, tt) }
  store-own line (Place.InFrame frame group position) z own = record { holds = λ state. tt }

  pub required-own : (line : ℕ) (given : Option ℤ) → Own may Any (required line given)
  required-own line (Some z) = just-own z tt
  required-own line None = wrong-own FaultKind.Undefined line

  pub refer-own : (line : ℕ) (place : Place) → OwnPlace may.access place → Own may Any (refer_to line place)
  refer-own line place own = both-own {Q = Any} (load-own line place own) (λ given any. required-own line given)

  pub position-own : (line : ℕ) (bounds : Bounds) (subscripts : List ℤ) → Own may (λ position. position < elements_in bounds) (position_at line bounds subscripts)
  position-own line bounds subscripts = by (position_in bounds subscripts) refl
    where
      by : (found : Option ℕ) → position_in bounds subscripts ≡ found → Own may (λ position. position < elements_in bounds) (position_at line bounds subscripts)
      by (Some position) is = let below = position-below bounds subscripts position is in rw is (just-own position below)
      by None is = rw is (wrong-own FaultKind.Subscript line)

  pub place-own : (P : ElementId → Type 0) (line : ℕ) (e : Entity) (position : ℕ) → OwnEntity P e → position < elements_in (bounds_of_entity e) → Own may (OwnPlace P) (place_of line e position)
  place-own P line (outside variable sort bounds) position own below = just-own (Place.Outer (record { variable = variable; position = position })) (own position below)
  place-own P line (slots group sort bounds) position own below = record { holds = λ state. tt }
  place-own P line (constant sort z) position own below = wrong-own FaultKind.Undefined line
  place-own P line nothing position own below = wrong-own FaultKind.Undefined line
  place-own P line (dummy place sort) position own below = absurd own
  place-own P line (function procedure sort) position own below = absurd own
  place-own P line (subroutine procedure intents) position own below = absurd own
  place-own P line (reduction variable op sort bounds) position own below = absurd own

  pub element-own : (P : ElementId → Type 0) (line : ℕ) (e : Entity) (subscripts : List ℤ) → OwnEntity P e → Own may (OwnPlace P) (element_at line e subscripts)
  element-own P line e subscripts own =
      both-own {Q = λ position. position < elements_in (bounds_of_entity e)} {R = OwnPlace P} (position-own line (bounds_of_entity e) subscripts) (λ position below. place-own P line e position own below)

  pub whole-own : (P : ElementId → Type 0) (line : ℕ) (e : Entity) → OwnEntity P e → Own may (Each (OwnPlace P)) (whole_of line e)
  whole-own P line e own =
      each-own {Q = λ position. position < elements_in (bounds_of_entity e)} {R = OwnPlace P} (place_of line e) (λ position below. place-own P line e position own below)
      (range_with_len 0 (elements_in (bounds_of_entity e))) (range-below 0 (elements_in (bounds_of_entity e)) (elements_in (bounds_of_entity e)) (omega arith))

  pub entity-own : (line : ℕ) (e : Entity) (subscripts : List ℤ) → OwnEntity may.access e → Own may Any (value_at_entity line e subscripts)
  entity-own line e subscripts own = by e own
    where
      found : (e : Entity) → OwnEntity may.access e → Own may Any (element_at line e subscripts >>= refer_to line)
      found e own = both-own {Q = OwnPlace may.access} (element-own may.access line e subscripts own) (refer-own line)

      by : (e : Entity) → OwnEntity may.access e → Own may Any (value_at_entity line e subscripts)
      by (outside variable sort bounds) own = found (outside variable sort bounds) own
      by (slots group sort bounds) own = found (slots group sort bounds) own
      by (constant sort z) own = just-own z tt
      by nothing own = found nothing own
      by (dummy place sort) own = absurd own
      by (function procedure sort) own = absurd own
      by (subroutine procedure intents) own = absurd own
      by (reduction variable op sort bounds) own = absurd own

  pub whole_values-own : (line : ℕ) (e : Entity) → OwnEntity may.access e → Own may Any (whole_values line e)
  whole_values-own line e own =
      any-own {Q = Each Any} (both-own {Q = Each (OwnPlace may.access)} {R = Each Any} (whole-own may.access line e own) (λ places own. each-own {R = Any} (refer_to line) (refer-own line) places own))

  pub settled-own : (line : ℕ) (outcome : Outcome) → Own may Any (settled line outcome)
  settled-own line (Ok z) = just-own z tt
  settled-own line (Err OpFault.Zero) = wrong-own FaultKind.DivideByZero line
  settled-own line (Err OpFault.Shift) = wrong-own FaultKind.ShiftRange line

-- The same in a frame.
pub frame-only : {A B : Type 0} (may : May) (around : Slots) (turns : ℕ) (act : Act A) (tell : A → ℕ → B) → Own may Any act → Only may Any (inside_frame around turns act tell)
frame-only may around turns act tell own =
    let state : State = record { frames = record { slots = around; dummies = [] } ∷ []; turns = turns } in
    only-then may Any Any (act state) (λ w. give (tell w.0 (w.1).turns)) (own.holds state) (λ w any. tt)
