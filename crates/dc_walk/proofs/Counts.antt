-- The limits and the step of a counted DO, and its variable from one value to the next.
use Rattle.std.proofs.Common.{◌≡◌, ℕ, true, ◌&&◌, refl, sym, ap, subst}
use Rattle.std.proofs.lemmas.Bool.{and_parts}
use Rattle.std.specs.Prelude.{Ok, Err, ℤ, ◌+ℤ◌}
use Rattle.dc_int.specs.declared.access.ElementId.{ElementId}
use Rattle.dc_int.specs.declared.kind.Kind.{Kind}
use Rattle.dc_int.specs.Entries.{Defines}
use Rattle.dc_int.specs.Kinds.{wrapped}
use Rattle.dc_int.specs.Sorts.{whole}
use Rattle.dc_code.specs.declared.frame.Place.{Place}
use Rattle.dc_code.specs.Combinations.{Span}
use Rattle.dc_code.specs.Troubles.{Slots}
use Rattle.dc_plain.specs.Views.{View, noted}
use Rattle.dc_tree.specs.Entities.{Scope, entity}
use Rattle.dc_tree.specs.Statements.{Ranging}
use Rattle.dc_form.specs.BuiltPrograms.{is_held, is_whole_scalar}
use Rattle.dc_meaning.specs.declared.stop.Stop.{Stop}
use Rattle.dc_meaning.specs.Acts.{Act, ◌>>=◌, refer_to, store}
use Rattle.dc_meaning.specs.Execution.{step_value, checked_span, span_of, stepped}
use Rattle.dc_meaning.specs.Values.{Callee, value}
use Rattle.dc_meaning.specs.Walking.{Stays}
use Rattle.dc_meaning.proofs.Storing.{stored-one}
use Rattle.dc_meaning.proofs.Walking.{stays-then, stays-bad, stays-as}
use Rattle.dc_walk.specs.Counting.{span_at}
use Rattle.dc_walk.specs.Walked.{is_held_or_absent, is_walked_ranging}

-- ---- what the walker may evaluate

pub record HeldRanging (scope : Scope) (ranging : Ranging) : Type 0 where
  pub whole : is_whole_scalar (entity scope ranging.name) ≡ true
  pub first : is_held ranging.first ≡ true
  pub last : is_held ranging.last ≡ true
  pub step : is_held_or_absent ranging.step ≡ true

pub held-ranging : (scope : Scope) (ranging : Ranging) → is_walked_ranging scope ranging ≡ true → HeldRanging scope ranging
held-ranging scope ranging e =
    let last = is_held ranging.last && is_held_or_absent ranging.step in
    let all = and_parts (is_whole_scalar (entity scope ranging.name)) (is_held ranging.first && last) e in
    let limits = and_parts (is_held ranging.first) last all.1 in
    let rest = and_parts (is_held ranging.last) (is_held_or_absent ranging.step) limits.1 in
    record { whole = all.0; first = limits.0; last = rest.0; step = rest.1 }

-- ---- the limits and the step

module _ (scope : Scope) (line : ℕ) (kind : Kind) (ranging : Ranging) where
  abbrev pub behind-last : ℤ → ℤ → Callee → ℤ → Act Span
  behind-last first last call step = checked_span line (span_at kind first last step)

  abbrev pub behind-first : ℤ → Callee → ℤ → Act Span
  behind-first first call last = step_value scope call line ranging.step >>= behind-last first last call

  abbrev pub limits : Callee → ℤ → Act Span
  limits call first = value scope call line ranging.last >>= behind-first first call

  pub span-is : (call : Callee) → span_of scope call line (whole kind) ranging ≡ (value scope call line ranging.first >>= limits call)
  span-is call = refl

-- ---- the next value

pub stepped-on : {own : Slots} {view between after : View} (line : ℕ) (x : ElementId) (kind : Kind) (step z next : ℤ) → next ≡ wrapped kind (z +ℤ step)
    → after ≡ noted (Defines x next line) between → Stays (λ (a : ℤ). a) own view (λ call. refer_to line (Place.Outer x)) between (Ok z)
    → Stays (λ (done : Unit {0}). done) own view (λ call. stepped line (Place.Outer x) (whole kind) step) after (Ok tt)
stepped-on {own = own} {view = view} {between = between} line x kind step z next is stored one =
    stays-then (λ call a. store line (Place.Outer x) (wrapped kind (a +ℤ step))) one
    (subst (λ v. Stays (λ (done : Unit {0}). done) own between (λ call. store line (Place.Outer x) (wrapped kind (z +ℤ step))) v (Ok tt)) (sym stored)
    (stays-as (λ call. ap (store line (Place.Outer x)) (sym is)) (stored-one between line x next)))

pub stepped-bad : {own : Slots} {view after : View} {e : Stop} (line : ℕ) (x : ElementId) (kind : Kind) (step : ℤ)
    → Stays (λ (a : ℤ). a) own view (λ call. refer_to line (Place.Outer x)) after (Err e)
    → Stays (λ (done : Unit {0}). done) own view (λ call. stepped line (Place.Outer x) (whole kind) step) after (Err e)
stepped-bad line x kind step one = stays-bad {A = Unit {0}} {tell = λ done. done} (λ call a. store line (Place.Outer x) (wrapped kind (a +ℤ step))) one
