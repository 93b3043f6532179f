-- The bounds of the variable that a race names are those that are declared.
use Rattle.std.proofs.Common.{◌≡◌, ℕ, zero, suc, Bool, true, false, List, [], ◌∷◌, Option, Some, None, refl, sym, ap, ◌∙◌}
use Rattle.std.specs.Prelude.{ℤ, nat_eq, filter, slice_get}
use Rattle.dc_int.specs.Store.{Bounds, Store, bounds_of}
use Rattle.dc_code.specs.declared.verdict.Race.{Race}
use Rattle.dc_code.specs.declared.verdict.Verdict as answers
use Rattle.dc_code.specs.Computation.{SameShape}
use Rattle.dc_code.specs.Verdicts.{race, seen}
use Rattle.dc_tree.specs.declared.symbols.Role.{Role}
use Rattle.dc_tree.specs.declared.symbols.Symbol.{Symbol}
use Rattle.dc_meaning.specs.Programs.{first_store}
use Rattle.dc_run.specs.Answered.{declared_bounds, bounds_named}
use Rattle.dc_run.specs.Playing.{bounds_in}
use Rattle.dc_run.specs.ReportLine.{is_outside}

abbrev or_nothing : Option Bounds → Bounds
or_nothing (Some bounds) = bounds
or_nothing None = []

raced-bounds : (store : Store) (found : Race) (first second : List ℤ) → bounds_in store (race found first second) ≡ or_nothing (bounds_of store found.element.variable)
raced-bounds store found first second = by (bounds_of store found.element.variable) refl
  where
    by : (bounds : Option Bounds) → bounds_of store found.element.variable ≡ bounds → bounds_in store (race found first second) ≡ or_nothing (bounds_of store found.element.variable)
    by (Some bounds) e = rw e refl
    by None e = rw e refl

abbrev AreDeclared : List Symbol → ℕ → Type 0
AreDeclared symbols variable = or_nothing (bounds_of (first_store symbols) variable) ≡ declared_bounds (slice_get (filter is_outside symbols) variable)

first-bounds : (symbols : List Symbol) (variable : ℕ) → AreDeclared symbols variable
first-bounds [] variable = refl
first-bounds (first ∷ rest) variable = by (nat_eq first.scope 0) refl first.role refl variable (λ n. first-bounds rest n)
  where
    by : (outer : Bool) → nat_eq first.scope 0 ≡ outer → (role : Role) → first.role ≡ role → (variable : ℕ) → ((n : ℕ) → AreDeclared rest n) → AreDeclared (first ∷ rest) variable
    by false scope role is variable later = rw scope (later variable)
    by true scope (Role.Variable logical kind bounds initial) is zero later = rw (scope, is) refl
    by true scope (Role.Variable logical kind bounds initial) is (suc n) later = rw (scope, is) (later n)
    by true scope (Role.Constant logical kind value) is variable later = rw (scope, is) (later variable)
    by true scope (Role.Dummy place logical kind intent) is variable later = rw (scope, is) (later variable)
    by true scope (Role.Result logical kind) is variable later = rw (scope, is) (later variable)
    by true scope (Role.Function procedure) is variable later = rw (scope, is) (later variable)
    by true scope (Role.Subroutine procedure) is variable later = rw (scope, is) (later variable)

-- The bounds in the store at the loop.
pub bounds-known : (symbols : List Symbol) (store : Store) (said : answers.Verdict) → SameShape (first_store symbols) store → bounds_in store (seen said) ≡ bounds_named symbols said
bounds-known symbols store answers.Verdict.GoOn shape = refl
bounds-known symbols store (answers.Verdict.HeaderFault why line mask) shape = refl
bounds-known symbols store (answers.Verdict.IterFault why line at) shape = refl
bounds-known symbols store (answers.Verdict.IterSpent line at) shape = refl
bounds-known symbols store (answers.Verdict.Race found first second) shape =
    raced-bounds store found first second ∙ ap or_nothing (sym (shape.bounds found.element.variable)) ∙ first-bounds symbols found.element.variable
