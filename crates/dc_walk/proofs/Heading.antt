-- The header of a loop that can be run gives the values of its index, or comes to a fault.
use Rattle.std.proofs.Common.{◌≡◌, ℕ, Bool, true, false, List, [], ◌∷◌, map, None, refl, sym, ap, subst, ◌∙◌}
use Rattle.std.specs.Int.{int_wrap}
use Rattle.std.specs.Prelude.{if◌then◌else◌, ℤ, pos}
use Rattle.dc_int.specs.declared.fault.FaultKind.{FaultKind}
use Rattle.dc_int.specs.declared.fault.Why.{Why}
use Rattle.dc_int.specs.declared.kind.Kind.{Kind}
use Rattle.dc_int.specs.Sorts.{Sort, whole, fitted}
use Rattle.dc_int.specs.Store.{Store, value_at, bounds_of}
use Rattle.dc_code.specs.Combinations.{Span, values_of, combinations}
use Rattle.dc_code.specs.Computation.{give, fail, read, define, undefine, contribute, ask, pause, sequence, ◌>>=◌, done, bad, over}
use Rattle.dc_code.specs.Loops.{Form, HeaderComputing, HeaderResult, header_of, in_header, active, begun, combined_values, are_too_many, header_fault}
use Rattle.dc_code.specs.Troubles.{Computing, ended, in_statement}
use Rattle.dc_code.proofs.Sequences.{sequence-then}
use Rattle.dc_entities.proofs.Spans.{combinations-one}
use Rattle.dc_tree.specs.declared.symbols.Symbol.{Symbol}
use Rattle.dc_tree.specs.Blocks.{Line, Items}
use Rattle.dc_tree.specs.Entities.{Scope, entity, main_scope}
use Rattle.dc_tree.specs.Statements.{Name, Ranging}
use Rattle.dc_meaning.specs.Acts.{State}
use Rattle.dc_meaning.specs.Concurrent.{Concurrent, Surroundings, index_sort}
use Rattle.dc_meaning.specs.Execution.{step_value, span_of, checked_span}
use Rattle.dc_meaning.specs.Headers.{block_of, localities_of, form_of}
use Rattle.dc_walk.specs.Judging.{combination}
use Rattle.dc_meaning.specs.Values.{Callee}
use Rattle.dc_walk.specs.Visiting.{opened, HeadsSo}
use Rattle.dc_meaning.specs.Walking.{state_in}
use Rattle.dc_meaning.specs.WalkScope.{kind_of_index}
use Rattle.dc_meaning.proofs.Doing.{Any, Only, reading}
use Rattle.dc_meaning.proofs.Looping.{BuiltLoop, concurrent-with, copies-form, combines-form, whole-sort}
use Rattle.dc_meaning.proofs.Own.{Own, OwnEntity, both-own, just-own}
use Rattle.dc_meaning.proofs.OwnValues.{value-own}

-- ---- what the limits do

abbrev IsOne : ℤ → Type 0
IsOne step = step ≡ pos 1

abbrev StepsByOne : Span → Type 0
StepsByOne span = IsOne span.step

-- a step of 1 is left as it is
one-fitted : (kind : Kind) → fitted (whole kind) (pos 1) ≡ pos 1
unfolding int_wrap
one-fitted Kind.K1 = refl
one-fitted Kind.K2 = refl
one-fitted Kind.K4 = refl
one-fitted Kind.K8 = refl

-- Without a step, they read elements and do nothing else.
module _ (scope : Scope) (own : (text : Name) → OwnEntity Any (entity scope text)) (call : Callee) (line : ℕ) (kind : Kind) (ranging : Ranging) (none : ranging.step ≡ None) where
  step-own : Own (reading Any) IsOne (step_value scope call line ranging.step)
  step-own = rw none (just-own (reading Any) (pos 1) refl)

  checked-own : (first last step : ℤ) → IsOne step → Own (reading Any) StepsByOne (checked_span line (record { first = first; last = last; step = fitted (whole kind) step }))
  checked-own first last step is =
      subst (λ (z : ℤ). Own (reading Any) StepsByOne (checked_span line (record { first = first; last = last; step = z }))) (sym (ap (fitted (whole kind)) is ∙ one-fitted kind))
      (just-own (reading Any) (record { first = first; last = last; step = pos 1 }) refl)

  span-own : Own (reading Any) StepsByOne (span_of scope call line (whole kind) ranging)
  span-own =
      both-own (reading Any) {Q = Any} {R = StepsByOne} (value-own (reading Any) scope own call line ranging.first)
      (λ first any. both-own (reading Any) {Q = Any} {R = StepsByOne} (value-own (reading Any) scope own call line ranging.last)
      (λ last any. both-own (reading Any) {Q = IsOne} {R = StepsByOne} step-own (checked-own (fitted (whole kind) first) (fitted (whole kind) last))))

-- ---- no mask, and nothing to begin with

active-all : (values : List (List ℤ)) → active (λ at. give true) values ≡ give values
active-all [] = refl
active-all (at ∷ rest) = ap (λ (c : HeaderComputing (List (List ℤ))). c >>= (λ others. give (at ∷ others))) (active-all rest)

-- a loop with no mask, no copies and no reductions
abbrev simple : Form → Form
simple form =
    record { line = form.line; localities = form.localities; copied = []; combines = []; header = form.header; mask = λ at. give true; block = form.block }

begun-none : (form : Form) (iterations : List (List ℤ)) → begun (simple form) iterations ≡ give tt
begun-none form [] = refl
begun-none form (first ∷ rest) = refl

-- what a header does behind its limits
abbrev behind_limits : Form → List Span × ℕ → HeaderComputing HeaderResult
behind_limits form (spans, left) = do
  values ← combined_values form.line spans
  iterations ← active form.mask values
  ready ← begun form iterations
  give (record { iterations = iterations; turns = left })

opened-behind : (form : Form) (first last : ℤ) (turns : ℕ) (store : Store)
    → (over store (behind_limits (simple form) (record { first = first; last = last; step = pos 1 } ∷ [], turns))).reached ≡ opened form.line (record { first = first; last = last; step = pos 1 }) turns
opened-behind form first last turns store = by (are_too_many (span ∷ []))
  where
    span : Span
    span = record { first = first; last = last; step = pos 1 }

    all : List (List ℤ)
    all = combinations (span ∷ [])

    ended_with : List (List ℤ) → HeaderComputing HeaderResult
    ended_with iterations = give (record { iterations = iterations; turns = turns })

    begin : List (List ℤ) → HeaderComputing HeaderResult
    begin iterations = begun (simple form) iterations >>= (λ ready. ended_with iterations)

    by : (many : Bool)
        → (over store ((if many then header_fault FaultKind.TooManyIterations form.line else give all) >>= (λ values. active (λ at. give true) values >>= begin))).reached
        ≡ (if many then bad (ended (Why.Fault FaultKind.TooManyIterations) form.line []) else done (record { iterations = map combination (values_of span); turns = turns }))
    by true = refl
    by false =
        ap (λ (c : HeaderComputing (List (List ℤ))). (over store (c >>= begin)).reached) (active-all all)
        ∙ ap (λ (c : HeaderComputing Unit). (over store (c >>= (λ ready. ended_with all))).reached) (begun-none form all)
        ∙ ap (λ iterations. done (record { iterations = iterations; turns = turns })) (combinations-one span)

one-opened : (form : Form) (span : Span) (turns : ℕ) (store : Store) → StepsByOne span
    → (over store (behind_limits (simple form) (span ∷ [], turns))).reached ≡ opened form.line span turns
one-opened form span turns store is =
    subst (λ (z : ℤ). let made : Span = record { first = span.first; last = span.last; step = z } in (over store (behind_limits (simple form) (made ∷ [], turns))).reached ≡ opened form.line made turns) (sym is)
    (opened-behind form span.first span.last turns store)

-- ---- the limits, and what is behind them

abbrev spans-left : Span × State → List Span × ℕ
spans-left w = (w.0 ∷ [], (w.1).turns)

abbrev telling : Computing (Span × State) → Computing (List Span × ℕ)
telling c = sequence c (λ w. give (spans-left w))

heads-behind : (form : Form) (store : Store) (c : Computing (Span × State)) → Only (reading Any) (λ w. StepsByOne w.0) c
    → HeadsSo form.line store (over store (telling c)) (over store (in_header in_statement (telling c) >>= behind_limits (simple form))).reached
heads-behind form store (give w) only = record { stays = refl; comes = (only, one-opened form w.0 (w.1).turns store only) }
heads-behind form store (fail failure) only = record { stays = refl; comes = refl }
heads-behind form store (read x line rest) only =
    let later = heads-behind form store (rest (value_at store x)) (only.1 (value_at store x)) in record { stays = later.stays; comes = later.comes }
heads-behind form store (define x value line rest) only = absurd only.1
heads-behind form store (undefine x line rest) only = absurd only.1
heads-behind form store (contribute x op value rest) only = absurd only
heads-behind form store (ask variable rest) only = heads-behind form store (rest (bounds_of store variable)) (only (bounds_of store variable))
heads-behind form store (pause event rest) only = absurd only.0

-- ---- a loop of the main program

module _ (within : Surroundings) (symbols : List Symbol) (counted : ℕ) (head : Line) (body : Items) (built : BuiltLoop (main_scope symbols) head.says body)
    (own : (text : Name) → OwnEntity Any (entity (main_scope symbols) text)) where
  abbrev found-loop : Concurrent
  found-loop = concurrent-with (main_scope symbols) counted head body built.ranging

  abbrev form-found : Form
  form-found = form_of within found-loop []

  simple-is : form-found ≡ simple form-found
  simple-is = λ i. record {
    line = head.line;
    localities = localities_of within found-loop;
    copied = copies-form within symbols counted head body built [] i;
    combines = combines-form within symbols counted head body built [] i;
    header = form-found.header;
    mask = λ at. give true;
    block = block_of within found-loop [];
  }

  -- the limits, as the header has them
  abbrev limits-with : Sort → ℕ → Computing (Span × State)
  limits-with sort turns = span_of (main_scope symbols) within.call head.line sort built.ranging (state_in [] turns)

  abbrev limits-here : ℕ → Computing (Span × State)
  limits-here turns = limits-with (whole (kind_of_index symbols built.ranging.name)) turns

  header-is : (turns : ℕ) → form-found.header turns ≡ telling (limits-here turns)
  header-is turns =
      let sort = index_sort (main_scope symbols) None built.ranging in
      sequence-then (limits-with sort turns) (λ w. give (w.0 ∷ [], w.1)) (λ w. give (w.0, (w.1).turns))
      ∙ ap (λ s. telling (limits-with s turns)) (whole-sort (entity (main_scope symbols) built.ranging.name) built.index)

  limits-only : (turns : ℕ) → Only (reading Any) (λ w. StepsByOne w.0) (limits-here turns)
  limits-only turns = (span-own (main_scope symbols) own within.call head.line (kind_of_index symbols built.ranging.name) built.ranging built.step).holds (state_in [] turns)

  -- What the limits come to tells what the header comes to.
  pub heads-so : (store : Store) (turns : ℕ) → HeadsSo head.line store (over store (form-found.header turns)) (over store (header_of form-found turns)).reached
  heads-so store turns =
      subst (λ (form : Form). HeadsSo head.line store (over store (form-found.header turns)) (over store (header_of form turns)).reached) (sym simple-is)
      (subst (λ (c : Computing (List Span × ℕ)). HeadsSo head.line store (over store c) (over store (in_header in_statement c >>= behind_limits (simple form-found))).reached) (sym (header-is turns))
      (heads-behind form-found store (limits-here turns) (limits-only turns)))
