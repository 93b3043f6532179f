-- Visits keep the invariant of stores, that they fit the declared variables.
use Rattle.std.proofs.Common.{◌≡◌, ℕ, Bool, true, false, cond, ◌&&◌, List, [], ◌∷◌, ◌++◌, map, Option, Some, None, refl, sym, ap, ap₂, ◌∙◌}
use Rattle.std.proofs.lemmas.Bool.{and_parts}
use Rattle.std.proofs.lemmas.Option.{none-some, same_Some}
use Rattle.std.specs.Prelude.{ℤ, ◌-◌, is_none, length, filter, filter_map, flat_map, slice_get, if◌then◌else◌}
use Rattle.std.specs.List.{list_all}
use Rattle.dc_int.specs.declared.access.ElementId.{ElementId}
use Rattle.dc_int.specs.declared.kind.Kind.{Kind}
use Rattle.dc_int.specs.declared.operation.ReduceOp.{ReduceOp}
use Rattle.dc_int.specs.declared.variable.Locality.{Locality}
use Rattle.dc_int.specs.declared.variable.Shape.{Shape}
use Rattle.dc_int.specs.Entries.{Entry, Reads, Defines, Undefines, Contributes}
use Rattle.dc_int.specs.Kinds.{value_fits}
use Rattle.dc_int.specs.Reductions.{can_combine, combined}
use Rattle.dc_int.specs.Shapes.{store_fits, state_fits, entry_fits}
use Rattle.dc_int.specs.Store.{Store, cell_of, value_at, put_at, bounds_of, number_in, same_element, elements_of}
use Rattle.dc_int.proofs.Fits.{fits-put, fits-after, fits-state, undefined-fits}
use Rattle.dc_int.proofs.Reductions.{combined-inside}
use Rattle.dc_code.specs.Closing.{Localities, contributed, combined_with, operation_here, reduced, reductions, is_contribution_to, passed_to, passed_on, forgotten, changes}
use Rattle.dc_code.specs.Computation.{Computation, give, fail, read, define, undefine, contribute, ask, pause, Reached, done, bad, paused, over}
use Rattle.dc_code.specs.Inner.{Rule, judging, in_order, loop_with}
use Rattle.dc_code.specs.Laws.{HasPlainBlocks, MatchesShapes, KeepsFitting, DefinesFitting}
use Rattle.dc_code.specs.Loops.{Form, Copies, HeaderResult, header_of, Orders, Passage, Loop, Ordered, order, closed, joined, nothing_done}
use Rattle.dc_code.specs.Orders.{turned}
use Rattle.dc_code.specs.Passages.{Entering}
use Rattle.dc_code.specs.Troubles.{Trouble}
use Rattle.dc_code.specs.Verdicts.{Verdict, go_on, at_header, in_iteration, race, verdict, visited_by, judged_by}
use Rattle.dc_code.specs.Visits.{visited, visited_in, visited_turned}
use Rattle.dc_code.proofs.Passages.{through-over}
use Rattle.dc_code.proofs.Reduced.{HoldsCombinable, fits-holds, here-is, defined_by, reduced-is}

-- ---- computations

-- The state of an element fits.
state-at : (shapes : List Shape) (store : Store) (x : ElementId) → store_fits shapes store ≡ true → state_fits shapes x (value_at store x) ≡ true
unfolding value_at
state-at shapes store x fits = by (cell_of store x) refl
  where
    by : (cell : Option (Option ℤ)) → cell_of store x ≡ cell → state_fits shapes x (number_in cell) ≡ true
    by None is = undefined-fits shapes x
    by (Some state) is = fits-state shapes store x state fits is

-- A computation that defines values that fit leaves a store that does.
pub over-fits
    : {E T A : Type 0} (shapes : List Shape) (store : Store) (c : Computation E T A) → DefinesFitting shapes c → store_fits shapes store ≡ true
    → store_fits shapes (over store c).store ≡ true
over-fits shapes store (give a) defines fits = fits
over-fits shapes store (fail trouble) defines fits = fits
over-fits shapes store (read x line rest) defines fits =
    over-fits shapes store (rest (value_at store x)) (defines (value_at store x) (state-at shapes store x fits)) fits
over-fits shapes store (define x value line rest) defines fits =
    over-fits shapes (put_at store x (Some value)) rest defines.1 (fits-put shapes store x (Some value) fits defines.0)
over-fits shapes store (undefine x line rest) defines fits =
    over-fits shapes (put_at store x None) rest defines (fits-put shapes store x None fits (undefined-fits shapes x))
over-fits shapes store (contribute x op value rest) defines fits = over-fits shapes store rest defines fits
over-fits shapes store (ask variable rest) defines fits = over-fits shapes store (rest (bounds_of store variable)) (defines (bounds_of store variable)) fits
over-fits shapes store (pause event rest) defines fits = fits

-- So do the iterations of a loop whose blocks are such.
pub plain-fits
    : (shapes : List Shape) (enter : Entering) (form : Form) → HasPlainBlocks form
    → ((copies : Copies) (at : List ℤ) → DefinesFitting shapes (form.block copies at)) → KeepsFitting shapes (loop_with enter form)
plain-fits shapes enter form plain defines = record {
  each = λ store orders at fits.
      let copies : Copies = map (value_at store) form.copied in
      ap (λ (passage : Passage). store_fits shapes passage.store) (through-over enter store orders (form.block copies at) (plain copies at))
      ∙ over-fits shapes store (form.block copies at) (defines copies at) fits;
}

-- ---- the changes at the end of a loop

all-append : (fits : Entry → Bool) (one other : List Entry) → list_all fits one ≡ true → list_all fits other ≡ true → list_all fits (one ++ other) ≡ true
all-append fits [] other first second = second
all-append fits (entry ∷ one) other first second =
    let here = and_parts (fits entry) (list_all fits one) first in ap₂ (λ a b. a && b) here.0 (all-append fits one other here.1 second)

undefined-fit : (shapes : List Shape) (line : ℕ) (elements : List ElementId) → list_all (entry_fits shapes) (map (λ x. Undefines x line) elements) ≡ true
undefined-fit shapes line [] = refl
undefined-fit shapes line (x ∷ elements) = undefined-fit shapes line elements

contributions-fit : (shapes : List Shape) (y : ElementId) (run : List Entry) → list_all (entry_fits shapes) (filter (is_contribution_to y) run) ≡ true
contributions-fit shapes y [] = refl
contributions-fit shapes y (Reads x line ∷ run) = contributions-fit shapes y run
contributions-fit shapes y (Defines x value line ∷ run) = contributions-fit shapes y run
contributions-fit shapes y (Undefines x line ∷ run) = contributions-fit shapes y run
contributions-fit shapes y (Contributes x op value ∷ run) = by (same_element y x) (contributions-fit shapes y run)
  where
    by
        : (b : Bool) → list_all (entry_fits shapes) (filter (is_contribution_to y) run) ≡ true
        → list_all (entry_fits shapes) (if b then Contributes x op value ∷ filter (is_contribution_to y) run else filter (is_contribution_to y) run) ≡ true
    by true rest = rest
    by false rest = rest

contributed-fit
    : (shapes : List Shape) (y : ElementId) (runs : List (List Entry)) → list_all (entry_fits shapes) (flat_map (filter (is_contribution_to y)) runs) ≡ true
contributed-fit shapes y [] = refl
contributed-fit shapes y (run ∷ runs) =
    all-append (entry_fits shapes) (filter (is_contribution_to y) run) (flat_map (filter (is_contribution_to y)) runs) (contributions-fit shapes y run)
    (contributed-fit shapes y runs)

passed-fit
    : (shapes : List Shape) (localities : Localities) (runs : List (List Entry)) (elements : List ElementId)
    → list_all (entry_fits shapes) (flat_map (passed_to localities runs) elements) ≡ true
passed-fit shapes localities runs [] = refl
passed-fit shapes localities runs (x ∷ elements) =
    all-append (entry_fits shapes) (passed_to localities runs x) (flat_map (passed_to localities runs) elements) (by (localities.passed x.variable))
    (passed-fit shapes localities runs elements)
  where
    by : (b : Bool) → list_all (entry_fits shapes) (if b then flat_map (filter (is_contribution_to x)) runs else []) ≡ true
    by true = contributed-fit shapes x runs
    by false = refl

-- A value that is combined with others can be combined too.
combined-with_inside
    : (op : ReduceOp) (kind : Kind) (value : ℤ) (others : List ℤ) → can_combine op kind value ≡ true → can_combine op kind (combined_with op kind value others) ≡ true
combined-with_inside op kind value [] can = can
combined-with_inside op kind value (other ∷ others) can =
    combined-with_inside op kind (combined op kind value other) others (combined-inside op kind value other)

-- A value that the operation of a REDUCE variable combines is one of the variable.
combinable-fits
    : (shapes : List Shape) (localities : Localities) → MatchesShapes localities shapes → (x : ElementId) (op : ReduceOp) (value : ℤ)
    → localities.locality x.variable ≡ Locality.Reduce op → can_combine op (localities.kind x.variable) value ≡ true → state_fits shapes x (Some value) ≡ true
combinable-fits shapes localities matches x op value is can = by (slice_get shapes x.variable) refl
  where
    by : (found : Option Shape) → slice_get shapes x.variable ≡ found → state_fits shapes x (Some value) ≡ true
    by None found = rw found refl
    by (Some shape) found =
        let same = matches.reduces x.variable op shape is found in
        rw found ((λ i. value_fits (sym same.0 i) (sym same.1 i) value) ∙ can)

module _ (shapes : List Shape) (localities : Localities) (matches : MatchesShapes localities shapes) (line : ℕ) (runs : List (List Entry)) (store : Store)
    (holds : HoldsCombinable localities store) where
  reduced-fits : (x : ElementId) (entry : Entry) → reduced localities line runs store x ≡ Some entry → entry_fits shapes entry ≡ true
  reduced-fits x entry told = by (operation_here localities x.variable) (value_at store x) refl refl (sym (reduced-is localities line runs store x) ∙ told)
    where
      by
          : (op : Option ReduceOp) (value : Option ℤ) → operation_here localities x.variable ≡ op → value_at store x ≡ value
          → defined_by localities line runs x op value ≡ Some entry → entry_fits shapes entry ≡ true
      by None value op_is value_is e = absurd (none-some entry e)
      by (Some op) None op_is value_is e = absurd (none-some entry e)
      by (Some op) (Some value) op_is value_is e =
          let is = here-is localities x.variable op op_is in
          let after : ℤ = combined_with op (localities.kind x.variable) value (contributed x runs) in
          let inside = combined-with_inside op (localities.kind x.variable) value (contributed x runs) (holds x op value is value_is) in
          ap (entry_fits shapes) (sym (same_Some (Defines x after line) entry e)) ∙ combinable-fits shapes localities matches x op after is inside

  all-reduced-fit : (elements : List ElementId) → list_all (entry_fits shapes) (filter_map (reduced localities line runs store) elements) ≡ true
  all-reduced-fit [] = refl
  all-reduced-fit (x ∷ elements) = by (reduced localities line runs store x) refl (all-reduced-fit elements)
    where
      by
          : (told : Option Entry) → reduced localities line runs store x ≡ told → list_all (entry_fits shapes) (filter_map (reduced localities line runs store) elements) ≡ true
          → list_all (entry_fits shapes) (filter_map (reduced localities line runs store) (x ∷ elements)) ≡ true
      by None is rest = rw is rest
      by (Some entry) is rest = rw is (ap₂ (λ a b. a && b) (reduced-fits x entry is) rest)

reductions-fit
    : (shapes : List Shape) (localities : Localities) → MatchesShapes localities shapes → (line : ℕ) (runs : List (List Entry)) (store : Store) → HoldsCombinable localities store
    → list_all (entry_fits shapes) (reductions localities line runs store) ≡ true
reductions-fit shapes localities matches line [] store holds = refl
reductions-fit shapes localities matches line (run ∷ runs) store holds = all-reduced-fit shapes localities matches line (run ∷ runs) store holds (elements_of store)

changes-fit
    : (shapes : List Shape) (localities : Localities) → MatchesShapes localities shapes → (line : ℕ) (runs : List (List Entry)) (store : Store)
    → store_fits shapes store ≡ true → list_all (entry_fits shapes) (changes localities line runs store) ≡ true
changes-fit shapes localities matches line runs store fits =
    all-append (entry_fits shapes) (map (λ x. Undefines x line) (forgotten localities runs store)) (passed_on localities runs store ++ reductions localities line runs store)
    (undefined-fit shapes line (forgotten localities runs store))
    (all-append (entry_fits shapes) (passed_on localities runs store) (reductions localities line runs store) (passed-fit shapes localities runs (elements_of store))
    (reductions-fit shapes localities matches line runs store (fits-holds localities shapes store matches fits)))

-- ---- orders and visits

module _ (shapes : List Shape) (loop : Loop) (matches : MatchesShapes loop.form.localities shapes) (keeps : KeepsFitting shapes loop) where
  order-fits
      : (orders : Orders) (store : Store) (iterations : List (List ℤ)) → store_fits shapes store ≡ true
      → store_fits shapes (order loop orders store iterations).store ≡ true
  order-fits orders store [] fits = fits
  order-fits orders store (at ∷ rest) fits =
      let passage = loop.block store orders at in
      by passage (order loop passage.orders passage.store rest) (keeps.each store orders at fits) (order-fits passage.orders passage.store rest (keeps.each store orders at fits))
      (is_none passage.trouble)
    where
      by
          : (passage : Passage) (later : Ordered) → store_fits shapes passage.store ≡ true → store_fits shapes later.store ≡ true → (b : Bool)
          → store_fits shapes (joined passage (cond b later (nothing_done passage.store passage.orders passage.trouble))).store ≡ true
      by passage later first second true = second
      by passage later first second false = first

  closed-fits
      : (orders : Orders) (store : Store) (iterations : List (List ℤ)) → store_fits shapes store ≡ true
      → store_fits shapes (closed loop (order loop orders store iterations)) ≡ true
  closed-fits orders store iterations fits =
      let ordered = order loop orders store iterations in
      let left = order-fits orders store iterations fits in
      fits-after shapes ordered.store (changes loop.form.localities loop.form.line ordered.runs ordered.store) left
      (changes-fit shapes loop.form.localities matches loop.form.line ordered.runs ordered.store left)

  said-fits : (store : Store) (given : HeaderResult) (said : Verdict) → store_fits shapes store ≡ true → store_fits shapes (visited_by loop store given said).store ≡ true
  said-fits store given go_on fits = closed-fits [] store given.iterations fits
  said-fits store given (at_header trouble) fits = fits
  said-fits store given (in_iteration trouble at) fits = fits
  said-fits store given (race found first second) fits = fits

  judged-fits : (store : Store) (reached : Reached ⊥ Trouble HeaderResult) → store_fits shapes store ≡ true → store_fits shapes (judged_by loop store reached).store ≡ true
  judged-fits store (bad trouble) fits = fits
  judged-fits store (done given) fits = said-fits store given (verdict loop store given.iterations) fits
  judged-fits store (paused event rest) fits = absurd event

  in-fits
      : (store : Store) (turns : ℕ) (iterations : List (List ℤ)) → store_fits shapes store ≡ true
      → store_fits shapes (visited_in loop store turns iterations (order loop [] store iterations)).store ≡ true
  in-fits store turns iterations fits =
      let ordered = order loop [] store iterations in by ordered.trouble refl (slice_get iterations (length ordered.runs - 1)) refl
    where
      by
          : (trouble : Option Trouble) → (order loop [] store iterations).trouble ≡ trouble
          → (at : Option (List ℤ)) → slice_get iterations (length (order loop [] store iterations).runs - 1) ≡ at
          → store_fits shapes (visited_in loop store turns iterations (order loop [] store iterations)).store ≡ true
      by (Some trouble) met (Some at) is = rw (met, is) fits
      by (Some trouble) met None is = rw (met, is) (closed-fits [] store iterations fits)
      by None met at is = rw met (closed-fits [] store iterations fits)

  turned-fits
      : (number : ℕ) (store : Store) (reached : Reached ⊥ Trouble HeaderResult) → store_fits shapes store ≡ true
      → store_fits shapes (visited_turned number loop store reached).store ≡ true
  turned-fits number store (bad trouble) fits = fits
  turned-fits number store (done given) fits = in-fits store given.turns (turned number given.iterations) fits
  turned-fits number store (paused event rest) fits = absurd event

  -- A visit leaves a store that fits.
  pub visited-fits : (rule : Rule) (turns : ℕ) (store : Store) → store_fits shapes store ≡ true → store_fits shapes (visited rule loop turns store).store ≡ true
  visited-fits judging turns store fits = judged-fits store (over store (header_of loop.form turns)).reached fits
  visited-fits (in_order number) turns store fits = turned-fits number store (over store (header_of loop.form turns)).reached fits
