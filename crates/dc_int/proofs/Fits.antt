-- What keeps the invariant of stores, and what it gives: values, elements and bounds of each variable.
use Rattle.std.proofs.Common.{◌≡◌, ℕ, zero, suc, Bool, true, false, ◌&&◌, List, [], ◌∷◌, length, Option, Some, None, refl, sym, ap, ap₂, ◌∙◌, arith}
use Rattle.std.proofs.lemmas.Int.{ints}
use Rattle.std.specs.Prelude.{ℤ, pos, ◌≤ℤ◌, int_le, ◌==◌, nat_lt, slice_get, slice_set, option_and_then, is_some}
use Rattle.std.specs.List.{list_all}
use Rattle.std.proofs.lemmas.Bool.{and_parts, false≢true, eqb-true}
use Rattle.std.proofs.lemmas.Bool.Decides.{nat_tests}
use Rattle.std.proofs.lemmas.Option.{none-some, same_Some}
use Rattle.dc_int.specs.declared.access.ElementId.{ElementId}
use Rattle.dc_int.specs.declared.operation.ReduceOp.{ReduceOp}
use Rattle.dc_int.specs.declared.variable.Shape.{Shape}
use Rattle.dc_int.specs.Entries.{Entry, Reads, Defines, Undefines, Contributes, store_after, store_after_entry}
use Rattle.dc_int.proofs.Wraps.{is_of_kind-holds, wrapped_in_range}
use Rattle.dc_int.specs.declared.kind.Kind.{Kind}
use Rattle.dc_int.specs.Kinds.{InRange, value_fits, wrapped, is_truth_value}
use Rattle.dc_int.specs.Sorts.{fitted, sort_with}
use Rattle.dc_int.specs.Reductions.{truth, number_of_truth, is_logical, can_combine}
use Rattle.dc_int.specs.Shapes.{cell_fits, variable_fits, store_fits, state_fits, entry_fits}
use Rattle.dc_int.specs.Store.{Variable, Store, cell_of, value_at, number_in, put_at, with_cell, changed_at, bounds_of, elements_within}

-- ---- what keeps the invariant

length-set : (cells : List (Option ℤ)) (p : ℕ) (state : Option ℤ) → length (slice_set cells p state) ≡ length cells
length-set [] p state = refl
length-set (cell ∷ cells) zero state = refl
length-set (cell ∷ cells) (suc p) state = ap suc (length-set cells p state)

both : {a b : Bool} → a ≡ true → b ≡ true → (a && b) ≡ true
both one other = ap₂ (λ a b. a && b) one other

all-set
    : (fits : Option ℤ → Bool) (cells : List (Option ℤ)) (p : ℕ) (state : Option ℤ) → list_all fits cells ≡ true → fits state ≡ true
    → list_all fits (slice_set cells p state) ≡ true
all-set fits [] p state all new = refl
all-set fits (cell ∷ cells) zero state all new = both new (and_parts (fits cell) (list_all fits cells) all).1
all-set fits (cell ∷ cells) (suc p) state all new =
    let parts = and_parts (fits cell) (list_all fits cells) all in both parts.0 (all-set fits cells p state parts.1 new)

-- the parts of what it is for a variable to fit
pub record FittingVariable (shape : Shape) (variable : Variable) : Type 0 where
  pub within : (elements_within variable.bounds == shape.elements) ≡ true
  pub as_cells : (length variable.cells == shape.elements) ≡ true
  pub each : list_all (cell_fits shape) variable.cells ≡ true

variable-parts : (shape : Shape) (variable : Variable) → variable_fits shape variable ≡ true → FittingVariable shape variable
variable-parts shape variable fits =
    let first =
    and_parts (elements_within variable.bounds == shape.elements) ((length variable.cells == shape.elements) && list_all (cell_fits shape) variable.cells) fits in
    let second = and_parts (length variable.cells == shape.elements) (list_all (cell_fits shape) variable.cells) first.1 in
    record { within = first.0; as_cells = second.0; each = second.1 }

variable-put
    : (shape : Shape) (variable : Variable) (p : ℕ) (state : Option ℤ) → variable_fits shape variable ≡ true → cell_fits shape state ≡ true
    → variable_fits shape (with_cell p state variable) ≡ true
variable-put shape variable p state fits new =
    let parts = variable-parts shape variable fits in
    both parts.within (both (ap (λ n. n == shape.elements) (length-set variable.cells p state) ∙ parts.as_cells) (all-set (cell_fits shape) variable.cells p state parts.each new))

store-changed
    : (shapes : List Shape) (store : Store) (v p : ℕ) (state : Option ℤ) → store_fits shapes store ≡ true
    → state_fits shapes (record { variable = v; position = p }) state ≡ true → store_fits shapes (changed_at (with_cell p state) store v) ≡ true
store-changed [] [] v p state fits new = refl
store-changed [] (variable ∷ store) v p state fits new = absurd (false≢true fits)
store-changed (shape ∷ shapes) [] v p state fits new = absurd (false≢true fits)
store-changed (shape ∷ shapes) (variable ∷ store) zero p state fits new =
    let parts = and_parts (variable_fits shape variable) (store_fits shapes store) fits in both (variable-put shape variable p state parts.0 new) parts.1
store-changed (shape ∷ shapes) (variable ∷ store) (suc v) p state fits new =
    let parts = and_parts (variable_fits shape variable) (store_fits shapes store) fits in both parts.0 (store-changed shapes store v p state parts.1 new)

-- To put a state that fits keeps the invariant.
pub fits-put
    : (shapes : List Shape) (store : Store) (x : ElementId) (state : Option ℤ) → store_fits shapes store ≡ true → state_fits shapes x state ≡ true
    → store_fits shapes (put_at store x state) ≡ true
unfolding put_at
fits-put shapes store x state fits new = store-changed shapes store x.variable x.position state fits new

-- An element can always be left undefined.
pub undefined-fits : (shapes : List Shape) (x : ElementId) → state_fits shapes x None ≡ true
undefined-fits shapes x = by (slice_get shapes x.variable) refl
  where
    by : (found : Option Shape) → slice_get shapes x.variable ≡ found → state_fits shapes x None ≡ true
    by None is = rw is refl
    by (Some shape) is = rw is refl

-- An entry that fits keeps the invariant.
pub fits-entry
    : (shapes : List Shape) (store : Store) (entry : Entry) → store_fits shapes store ≡ true → entry_fits shapes entry ≡ true
    → store_fits shapes (store_after_entry entry store) ≡ true
fits-entry shapes store (Reads x line) fits new = fits
fits-entry shapes store (Defines x value line) fits new = fits-put shapes store x (Some value) fits new
fits-entry shapes store (Undefines x line) fits new = fits-put shapes store x None fits (undefined-fits shapes x)
fits-entry shapes store (Contributes x op value) fits new = fits

-- Entries that fit keep the invariant.
pub fits-after
    : (shapes : List Shape) (store : Store) (entries : List Entry) → store_fits shapes store ≡ true → list_all (entry_fits shapes) entries ≡ true
    → store_fits shapes (store_after entries store) ≡ true
fits-after shapes store [] fits all = fits
fits-after shapes store (entry ∷ entries) fits all =
    let parts = and_parts (entry_fits shapes entry) (list_all (entry_fits shapes) entries) all in
    fits-after shapes (store_after_entry entry store) entries (fits-entry shapes store entry fits parts.0) parts.1

-- ---- bounds

bounds-changed : (store : Store) (v w p : ℕ) (state : Option ℤ) → bounds_of (changed_at (with_cell p state) store v) w ≡ bounds_of store w
bounds-changed [] v w p state = refl
bounds-changed (variable ∷ store) zero zero p state = refl
bounds-changed (variable ∷ store) zero (suc w) p state = refl
bounds-changed (variable ∷ store) (suc v) zero p state = refl
bounds-changed (variable ∷ store) (suc v) (suc w) p state = bounds-changed store v w p state

-- To put a state leaves the bounds of each variable.
pub bounds-put : (store : Store) (x : ElementId) (state : Option ℤ) (variable : ℕ) → bounds_of (put_at store x state) variable ≡ bounds_of store variable
unfolding put_at
bounds-put store x state variable = bounds-changed store x.variable variable x.position state

bounds-entry : (store : Store) (entry : Entry) (variable : ℕ) → bounds_of (store_after_entry entry store) variable ≡ bounds_of store variable
bounds-entry store (Reads x line) variable = refl
bounds-entry store (Defines x value line) variable = bounds-put store x (Some value) variable
bounds-entry store (Undefines x line) variable = bounds-put store x None variable
bounds-entry store (Contributes x op value) variable = refl

-- Entries leave the bounds of each variable.
pub bounds-after : (entries : List Entry) (store : Store) (variable : ℕ) → bounds_of (store_after entries store) variable ≡ bounds_of store variable
bounds-after [] store variable = refl
bounds-after (entry ∷ entries) store variable = bounds-after entries (store_after_entry entry store) variable ∙ bounds-entry store entry variable

-- ---- what the invariant gives

-- There is a variable for each shape.
pub fits-length : (shapes : List Shape) (store : Store) → store_fits shapes store ≡ true → length store ≡ length shapes
fits-length [] [] fits = refl
fits-length [] (variable ∷ store) fits = absurd (false≢true fits)
fits-length (shape ∷ shapes) [] fits = absurd (false≢true fits)
fits-length (shape ∷ shapes) (variable ∷ store) fits = ap suc (fits-length shapes store (and_parts (variable_fits shape variable) (store_fits shapes store) fits).1)

-- The shape that a variable fits.
pub record ShapeOf (shapes : List Shape) (number : ℕ) (variable : Variable) : Type 0 where
  pub shape : Shape
  pub is : slice_get shapes number ≡ Some shape
  pub within : elements_within variable.bounds ≡ shape.elements
  pub as_cells : length variable.cells ≡ shape.elements
  pub each : list_all (cell_fits shape) variable.cells ≡ true

-- Each variable has a shape that it fits.
pub shape-of
    : (shapes : List Shape) (store : Store) (number : ℕ) (variable : Variable) → store_fits shapes store ≡ true → slice_get store number ≡ Some variable
    → ShapeOf shapes number variable
shape-of shapes [] number variable fits found = absurd (none-some variable found)
shape-of [] (first ∷ store) number variable fits found = absurd (false≢true fits)
shape-of (shape ∷ shapes) (first ∷ store) zero variable fits found =
    let here = same_Some first variable found in
    let parts = variable-parts shape variable (ap (variable_fits shape) (sym here) ∙ (and_parts (variable_fits shape first) (store_fits shapes store) fits).0) in
    record { shape = shape; is = refl; within = eqb-true _ _ parts.within; as_cells = eqb-true _ _ parts.as_cells; each = parts.each }
shape-of (shape ∷ shapes) (first ∷ store) (suc number) variable fits found =
    let rest = shape-of shapes store number variable (and_parts (variable_fits shape first) (store_fits shapes store) fits).1 found in
    record { shape = rest.shape; is = rest.is; within = rest.within; as_cells = rest.as_cells; each = rest.each }

not-below-zero : (p : ℕ) → nat_lt p 0 ≡ false
not-below-zero p = grind (arith, nat_tests)

some-below : (cells : List (Option ℤ)) (p : ℕ) → is_some (slice_get cells p) ≡ nat_lt p (length cells)
some-below [] p = sym (not-below-zero p)
some-below (cell ∷ cells) zero = sym (zero-below (length cells))
  where
    zero-below : (n : ℕ) → nat_lt 0 (suc n) ≡ true
    zero-below n = grind (arith, nat_tests)
some-below (cell ∷ cells) (suc p) = some-below cells p ∙ lt-both p (length cells)
  where
    lt-both : (m n : ℕ) → nat_lt m n ≡ nat_lt (suc m) (suc n)
    lt-both m n = grind (arith, nat_tests)

-- A variable has as many cells as there are elements within its bounds.
pub cells-within
    : (shapes : List Shape) (store : Store) (number : ℕ) (variable : Variable) → store_fits shapes store ≡ true → slice_get store number ≡ Some variable
    → length variable.cells ≡ elements_within variable.bounds
cells-within shapes store number variable fits found =
    let of = shape-of shapes store number variable fits found in of.as_cells ∙ sym of.within

-- There is an element at each position within the bounds, and no other.
pub element-within
    : (shapes : List Shape) (store : Store) (x : ElementId) → store_fits shapes store ≡ true
    → is_some (cell_of store x) ≡ nat_lt x.position (elements_within (bounds_of store x.variable))
unfolding cell_of
element-within shapes store x fits = by (slice_get store x.variable) refl
  where
    by
        : (found : Option Variable) → slice_get store x.variable ≡ found
        → is_some (option_and_then (λ variable. slice_get variable.cells x.position) found)
        ≡ nat_lt x.position (elements_within (option_and_then (λ variable. variable.bounds) found))
    by None is = sym (not-below-zero x.position)
    by (Some variable) is =
        some-below variable.cells x.position ∙ ap (λ n. nat_lt x.position n) (cells-within shapes store x.variable variable fits is)

cell-among : (fits : Option ℤ → Bool) (cells : List (Option ℤ)) (p : ℕ) (state : Option ℤ) → list_all fits cells ≡ true → slice_get cells p ≡ Some state → fits state ≡ true
cell-among fits [] p state all found = absurd (none-some state found)
cell-among fits (cell ∷ cells) zero state all found = ap fits (sym (same_Some cell state found)) ∙ (and_parts (fits cell) (list_all fits cells) all).0
cell-among fits (cell ∷ cells) (suc p) state all found = cell-among fits cells p state (and_parts (fits cell) (list_all fits cells) all).1 found

-- What a cell holds fits its variable.
pub fits-state
    : (shapes : List Shape) (store : Store) (x : ElementId) (state : Option ℤ) → store_fits shapes store ≡ true → cell_of store x ≡ Some state
    → state_fits shapes x state ≡ true
unfolding cell_of
fits-state shapes store x state fits holds = by (slice_get store x.variable) refl holds
  where
    by
        : (found : Option Variable) → slice_get store x.variable ≡ found → option_and_then (λ variable. slice_get variable.cells x.position) found ≡ Some state
        → state_fits shapes x state ≡ true
    by None is here = absurd (none-some state here)
    by (Some variable) is here =
        let of = shape-of shapes store x.variable variable fits is in rw of.is (cell-among (cell_fits of.shape) variable.cells x.position state of.each here)

-- The value of an element is one of its variable.
pub fits-value
    : (shapes : List Shape) (store : Store) (x : ElementId) (shape : Shape) (z : ℤ) → store_fits shapes store ≡ true → slice_get shapes x.variable ≡ Some shape
    → value_at store x ≡ Some z → value_fits shape.kind shape.logical z ≡ true
unfolding value_at
fits-value shapes store x shape z fits declared holds = by (cell_of store x) refl holds
  where
    by : (cell : Option (Option ℤ)) → cell_of store x ≡ cell → number_in cell ≡ Some z → value_fits shape.kind shape.logical z ≡ true
    by None is here = absurd (none-some z here)
    by (Some state) is here =
        let of : state_fits shapes x (Some z) ≡ true = fits-state shapes store x (Some z) fits (is ∙ ap (λ s. Some s) here) in rw declared at of

-- A value of a variable is one that a reduction of its kind combines, where that is of LOGICAL as the
-- variable is.
pub fits-combines
    : (op : ReduceOp) (shape : Shape) (z : ℤ) → is_logical op ≡ shape.logical → value_fits shape.kind shape.logical z ≡ true
    → can_combine op shape.kind z ≡ true
fits-combines op shape z same fits = ap (λ logical. value_fits shape.kind logical z) same ∙ fits

-- ---- values that fit

truth-between : (z : ℤ) → is_truth_value z ≡ true → (pos 0 ≤ℤ z) × (z ≤ℤ pos 1)
truth-between z is =
    let parts = and_parts (int_le (pos 0) z) (int_le z (pos 1)) is in
    let low = parts.0 in
    let high = parts.1 in
    (omega (arith, ints, low), omega (arith, ints, high))

truth-within : (kind : Kind) (z : ℤ) → is_truth_value z ≡ true → InRange kind z
truth-within Kind.K1 z is = let between = truth-between z is in (omega (arith, ints, between.0), omega (arith, ints, between.1))
truth-within Kind.K2 z is = let between = truth-between z is in (omega (arith, ints, between.0), omega (arith, ints, between.1))
truth-within Kind.K4 z is = let between = truth-between z is in (omega (arith, ints, between.0), omega (arith, ints, between.1))
truth-within Kind.K8 z is = let between = truth-between z is in (omega (arith, ints, between.0), omega (arith, ints, between.1))

-- Each kind has 0 and 1.
pub truth-fits : (kind : Kind) (z : ℤ) → is_truth_value z ≡ true → value_fits kind true z ≡ true
truth-fits kind z is = both (is_of_kind-holds kind z (truth-within kind z is)) is

-- A wrapped number is one of its kind.
pub wrapped-fits : (kind : Kind) (z : ℤ) → value_fits kind false (wrapped kind z) ≡ true
wrapped-fits kind z = both (is_of_kind-holds kind (wrapped kind z) (wrapped_in_range kind z)) refl

-- The number of a truth is one of a LOGICAL.
pub truth_number-fits : (kind : Kind) (b : Bool) → value_fits kind true (number_of_truth b) ≡ true
truth_number-fits kind true = truth-fits kind (pos 1) refl
truth_number-fits kind false = truth-fits kind (pos 0) refl

-- What an assignment makes of a value is a value of the variable.
pub fitted-fits : (logical : Bool) (kind : Kind) (z : ℤ) → value_fits kind logical (fitted (sort_with logical kind) z) ≡ true
fitted-fits true kind z = truth_number-fits kind (truth z)
fitted-fits false kind z = wrapped-fits kind z
