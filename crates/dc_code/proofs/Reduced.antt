-- The reductions of a loop are the same for runs in another order.
use Rattle.std.proofs.Common.{◌≡◌, ℕ, Bool, true, false, List, [], ◌∷◌, All, Option, Some, None, refl, sym, ap, ◌∙◌, subst}
use Rattle.std.proofs.lemmas.List.Elements.{All-nil, All-cons, All-head, All-tail, All-append}
use Rattle.std.proofs.lemmas.Option.{none-some, same_Some}
use Rattle.std.specs.Prelude.{ℤ, filter_map, slice_get, option_and_then}
use Rattle.std.specs.List.{list_any}
use Rattle.std.specs.List.Sorted.{IsPermutation}
use Rattle.dc_int.specs.declared.access.ElementId.{ElementId}
use Rattle.dc_int.specs.declared.kind.Kind.{Kind}
use Rattle.dc_int.specs.declared.operation.ReduceOp.{ReduceOp}
use Rattle.dc_int.specs.declared.variable.Locality.{Locality}
use Rattle.dc_int.specs.declared.variable.Shape.{Shape}
use Rattle.dc_int.specs.Entries.{Entry, Reads, Defines, Undefines, Contributes, touches}
use Rattle.dc_int.specs.Reductions.{can_combine, combined}
use Rattle.dc_int.specs.Store.{Variable, Store, cell_of, value_at, number_in, same_element}
use Rattle.dc_int.specs.Shapes.{store_fits}
use Rattle.dc_int.proofs.Fits.{shape-of, fits-value, fits-combines}
use Rattle.dc_int.proofs.Reductions.{combined-inside, combined-swap}
use Rattle.dc_int.proofs.Stores.{same_element-is}
use Rattle.dc_code.specs.Closing.{Localities, contributed_by, contributed, combined_with, operation_here, reduced}
use Rattle.dc_code.specs.Laws.{IsCombinable, MatchesShapes, may_touch}
use Rattle.dc_code.proofs.Alone.{left_by}
use Rattle.dc_code.proofs.Exchanges.{by_exchanges, flat_map-permutation}
use Rattle.dc_code.proofs.Permuted.{value-left}

-- ---- values that are combined

-- Each REDUCE element that has a value has one that its operation combines.
abbrev pub HoldsCombinable : Localities → Store → Type 0
HoldsCombinable localities store =
    (x : ElementId) (op : ReduceOp) (value : ℤ) → localities.locality x.variable ≡ Locality.Reduce op → value_at store x ≡ Some value
    → can_combine op (localities.kind x.variable) value ≡ true

-- An element that has a value is one of a declared variable.
value-declared
    : (shapes : List Shape) (store : Store) (x : ElementId) (value : ℤ) → store_fits shapes store ≡ true → value_at store x ≡ Some value
    → (shape : Shape) × (slice_get shapes x.variable ≡ Some shape)
unfolding value_at cell_of
value-declared shapes store x value fits holds = by (slice_get store x.variable) refl holds
  where
    by
        : (found : Option Variable) → slice_get store x.variable ≡ found
        → number_in (option_and_then (λ variable. slice_get variable.cells x.position) found) ≡ Some value
        → (shape : Shape) × (slice_get shapes x.variable ≡ Some shape)
    by None is none = absurd (none-some value none)
    by (Some variable) is here = let of = shape-of shapes store x.variable variable fits is in (of.shape, of.is)

-- So it is in a store that fits the declared variables.
pub fits-holds
    : (localities : Localities) (shapes : List Shape) (store : Store) → MatchesShapes localities shapes → store_fits shapes store ≡ true → HoldsCombinable localities store
fits-holds localities shapes store matches fits x op value reduces holds =
    let declared = value-declared shapes store x value fits holds in
    let same = matches.reduces x.variable op declared.0 reduces declared.1 in
    ap (λ kind. can_combine op kind value) same.0
    ∙ fits-combines op declared.0 value same.1 (fits-value shapes store x declared.0 value fits declared.1 holds)

abbrev Can : ReduceOp → Kind → ℤ → Type 0
Can op kind value = can_combine op kind value ≡ true

-- The others can be combined too, and the same comes of them.
record CombineAlike (op : ReduceOp) (kind : Kind) (values others : List ℤ) : Type 0 where
  can : All (Can op kind) others
  same : (value : ℤ) → can_combine op kind value ≡ true → combined_with op kind value values ≡ combined_with op kind value others

combine-alike
    : (op : ReduceOp) (kind : Kind) (values others : List ℤ) → IsPermutation values others → All (Can op kind) values
    → CombineAlike op kind values others
combine-alike op kind = by_exchanges (λ values others. All (Can op kind) values → CombineAlike op kind values others)
    (λ values all. record { can = all; same = λ value suits. refl })
    (λ xs ys zs one other all.
    let first = one all in
    let second = other first.can in
    record { can = second.can; same = λ value suits. first.same value suits ∙ second.same value suits })
    (λ x xs ys held all.
    let rest = held (All-tail (Can op kind) x xs all) in
    record {
      can = All-cons (Can op kind) x ys (All-head (Can op kind) x xs all) rest.can;
      same = λ value suits. rest.same (combined op kind value x) (combined-inside op kind value x);
    })
    (λ x y xs all.
    let suits_x = All-head (Can op kind) x (y ∷ xs) all in
    let rest = All-tail (Can op kind) x (y ∷ xs) all in
    let suits_y = All-head (Can op kind) y xs rest in
    record {
      can = All-cons (Can op kind) y (x ∷ xs) suits_y (All-cons (Can op kind) x xs suits_x (All-tail (Can op kind) y xs rest));
      same = λ value suits. ap (λ v. combined_with op kind v xs) (combined-swap op kind value x y suits suits_x suits_y);
    })

-- ---- what runs contribute

-- Each contribution of a run to an element of a reduction is a value that its operation combines.
can-contributed_by
    : (localities : Localities) (op : ReduceOp) (x : ElementId) → localities.locality x.variable ≡ Locality.Reduce op → (run : List Entry)
    → All (IsCombinable localities) run
    → All (Can op (localities.kind x.variable)) (filter_map (contributed_by x) run)
can-contributed_by localities op x is [] own = All-nil (Can op (localities.kind x.variable))
can-contributed_by localities op x is (Reads y line ∷ run) own = can-contributed_by localities op x is run (All-tail (IsCombinable localities) (Reads y line) run own)
can-contributed_by localities op x is (Defines y value line ∷ run) own =
    can-contributed_by localities op x is run (All-tail (IsCombinable localities) (Defines y value line) run own)
can-contributed_by localities op x is (Undefines y line ∷ run) own =
    can-contributed_by localities op x is run (All-tail (IsCombinable localities) (Undefines y line) run own)
can-contributed_by localities op x is (Contributes y other value ∷ run) own =
    by (same_element x y) refl (can-contributed_by localities op x is run (All-tail (IsCombinable localities) (Contributes y other value) run own))
    (All-head (IsCombinable localities) (Contributes y other value) run own)
  where
    by
        : (b : Bool) → same_element x y ≡ b → All (Can op (localities.kind x.variable)) (filter_map (contributed_by x) run)
        → IsCombinable localities (Contributes y other value)
        → All (Can op (localities.kind x.variable)) (filter_map (contributed_by x) (Contributes y other value ∷ run))
    by true same rest (locality_is, suits) =
        let here : x ≡ y = same_element-is x y same in
        let operations : Locality.Reduce other ≡ Locality.Reduce op = sym locality_is ∙ ap (λ z. localities.locality z.variable) (sym here) ∙ is in
        let operation : other ≡ op = cc in
        let fits : Can op (localities.kind x.variable) value =
        subst (λ o. Can o (localities.kind x.variable) value) operation (subst (λ z. Can other (localities.kind z.variable) value) (sym here) suits) in
        rw same (All-cons (Can op (localities.kind x.variable)) value (filter_map (contributed_by x) run) fits rest)
    by false same rest own = rw same rest

can-contributed
    : (localities : Localities) (op : ReduceOp) (x : ElementId) → localities.locality x.variable ≡ Locality.Reduce op → (runs : List (List Entry))
    → All (All (IsCombinable localities)) runs
    → All (Can op (localities.kind x.variable)) (contributed x runs)
can-contributed localities op x is [] own = All-nil (Can op (localities.kind x.variable))
can-contributed localities op x is (run ∷ runs) own =
    All-append (Can op (localities.kind x.variable)) (filter_map (contributed_by x) run) (contributed x runs)
    (can-contributed_by localities op x is run (All-head (All (IsCombinable localities)) run runs own))
    (can-contributed localities op x is runs (All-tail (All (IsCombinable localities)) run runs own))

-- ---- the definition of an element

pub here-is : (localities : Localities) (variable : ℕ) (op : ReduceOp) → operation_here localities variable ≡ Some op → localities.locality variable ≡ Locality.Reduce op
here-is localities variable op e = by_passed (localities.passed variable) refl
  where
    by_locality
        : localities.passed variable ≡ false → (locality : Locality) → localities.locality variable ≡ locality → localities.locality variable ≡ Locality.Reduce op
    by_locality kept (Locality.Reduce other) is =
        let told : operation_here localities variable ≡ Some other = rw (kept, is) refl in
        is ∙ ap Locality.Reduce (same_Some other op (sym told ∙ e))
    by_locality kept Locality.Plain is = let told : operation_here localities variable ≡ None = rw (kept, is) refl in absurd (none-some op (sym told ∙ e))
    by_locality kept Locality.Shared is = let told : operation_here localities variable ≡ None = rw (kept, is) refl in absurd (none-some op (sym told ∙ e))
    by_locality kept Locality.Local is = let told : operation_here localities variable ≡ None = rw (kept, is) refl in absurd (none-some op (sym told ∙ e))
    by_locality kept Locality.LocalInit is =
        let told : operation_here localities variable ≡ None = rw (kept, is) refl in absurd (none-some op (sym told ∙ e))

    by_passed : (passed : Bool) → localities.passed variable ≡ passed → localities.locality variable ≡ Locality.Reduce op
    by_passed true passed = let told : operation_here localities variable ≡ None = rw passed refl in absurd (none-some op (sym told ∙ e))
    by_passed false kept = by_locality kept (localities.locality variable) refl

-- the definition of an element by its operation and its value
abbrev pub defined_by : Localities → ℕ → List (List Entry) → ElementId → Option ReduceOp → Option ℤ → Option Entry
defined_by localities line runs x (Some op) (Some value) = Some (Defines x (combined_with op (localities.kind x.variable) value (contributed x runs)) line)
defined_by localities line runs x op value = None

pub reduced-is
    : (localities : Localities) (line : ℕ) (runs : List (List Entry)) (store : Store) (x : ElementId)
    → reduced localities line runs store x ≡ defined_by localities line runs x (operation_here localities x.variable) (value_at store x)
reduced-is localities line runs store x = by (operation_here localities x.variable) (value_at store x) refl refl
  where
    by
        : (op : Option ReduceOp) (value : Option ℤ) → operation_here localities x.variable ≡ op → value_at store x ≡ value
        → reduced localities line runs store x ≡ defined_by localities line runs x op value
    by (Some op) (Some value) op_is value_is = rw (op_is, value_is) refl
    by (Some op) None op_is value_is = rw (op_is, value_is) refl
    by None value op_is value_is = rw op_is refl

-- An element of a reduction is defined alike by runs and by a permutation of them.
pub reduced-permuted
    : (localities : Localities) (line : ℕ) (runs others : List (List Entry)) (store : Store) → IsPermutation runs others
    → All (All (IsCombinable localities)) runs → HoldsCombinable localities store
    → ((x : ElementId) → may_touch (localities.locality x.variable) ≡ false → list_any (touches x) runs ≡ false)
    → ((x : ElementId) → may_touch (localities.locality x.variable) ≡ false → list_any (touches x) others ≡ false)
    → (x : ElementId) → reduced localities line runs (left_by runs store) x ≡ reduced localities line others (left_by others store) x
reduced-permuted localities line runs others store permuted own holds apart apart_too x =
    reduced-is localities line runs (left_by runs store) x ∙ by (operation_here localities x.variable) refl
    ∙ sym (reduced-is localities line others (left_by others store) x)
  where
    by_value
        : (op : ReduceOp) → localities.locality x.variable ≡ Locality.Reduce op → (value : Option ℤ) → value_at store x ≡ value
        → defined_by localities line runs x (Some op) value ≡ defined_by localities line others x (Some op) value
    by_value op is None value_is = refl
    by_value op is (Some value) value_is =
        let alike =
        combine-alike op (localities.kind x.variable) (contributed x runs) (contributed x others)
        (flat_map-permutation (filter_map (contributed_by x)) runs others permuted) (can-contributed localities op x is runs own) in
        ap (λ v. Some (Defines x v line)) (alike.same value (holds x op value is value_is))

    by
        : (op : Option ReduceOp) → operation_here localities x.variable ≡ op
        → defined_by localities line runs x op (value_at (left_by runs store) x) ≡ defined_by localities line others x op (value_at (left_by others store) x)
    by None op_is = refl
    by (Some op) op_is =
        let is = here-is localities x.variable op op_is in
        let never : may_touch (localities.locality x.variable) ≡ false = ap may_touch is in
        ap (defined_by localities line runs x (Some op)) (value-left runs store x (apart x never)) ∙ by_value op is (value_at store x) refl
        ∙ ap (defined_by localities line others x (Some op)) (sym (value-left others store x (apart_too x never)))
