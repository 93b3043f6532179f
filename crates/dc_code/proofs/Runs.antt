-- The laws of computations over a store.
use Rattle.std.proofs.Common.{◌≡◌, ◌≢◌, ◌⊎◌, inl, inr, Bool, true, false, cond, not, ◌&&◌, ◌||◌, List, [], ◌∷◌, Option, Some, None, refl, sym, ap, ◌∙◌, subst}
use Rattle.std.specs.Ordering.{int_eq}
use Rattle.std.proofs.lemmas.Bool.{cases_Bool, false≢true}
use Rattle.std.proofs.lemmas.Bool.Decides.{Decides-int_eq}
use Rattle.std.proofs.lemmas.Option.{none-some, same_Some}
use Rattle.std.specs.Prelude.{ℤ, is_some, option_map}
use Rattle.dc_int.specs.declared.access.ElementId.{ElementId}
use Rattle.dc_int.specs.Store.{Store, cell_of, value_at, put_at, bounds_of, same_element, number_in}
use Rattle.dc_int.specs.Entries.{Entry, Reads, Defines, Undefines, Contributes, store_after, touches, exposes, is_touch_of, state_after}
use Rattle.dc_int.proofs.Fits.{bounds-put}
use Rattle.dc_int.proofs.Stores.{replaced, cell-put, cell-after, state-after, same_element-itself}
use Rattle.dc_code.specs.Computation.{Computation, give, fail, read, define, undefine, contribute, ask, pause, sequence, Run, over, behind_entries, followed, Agree, SameRun, SameShape, FirstDifference}

-- The store after a run is what its entries make of the store before it.
pub replayed : {E T A : Type 0} (store : Store) (c : Computation E T A) → (over store c).store ≡ store_after (over store c).entries store
replayed store (give a) = refl
replayed store (fail trouble) = refl
replayed store (read x line rest) = replayed store (rest (value_at store x))
replayed store (define x value line rest) = replayed (put_at store x (Some value)) rest
replayed store (undefine x line rest) = replayed (put_at store x None) rest
replayed store (contribute x op value rest) = replayed store rest
replayed store (ask variable rest) = replayed store (rest (bounds_of store variable))
replayed store (pause event rest) = refl

-- A store makes of 'first this, then that' what it makes of the first, followed by the rest.
pub over-then : {E T A B : Type 0} (store : Store) (c : Computation E T A) (next : A → Computation E T B) → over store (sequence c next) ≡ followed (over store c) next
over-then store (give a) next = refl
over-then store (fail trouble) next = refl
over-then store (read x line rest) next = ap (behind_entries (Reads x line ∷ [])) (over-then store (rest (value_at store x)) next)
over-then store (define x value line rest) next = ap (behind_entries (Defines x value line ∷ [])) (over-then (put_at store x (Some value)) rest next)
over-then store (undefine x line rest) next = ap (behind_entries (Undefines x line ∷ [])) (over-then (put_at store x None) rest next)
over-then store (contribute x op value rest) next = ap (behind_entries (Contributes x op value ∷ [])) (over-then store rest next)
over-then store (ask variable rest) next = over-then store (rest (bounds_of store variable)) next
over-then store (pause event rest) next = refl

-- An element that the entries don't touch stays as it was.
pub untouched : (entries : List Entry) (store : Store) (x : ElementId) → touches x entries ≡ false → cell_of (store_after entries store) x ≡ cell_of store x
untouched entries store x apart = cell-after entries store x ∙ kept (cell_of store x)
  where
    kept : (cell : Option (Option ℤ)) → option_map (state_after x entries) cell ≡ cell
    kept None = refl
    kept (Some state) = ap (λ (s : Option ℤ). Some s) (state-after x entries state ∙ ap (λ b. cond b (state_after x entries None) state) apart)

-- ---- stores that agree

some-replaced : (b : Bool) (state : Option ℤ) (cell : Option (Option ℤ)) → is_some (replaced b state cell) ≡ is_some cell
some-replaced true state None = refl
some-replaced true state (Some old) = refl
some-replaced false state cell = refl

same-replaced : (state : Option ℤ) (first second : Option (Option ℤ)) → is_some first ≡ is_some second → number_in (replaced true state first) ≡ number_in (replaced true state second)
same-replaced state None None e = refl
same-replaced state None (Some old) e = cc
same-replaced state (Some old) None e = cc
same-replaced state (Some old) (Some other) e = refl

pub value-cell : (store : Store) (x : ElementId) → value_at store x ≡ number_in (cell_of store x)
unfolding value_at
value-cell store x = refl

shape-put : (first second : Store) (x : ElementId) (state : Option ℤ) → SameShape first second → SameShape (put_at first x state) (put_at second x state)
shape-put first second x state shape = record {
  elements = λ y. ap is_some (cell-put first x y state) ∙ some-replaced (same_element y x) state (cell_of first y) ∙ shape.elements y
      ∙ sym (ap is_some (cell-put second x y state) ∙ some-replaced (same_element y x) state (cell_of second y));
  bounds = λ variable. bounds-put first x state variable ∙ shape.bounds variable ∙ sym (bounds-put second x state variable);
}

-- one write to both of two stores that agree, where the first entry touches the written element
agree-put : (first second : Store) (x : ElementId) (state : Option ℤ) (entry : Entry) (entries : List Entry) → ((y : ElementId) → exposes y (entry ∷ entries) ≡ (not (same_element y x) && exposes y entries))
    → Agree first second (entry ∷ entries) → Agree (put_at first x state) (put_at second x state) entries
agree-put first second x state entry entries touches_x agree = record {
  shape = shape-put first second x state agree.shape;
  exposed = λ y seen. value-cell (put_at first x state) y ∙ ap number_in (cell-put first x y state) ∙ by_place y seen (same_element y x) refl
      ∙ sym (value-cell (put_at second x state) y ∙ ap number_in (cell-put second x y state));
}
  where
    by_place : (y : ElementId) → exposes y entries ≡ true → (b : Bool) → same_element y x ≡ b
        → number_in (replaced (same_element y x) state (cell_of first y)) ≡ number_in (replaced (same_element y x) state (cell_of second y))
    by_place y seen true e = rw e (same-replaced state (cell_of first y) (cell_of second y) (agree.shape.elements y))
    by_place y seen false e = rw e (sym (value-cell first y) ∙ agree.exposed y (touches_x y ∙ (rw (e, seen) refl)) ∙ value-cell second y)

-- an entry that touches nothing
agree-behind : (first second : Store) (entry : Entry) (entries : List Entry) → ((y : ElementId) → exposes y entries ≡ true → exposes y (entry ∷ entries) ≡ true) → Agree first second (entry ∷ entries) → Agree first second entries
agree-behind first second entry entries still agree = record { shape = agree.shape; exposed = λ y seen. agree.exposed y (still y seen) }

or-true : (a b : Bool) → b ≡ true → (a || b) ≡ true
or-true true b e = refl
or-true false b e = e

same-behind : {E T A : Type 0} (entry : Entry) (first second : Run E T A) → SameRun first second → SameRun (behind_entries (entry ∷ []) first) (behind_entries (entry ∷ []) second)
same-behind entry first second same = record { entries = ap (λ es. entry ∷ es) same.entries; reached = same.reached }

-- The frame law.
pub framed : {E T A : Type 0} (c : Computation E T A) (first second : Store) → Agree first second (over first c).entries → SameRun (over first c) (over second c)
framed (give a) first second agree = record { entries = refl; reached = refl }
framed (fail trouble) first second agree = record { entries = refl; reached = refl }
framed (read x line rest) first second agree =
    let here : value_at first x ≡ value_at second x = agree.exposed x (rw (same_element-itself x) refl) in
    let inner = framed (rest (value_at first x)) first second
    (agree-behind first second (Reads x line) (over first (rest (value_at first x))).entries (λ y seen. or-true (same_element y x) (exposes y (over first (rest (value_at first x))).entries) seen) agree) in
    same-behind (Reads x line) (over first (rest (value_at first x))) (over second (rest (value_at second x)))
    (subst (λ o. SameRun (over first (rest (value_at first x))) (over second (rest o))) here inner)
framed (define x value line rest) first second agree =
    same-behind (Defines x value line) (over (put_at first x (Some value)) rest) (over (put_at second x (Some value)) rest)
    (framed rest (put_at first x (Some value)) (put_at second x (Some value)) (agree-put first second x (Some value) (Defines x value line) (over (put_at first x (Some value)) rest).entries (λ y. refl) agree))
framed (undefine x line rest) first second agree =
    same-behind (Undefines x line) (over (put_at first x None) rest) (over (put_at second x None) rest)
    (framed rest (put_at first x None) (put_at second x None) (agree-put first second x None (Undefines x line) (over (put_at first x None) rest).entries (λ y. refl) agree))
framed (contribute x op value rest) first second agree =
    same-behind (Contributes x op value) (over first rest) (over second rest)
    (framed rest first second (agree-behind first second (Contributes x op value) (over first rest).entries (λ y seen. seen) agree))
framed (ask variable rest) first second agree =
    subst (λ o. SameRun (over first (rest (bounds_of first variable))) (over second (rest o))) (agree.shape.bounds variable) (framed (rest (bounds_of first variable)) first second agree)
framed (pause event rest) first second agree = record { entries = refl; reached = refl }

-- ---- the first difference

decide_state : (a b : Option ℤ) → (a ≡ b) ⊎ (a ≢ b)
decide_state None None = inl refl
decide_state None (Some y) = inr (λ e. none-some y e)
decide_state (Some x) None = inr (λ e. none-some x (sym e))
decide_state (Some x) (Some y) =
    let decided = Decides-int_eq x y in
    elim (cases_Bool (int_eq x y)) [
      | inl equal ↦ inl (ap (λ (z : ℤ). Some z) (decided.0 equal))
      | inr other ↦ inr (λ e. false≢true (sym other ∙ decided.1 (same_Some x y e)))
    ]

-- a difference behind one entry that the element is not touched by
difference-behind : (first second : Store) (entry : Entry) (left right : List Entry) (d : FirstDifference first second left right) → is_touch_of d.element entry ≡ false → FirstDifference first second (entry ∷ left) (entry ∷ right)
difference-behind first second entry left right d apart = record {
  before = entry ∷ d.before;
  element = d.element;
  line = d.line;
  left_rest = d.left_rest;
  right_rest = d.right_rest;
  left_is = ap (λ es. entry ∷ es) d.left_is;
  right_is = ap (λ es. entry ∷ es) d.right_is;
  fresh = rw (apart, d.fresh) refl;
  differ = d.differ;
}

-- a difference over stores that were written alike is one over the stores before
difference-put : (first second : Store) (x : ElementId) (state : Option ℤ) (left right : List Entry) → SameShape first second
    → FirstDifference (put_at first x state) (put_at second x state) left right → (back : FirstDifference first second left right) × (same_element back.element x ≡ false)
difference-put first second x state left right shape d = by_place (same_element d.element x) refl
  where
    read_back : (store : Store) → value_at (put_at store x state) d.element ≡ number_in (replaced (same_element d.element x) state (cell_of store d.element))
    read_back store = value-cell (put_at store x state) d.element ∙ ap number_in (cell-put store x d.element state)

    by_place : (b : Bool) → same_element d.element x ≡ b → (back : FirstDifference first second left right) × (same_element back.element x ≡ false)
    by_place true e =
        let alike : number_in (replaced (same_element d.element x) state (cell_of first d.element)) ≡ number_in (replaced (same_element d.element x) state (cell_of second d.element)) =
        rw e (same-replaced state (cell_of first d.element) (cell_of second d.element) (shape.elements d.element)) in
        absurd (d.differ (read_back first ∙ alike ∙ sym (read_back second)))
    by_place false e =
        let kept : (store : Store) → value_at (put_at store x state) d.element ≡ value_at store d.element =
        λ store. read_back store ∙ ap (λ b. number_in (replaced b state (cell_of store d.element))) e ∙ sym (value-cell store d.element) in (
          record {
            before = d.before;
            element = d.element;
            line = d.line;
            left_rest = d.left_rest;
            right_rest = d.right_rest;
            left_is = d.left_is;
            right_is = d.right_is;
            fresh = d.fresh;
            differ = λ same. d.differ (kept first ∙ same ∙ sym (kept second));
          },
          e,
        )

-- Over two stores of one shape a computation runs alike, or there is a first difference.
pub first-difference : {E T A : Type 0} (c : Computation E T A) (first second : Store) → SameShape first second → SameRun (over first c) (over second c) ⊎ FirstDifference first second (over first c).entries (over second c).entries
first-difference (give a) first second shape = inl (record { entries = refl; reached = refl })
first-difference (fail trouble) first second shape = inl (record { entries = refl; reached = refl })
first-difference (read x line rest) first second shape = by_state (decide_state (value_at first x) (value_at second x)) (first-difference (rest (value_at first x)) first second shape)
  where
    by_state : (value_at first x ≡ value_at second x) ⊎ (value_at first x ≢ value_at second x)
        → SameRun (over first (rest (value_at first x))) (over second (rest (value_at first x))) ⊎ FirstDifference first second (over first (rest (value_at first x))).entries (over second (rest (value_at first x))).entries
        → SameRun (over first (read x line rest)) (over second (read x line rest)) ⊎ FirstDifference first second (over first (read x line rest)).entries (over second (read x line rest)).entries
    by_state (inr differ) inner =
        inr (record {
          before = [];
          element = x;
          line = line;
          left_rest = (over first (rest (value_at first x))).entries;
          right_rest = (over second (rest (value_at second x))).entries;
          left_is = refl;
          right_is = refl;
          fresh = refl;
          differ = differ;
        })
    by_state (inl same) (inl run) =
        inl (same-behind (Reads x line) (over first (rest (value_at first x))) (over second (rest (value_at second x))) (subst (λ o. SameRun (over first (rest (value_at first x))) (over second (rest o))) same run))
    by_state (inl same) (inr d) =
        inr (subst (λ o. FirstDifference first second (Reads x line ∷ (over first (rest (value_at first x))).entries) (Reads x line ∷ (over second (rest o)).entries)) same
        (difference-behind first second (Reads x line) (over first (rest (value_at first x))).entries (over second (rest (value_at first x))).entries d refl))
first-difference (define x value line rest) first second shape =
    elim (first-difference rest (put_at first x (Some value)) (put_at second x (Some value)) (shape-put first second x (Some value) shape)) [
      | inl run ↦ inl (same-behind (Defines x value line) (over (put_at first x (Some value)) rest) (over (put_at second x (Some value)) rest) run)
      | inr d ↦
          let back = difference-put first second x (Some value) (over (put_at first x (Some value)) rest).entries (over (put_at second x (Some value)) rest).entries shape d in
          inr (difference-behind first second (Defines x value line) (over (put_at first x (Some value)) rest).entries (over (put_at second x (Some value)) rest).entries back.0 back.1)
    ]
first-difference (undefine x line rest) first second shape =
    elim (first-difference rest (put_at first x None) (put_at second x None) (shape-put first second x None shape)) [
      | inl run ↦ inl (same-behind (Undefines x line) (over (put_at first x None) rest) (over (put_at second x None) rest) run)
      | inr d ↦
          let back = difference-put first second x None (over (put_at first x None) rest).entries (over (put_at second x None) rest).entries shape d in
          inr (difference-behind first second (Undefines x line) (over (put_at first x None) rest).entries (over (put_at second x None) rest).entries back.0 back.1)
    ]
first-difference (contribute x op value rest) first second shape =
    elim (first-difference rest first second shape) [
      | inl run ↦ inl (same-behind (Contributes x op value) (over first rest) (over second rest) run)
      | inr d ↦ inr (difference-behind first second (Contributes x op value) (over first rest).entries (over second rest).entries d refl)
    ]
first-difference (ask variable rest) first second shape =
    subst (λ o. SameRun (over first (rest (bounds_of first variable))) (over second (rest o)) ⊎ FirstDifference first second (over first (rest (bounds_of first variable))).entries (over second (rest o)).entries) (shape.bounds variable)
    (first-difference (rest (bounds_of first variable)) first second shape)
first-difference (pause event rest) first second shape = inl (record { entries = refl; reached = refl })
