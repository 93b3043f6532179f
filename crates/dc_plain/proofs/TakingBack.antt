-- What is taken back of a store leaves the opening store.
use Rattle.std.proofs.Common.{◌≡◌, ℕ, zero, suc, Bool, true, false, ◌&&◌, List, [], ◌∷◌, Option, Some, None, refl, sym, ap, ◌∙◌}
use Rattle.std.specs.Prelude.{ℤ, slice_get, slice_set}
use Rattle.std.proofs.lemmas.Bool.{false≢true}
use Rattle.std.proofs.lemmas.List.{set-set}
use Rattle.dc_int.specs.declared.access.ElementId.{ElementId}
use Rattle.dc_int.specs.Entries.{Entry, Reads, Defines, Undefines, Contributes, store_after}
use Rattle.dc_int.specs.Store.{Variable, Store, cell_of, value_at, put_at, number_in, with_cell, changed_at, same, same_element}
use Rattle.dc_int.proofs.Stores.{replaced, cell-put, same-is, same_element-is, same_element-itself}
use Rattle.dc_plain.specs.TakingBack.{taken_back}

-- ---- items that are changed

changed-twice : {A : Type 0} (f g : A → A) (items : List A) (p : ℕ) → changed_at f (changed_at g items p) p ≡ changed_at (λ item. f (g item)) items p
changed-twice f g [] p = refl
changed-twice f g (item ∷ items) zero = refl
changed-twice f g (item ∷ items) (suc p) = ap (λ rest. item ∷ rest) (changed-twice f g items p)

changed-apart : {A : Type 0} (f g : A → A) (items : List A) (p q : ℕ) → same p q ≡ false → changed_at f (changed_at g items p) q ≡ changed_at g (changed_at f items q) p
changed-apart f g [] p q apart = refl
changed-apart f g (item ∷ items) zero zero apart = cc
changed-apart f g (item ∷ items) zero (suc q) apart = refl
changed-apart f g (item ∷ items) (suc p) zero apart = refl
changed-apart f g (item ∷ items) (suc p) (suc q) apart = ap (λ rest. item ∷ rest) (changed-apart f g items p q apart)

set-apart : (cells : List (Option ℤ)) (p q : ℕ) (a b : Option ℤ) → same p q ≡ false → slice_set (slice_set cells p a) q b ≡ slice_set (slice_set cells q b) p a
set-apart [] p q a b apart = refl
set-apart (cell ∷ cells) zero zero a b apart = cc
set-apart (cell ∷ cells) zero (suc q) a b apart = refl
set-apart (cell ∷ cells) (suc p) zero a b apart = refl
set-apart (cell ∷ cells) (suc p) (suc q) a b apart = ap (λ rest. cell ∷ rest) (set-apart cells p q a b apart)

-- a cell is given the state that it has
set-back : (cells : List (Option ℤ)) (p : ℕ) → slice_set cells p (number_in (slice_get cells p)) ≡ cells
set-back [] p = refl
set-back (cell ∷ cells) zero = refl
set-back (cell ∷ cells) (suc p) = ap (λ rest. cell ∷ rest) (set-back cells p)

-- ---- writes to a store

put-twice : (store : Store) (x : ElementId) (a b : Option ℤ) → put_at (put_at store x a) x b ≡ put_at store x b
unfolding put_at
put-twice store x a b =
    changed-twice (with_cell x.position b) (with_cell x.position a) store x.variable
    ∙ (λ i. changed_at (λ (variable : Variable). record { bounds = variable.bounds; cells = set-set variable.cells x.position a b i }) store x.variable)

put-apart : (store : Store) (x y : ElementId) (a b : Option ℤ) → same_element x y ≡ false → put_at (put_at store x a) y b ≡ put_at (put_at store y b) x a
unfolding put_at
put-apart store x y a b apart = by (same x.variable y.variable) refl apart
  where
    by : (one : Bool) → same x.variable y.variable ≡ one → (one && same x.position y.position) ≡ false
        → changed_at (with_cell y.position b) (changed_at (with_cell x.position a) store x.variable) y.variable
        ≡ changed_at (with_cell x.position a) (changed_at (with_cell y.position b) store y.variable) x.variable
    by false other apart = changed-apart (with_cell y.position b) (with_cell x.position a) store x.variable y.variable other
    by true is apart =
        let one : x.variable ≡ y.variable = same-is x.variable y.variable is in
        ap (λ v. changed_at (with_cell y.position b) (changed_at (with_cell x.position a) store v) y.variable) one
        ∙ changed-twice (with_cell y.position b) (with_cell x.position a) store y.variable
        ∙ (λ i. changed_at (λ (variable : Variable). record { bounds = variable.bounds; cells = set-apart variable.cells x.position y.position a b apart i }) store y.variable)
        ∙ sym (changed-twice (with_cell x.position a) (with_cell y.position b) store y.variable)
        ∙ ap (λ v. changed_at (with_cell x.position a) (changed_at (with_cell y.position b) store y.variable) v) (sym one)

cells-back : (store : Store) (v p : ℕ) → changed_at (with_cell p (value_at store (record { variable = v; position = p }))) store v ≡ store
unfolding value_at cell_of
cells-back [] v p = refl
cells-back (variable ∷ store) zero p = λ i. record { bounds = variable.bounds; cells = set-back variable.cells p i } ∷ store
cells-back (variable ∷ store) (suc v) p = ap (λ rest. variable ∷ rest) (cells-back store v p)

-- an element is given the state that it has
put-back : (store : Store) (x : ElementId) → put_at store x (value_at store x) ≡ store
unfolding put_at
put-back store x = cells-back store x.variable x.position

value-apart : (store : Store) (x y : ElementId) (a : Option ℤ) → same_element x y ≡ false → value_at (put_at store y a) x ≡ value_at store x
unfolding value_at
value-apart store x y a apart =
    let kept : cell_of (put_at store y a) x ≡ cell_of store x = cell-put store y x a ∙ ap (λ b. replaced b a (cell_of store x)) apart in
    ap number_in kept

same-flipped : (x y : ElementId) → same_element x y ≡ false → same_element y x ≡ false
same-flipped x y apart = by (same_element y x) refl
  where
    by : (b : Bool) → same_element y x ≡ b → same_element y x ≡ false
    by true is = absurd (false≢true (sym apart ∙ ap (same_element x) (same_element-is y x is) ∙ same_element-itself x))
    by false is = is

-- ---- what is taken back

-- the same behind an element that is touched
back-put-touched : (rest : List Entry) (opening store : Store) (x y : ElementId)
    → ((other : Store) (z : ElementId) → taken_back rest opening (put_at other z (value_at opening z)) ≡ put_at (taken_back rest opening other) z (value_at opening z))
    → taken_back rest opening (put_at (put_at store x (value_at opening x)) y (value_at opening y)) ≡ put_at (taken_back rest opening (put_at store y (value_at opening y))) x (value_at opening x)
back-put-touched rest opening store x y later = by (same_element x y) refl
  where
    by : (b : Bool) → same_element x y ≡ b
        → taken_back rest opening (put_at (put_at store x (value_at opening x)) y (value_at opening y)) ≡ put_at (taken_back rest opening (put_at store y (value_at opening y))) x (value_at opening x)
    by true is =
        let one = same_element-is x y is in
        ap (λ z. taken_back rest opening (put_at (put_at store z (value_at opening z)) y (value_at opening y))) one
        ∙ later (put_at store y (value_at opening y)) y
        ∙ ap (λ z. put_at (taken_back rest opening (put_at store y (value_at opening y))) z (value_at opening z)) (sym one)
    by false apart =
        ap (taken_back rest opening) (put-apart store x y (value_at opening x) (value_at opening y) apart)
        ∙ later (put_at store y (value_at opening y)) x

-- an element that is as in the opening store before or behind
back-put : (entries : List Entry) (opening store : Store) (x : ElementId)
    → taken_back entries opening (put_at store x (value_at opening x)) ≡ put_at (taken_back entries opening store) x (value_at opening x)
back-put [] opening store x = refl
back-put (Reads y line ∷ rest) opening store x = back-put rest opening store x
back-put (Contributes y op value ∷ rest) opening store x = back-put rest opening store x
back-put (Defines y value line ∷ rest) opening store x = back-put-touched rest opening store x y (back-put rest opening)
back-put (Undefines y line ∷ rest) opening store x = back-put-touched rest opening store x y (back-put rest opening)

back-other-touched : (rest : List Entry) (opening store : Store) (x y : ElementId) (a b : Option ℤ)
    → ((other : Store) (z : ElementId) (c d : Option ℤ) → put_at (taken_back rest opening other) z d ≡ put_at (taken_back rest (put_at opening z c) other) z d)
    → put_at (taken_back rest opening (put_at store y (value_at opening y))) x b
    ≡ put_at (taken_back rest (put_at opening x a) (put_at store y (value_at (put_at opening x a) y))) x b
back-other-touched rest opening store x y a b later = by (same_element x y) refl
  where
    by : (c : Bool) → same_element x y ≡ c
        → put_at (taken_back rest opening (put_at store y (value_at opening y))) x b
        ≡ put_at (taken_back rest (put_at opening x a) (put_at store y (value_at (put_at opening x a) y))) x b
    by true is =
        let one = same_element-is x y is in
        ap (λ z. put_at (taken_back rest opening (put_at store z (value_at opening z))) x b) (sym one)
        ∙ ap (λ s. put_at s x b) (back-put rest opening store x) ∙ put-twice (taken_back rest opening store) x (value_at opening x) b
        ∙ later store x a b
        ∙ sym (put-twice (taken_back rest (put_at opening x a) store) x (value_at (put_at opening x a) x) b) ∙ ap (λ s. put_at s x b) (sym (back-put rest (put_at opening x a) store x))
        ∙ ap (λ z. put_at (taken_back rest (put_at opening x a) (put_at store z (value_at (put_at opening x a) z))) x b) one
    by false apart =
        later (put_at store y (value_at opening y)) x a b
        ∙ ap (λ state. put_at (taken_back rest (put_at opening x a) (put_at store y state)) x b) (sym (value-apart opening y x a (same-flipped x y apart)))

-- an opening store with another state of an element, which is written over behind
back-other : (entries : List Entry) (opening store : Store) (x : ElementId) (a b : Option ℤ)
    → put_at (taken_back entries opening store) x b ≡ put_at (taken_back entries (put_at opening x a) store) x b
back-other [] opening store x a b = refl
back-other (Reads y line ∷ rest) opening store x a b = back-other rest opening store x a b
back-other (Contributes y op value ∷ rest) opening store x a b = back-other rest opening store x a b
back-other (Defines y value line ∷ rest) opening store x a b = back-other-touched rest opening store x y a b (back-other rest opening)
back-other (Undefines y line ∷ rest) opening store x a b = back-other-touched rest opening store x y a b (back-other rest opening)

taken-back-touched : (rest : List Entry) (opening : Store) (x : ElementId) (a : Option ℤ)
    → taken_back rest (put_at opening x a) (store_after rest (put_at opening x a)) ≡ put_at opening x a
    → taken_back rest opening (put_at (store_after rest (put_at opening x a)) x (value_at opening x)) ≡ opening
taken-back-touched rest opening x a later =
    let after : Store = store_after rest (put_at opening x a) in
    back-put rest opening after x ∙ back-other rest opening after x a (value_at opening x) ∙ ap (λ s. put_at s x (value_at opening x)) later
    ∙ put-twice opening x a (value_at opening x) ∙ put-back opening x

-- Where the entries led from the opening store to this one, the opening store is left.
pub taken-back : (entries : List Entry) (opening : Store) → taken_back entries opening (store_after entries opening) ≡ opening
taken-back [] opening = refl
taken-back (Reads x line ∷ rest) opening = taken-back rest opening
taken-back (Contributes x op value ∷ rest) opening = taken-back rest opening
taken-back (Defines x value line ∷ rest) opening = taken-back-touched rest opening x (Some value) (taken-back rest (put_at opening x (Some value)))
taken-back (Undefines x line ∷ rest) opening = taken-back-touched rest opening x None (taken-back rest (put_at opening x None))

-- The same, by what the code has.
pub left-back : (entries : List Entry) (opening before after : Store) → after ≡ taken_back entries opening before → before ≡ store_after entries opening → after ≡ opening
left-back entries opening before after is led = is ∙ ap (taken_back entries opening) led ∙ taken-back entries opening
