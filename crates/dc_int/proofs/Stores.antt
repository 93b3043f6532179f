-- What a write, and a list of entries, leave of each cell of a store.
use Rattle.std.proofs.Common.{◌≡◌, ℕ, zero, suc, Bool, true, false, cond, not, ◌&&◌, ◌||◌, List, [], ◌∷◌, map, Option, Some, None, refl, sym, ap, ap₂, ◌∙◌}
use Rattle.std.specs.Prelude.{ℤ, slice_get, slice_set, option_map, option_and_then}
use Rattle.std.specs.List.{list_any}
use Rattle.std.proofs.lemmas.Bool.{and_parts}
use Rattle.dc_int.specs.declared.access.ElementId.{ElementId}
use Rattle.dc_int.specs.declared.access.Touch.{Touch}
use Rattle.dc_int.specs.Store.{Store, cell_of, put_at, with_cell, changed_at, same, same_element}
use Rattle.dc_int.specs.Entries.{Entry, Reads, Defines, Undefines, Contributes, store_after, store_after_entry, is_touch_of, touches, without, touched_of, state_after, state_after_entry, last_state, last_states, settling, settling_as}

-- the cell in a new state, where it is the one that is written
abbrev pub replaced : Bool → Option ℤ → Option (Option ℤ) → Option (Option ℤ)
replaced true state None = None
replaced true state (Some old) = Some state
replaced false state cell = cell

replaced-none : (b : Bool) (state : Option ℤ) → replaced b state None ≡ None
replaced-none true state = refl
replaced-none false state = refl

cell-set : (cells : List (Option ℤ)) (p q : ℕ) (state : Option ℤ) → slice_get (slice_set cells p state) q ≡ replaced (same q p) state (slice_get cells q)
cell-set [] p q state = sym (replaced-none (same q p) state)
cell-set (cell ∷ cells) zero zero state = refl
cell-set (cell ∷ cells) zero (suc q) state = refl
cell-set (cell ∷ cells) (suc p) zero state = refl
cell-set (cell ∷ cells) (suc p) (suc q) state = cell-set cells p q state

-- the cell of an element by its variable and position
abbrev pub cell_at : Store → ℕ → ℕ → Option (Option ℤ)
cell_at store v p = option_and_then (λ variable. slice_get variable.cells p) (slice_get store v)

cell-changed : (store : Store) (v w p q : ℕ) (state : Option ℤ)
    → cell_at (changed_at (with_cell p state) store v) w q ≡ replaced (same w v && same q p) state (cell_at store w q)
cell-changed [] v w p q state = sym (replaced-none (same w v && same q p) state)
cell-changed (variable ∷ store) zero zero p q state = cell-set variable.cells p q state
cell-changed (variable ∷ store) zero (suc w) p q state = refl
cell-changed (variable ∷ store) (suc v) zero p q state = refl
cell-changed (variable ∷ store) (suc v) (suc w) p q state = cell-changed store v w p q state

-- A write changes the one cell, where there is one, and no other.
pub cell-put : (store : Store) (y x : ElementId) (state : Option ℤ) → cell_of (put_at store y state) x ≡ replaced (same_element x y) state (cell_of store x)
unfolding cell_of put_at
cell-put store y x state = cell-changed store y.variable x.variable y.position x.position state

replaced-is : (b : Bool) (state : Option ℤ) (cell : Option (Option ℤ)) → replaced b state cell ≡ option_map (λ old. cond b state old) cell
replaced-is true state None = refl
replaced-is true state (Some old) = refl
replaced-is false state None = refl
replaced-is false state (Some old) = refl

map-same : (cell : Option (Option ℤ)) → cell ≡ option_map (λ state. state) cell
map-same None = refl
map-same (Some state) = refl

map-then : (f g : Option ℤ → Option ℤ) (cell : Option (Option ℤ)) → option_map f (option_map g cell) ≡ option_map (λ state. f (g state)) cell
map-then f g None = refl
map-then f g (Some state) = refl

cell-after_entry : (entry : Entry) (store : Store) (x : ElementId) → cell_of (store_after_entry entry store) x ≡ option_map (state_after_entry x entry) (cell_of store x)
cell-after_entry (Reads y line) store x = map-same (cell_of store x)
cell-after_entry (Defines y value line) store x = cell-put store y x (Some value) ∙ replaced-is (same_element x y) (Some value) (cell_of store x)
cell-after_entry (Undefines y line) store x = cell-put store y x None ∙ replaced-is (same_element x y) None (cell_of store x)
cell-after_entry (Contributes y op value) store x = map-same (cell_of store x)

-- The entries leave in each cell of the store what they leave of its state.
pub cell-after : (entries : List Entry) (store : Store) (x : ElementId) → cell_of (store_after entries store) x ≡ option_map (state_after x entries) (cell_of store x)
cell-after [] store x = map-same (cell_of store x)
cell-after (entry ∷ entries) store x =
    cell-after entries (store_after_entry entry store) x ∙ ap (option_map (state_after x entries)) (cell-after_entry entry store x)
    ∙ map-then (state_after x entries) (state_after_entry x entry) (cell_of store x)

-- ---- the last states

pub same-is : (m n : ℕ) → same m n ≡ true → m ≡ n
same-is zero zero e = refl
same-is zero (suc n) e = cc
same-is (suc m) zero e = cc
same-is (suc m) (suc n) e = ap suc (same-is m n e)

pub same-itself : (n : ℕ) → same n n ≡ true
same-itself zero = refl
same-itself (suc n) = same-itself n

pub same_element-is : (x y : ElementId) → same_element x y ≡ true → x ≡ y
same_element-is x y e =
    let both = and_parts (same x.variable y.variable) (same x.position y.position) e in
    λ i. record { variable = same-is x.variable y.variable both.0 i; position = same-is x.position y.position both.1 i }

pub same_element-itself : (x : ElementId) → same_element x x ≡ true
same_element-itself x = ap₂ (λ a b. a && b) (same-itself x.variable) (same-itself x.position)

state-touched_entry : (x : ElementId) (entry : Entry) (state other : Option ℤ) → is_touch_of x entry ≡ true → state_after_entry x entry state ≡ state_after_entry x entry other
state-touched_entry x (Reads y line) state other e = cc
state-touched_entry x (Defines y value line) state other e = rw e refl
state-touched_entry x (Undefines y line) state other e = rw e refl
state-touched_entry x (Contributes y op value) state other e = cc

state-untouched_entry : (x : ElementId) (entry : Entry) (state : Option ℤ) → is_touch_of x entry ≡ false → state_after_entry x entry state ≡ state
state-untouched_entry x (Reads y line) state e = refl
state-untouched_entry x (Defines y value line) state e = rw e refl
state-untouched_entry x (Undefines y line) state e = rw e refl
state-untouched_entry x (Contributes y op value) state e = refl

-- What is left of an element that the entries touch is what they leave of any state, and of any
-- other element its state.
pub state-after : (x : ElementId) (entries : List Entry) (state : Option ℤ) → state_after x entries state ≡ cond (touches x entries) (state_after x entries None) state
state-after x [] state = refl
state-after x (entry ∷ entries) state = by (state-after x entries state) (is_touch_of x entry) refl
  where
    by : state_after x entries state ≡ cond (touches x entries) (state_after x entries None) state → (b : Bool) → is_touch_of x entry ≡ b
        → state_after x entries (state_after_entry x entry state) ≡ cond (b || touches x entries) (state_after x entries (state_after_entry x entry None)) state
    by rest true e = ap (state_after x entries) (state-touched_entry x entry state None e)
    by rest false e = rw (state-untouched_entry x entry state e, state-untouched_entry x entry None e) rest

any-without_other : (x y : ElementId) (elements : List ElementId) → same_element x y ≡ false → list_any (same_element x) (without y elements) ≡ list_any (same_element x) elements
any-without_other x y [] apart = refl
any-without_other x y (z ∷ elements) apart = by (any-without_other x y elements apart) (same_element y z) refl
  where
    by : list_any (same_element x) (without y elements) ≡ list_any (same_element x) elements → (b : Bool) → same_element y z ≡ b → list_any (same_element x) (cond (not b) (z ∷ without y elements) (without y elements)) ≡ (same_element x z || list_any (same_element x) elements)
    by rest true e =
        let other : same_element x z ≡ false = ap (same_element x) (sym (same_element-is y z e)) ∙ apart in
        rest ∙ ap (λ b. b || list_any (same_element x) elements) (sym other)
    by rest false e = ap (λ b. same_element x z || b) rest

-- an element that is put in front, and no longer behind
any-first : (x y : ElementId) (elements : List ElementId) → list_any (same_element x) (y ∷ without y elements) ≡ (same_element x y || list_any (same_element x) elements)
any-first x y elements = by (same_element x y) refl
  where
    by : (b : Bool) → same_element x y ≡ b → (b || list_any (same_element x) (without y elements)) ≡ (b || list_any (same_element x) elements)
    by true e = refl
    by false e = any-without_other x y elements e

-- The touched elements are those that an entry touches.
pub touched_of-touches : (x : ElementId) (entries : List Entry) → list_any (same_element x) (touched_of entries) ≡ touches x entries
touched_of-touches x [] = refl
touched_of-touches x (Reads y line ∷ entries) = touched_of-touches x entries
touched_of-touches x (Defines y value line ∷ entries) = any-first x y (touched_of entries) ∙ ap (λ b. same_element x y || b) (touched_of-touches x entries)
touched_of-touches x (Undefines y line ∷ entries) = any-first x y (touched_of entries) ∙ ap (λ b. same_element x y || b) (touched_of-touches x entries)
touched_of-touches x (Contributes y op value ∷ entries) = touched_of-touches x entries

state-settling : (x y : ElementId) (line : ℕ) (left state : Option ℤ) → state_after_entry x (settling_as y line left) state ≡ cond (same_element x y) left state
state-settling x y line None state = refl
state-settling x y line (Some value) state = refl

-- what is left of a state where each of these elements is settled as `left` says
settled : (left : ElementId → Option ℤ) (line : ℕ) (elements : List ElementId) (x : ElementId) (state : Option ℤ)
    → state_after x (map (λ y. settling_as y line (left y)) elements) state ≡ cond (list_any (same_element x) elements) (left x) state
settled left line [] x state = refl
settled left line (y ∷ elements) x state =
    ap (state_after x (map (λ z. settling_as z line (left z)) elements)) (state-settling x y line (left y) state)
    ∙ settled left line elements x (cond (same_element x y) (left y) state) ∙ by (same_element x y) (list_any (same_element x) elements) refl
  where
    by : (b others : Bool) → same_element x y ≡ b → cond others (left x) (cond b (left y) state) ≡ cond (b || others) (left x) state
    by true true e = refl
    by true false e = ap left (sym (same_element-is x y e))
    by false others e = refl

map-map : (f : Touch → Entry) (g : ElementId → Touch) (elements : List ElementId) → map f (map g elements) ≡ map (λ x. f (g x)) elements
map-map f g [] = refl
map-map f g (x ∷ elements) = ap (λ entries. f (g x) ∷ entries) (map-map f g elements)

-- The last states leave of each element what the entries leave.
pub state-last_states : (entries : List Entry) (line : ℕ) (x : ElementId) (state : Option ℤ)
    → state_after x (map (settling line) (last_states entries)) state ≡ state_after x entries state
state-last_states entries line x state =
    ap (λ settled_entries. state_after x settled_entries state) (map-map (settling line) (last_state entries) (touched_of entries))
    ∙ settled (λ y. state_after y entries None) line (touched_of entries) x state
    ∙ ap (λ b. cond b (state_after x entries None) state) (touched_of-touches x entries) ∙ sym (state-after x entries state)

same-state : (f g : Option ℤ → Option ℤ) (cell : Option (Option ℤ)) → ((state : Option ℤ) → f state ≡ g state) → option_map f cell ≡ option_map g cell
same-state f g None equal = refl
same-state f g (Some state) equal = ap (λ left. Some left) (equal state)

-- So the last states leave the store as the entries do, cell by cell.
pub cell-last_states : (entries : List Entry) (line : ℕ) (store : Store) (x : ElementId)
    → cell_of (store_after (map (settling line) (last_states entries)) store) x ≡ cell_of (store_after entries store) x
cell-last_states entries line store x =
    cell-after (map (settling line) (last_states entries)) store x
    ∙ same-state (state_after x (map (settling line) (last_states entries))) (state_after x entries) (cell_of store x) (state-last_states entries line x)
    ∙ sym (cell-after entries store x)
