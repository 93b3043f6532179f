-- The index of the symbols: what it finds, and how it grows.
use Rattle.std.proofs.Common.{◌≡◌, ◌≢◌, ℕ, zero, suc, ◌<◌, Bool, true, false, ◌&&◌, cond, eqb, List, [], ◌∷◌, ◌++◌, length, slice_get, slice_set, Option, Some, None, refl, sym, ap, subst, ◌∙◌, arith, inl, inr}
use Rattle.std.specs.Prelude.{bytes_eq, option_map, option_and_then, Vec}
use Rattle.std.proofs.lemmas.Bool.{cases_Bool, and_parts}
use Rattle.std.proofs.lemmas.Bool.Decides.{eqb_tells}
use Rattle.std.proofs.lemmas.Bool.{eqb-true}
use Rattle.std.proofs.lemmas.Option.{none-some}
use Rattle.std.proofs.lemmas.Slice.Eq.{bytes_eq-Decides}
use Rattle.std.proofs.lemmas.Cmp.{nat_list_eq_equiv}
use Rattle.std.specs.Map.{KeepsOthers}
use Rattle.indexmap.specs.IndexMap.{IndexMap, get_by, Updates}
use Rattle.dc_tree.specs.declared.symbols.NamedScope.{NamedScope}
use Rattle.dc_tree.specs.declared.symbols.Symbol.{Symbol}
use Rattle.dc_tree.specs.Symbols.{declares, symbol_at}
use Rattle.dc_tree.specs.Places.{place_at, place_in, IsIndex, IsSameIndex, Adds}

-- one place further on
abbrev next : Option ℕ → Option ℕ
next place = option_map (λ p. suc p) place

next-none : (o : Option ℕ) → next o ≡ None → o ≡ None
next-none None is = refl
next-none (Some p) is = absurd (none-some (suc p) (sym is))

at-next : (x : Symbol) (xs : List Symbol) (o : Option ℕ) → option_and_then (λ p. slice_get (x ∷ xs) p) (next o) ≡ option_and_then (λ p. slice_get xs p) o
at-next x xs None = refl
at-next x xs (Some p) = refl

-- the symbol at the place of a name is that of the name
at-place : (xs : List Symbol) (s : ℕ) (n : List ℕ) → option_and_then (λ p. slice_get xs p) (place_at xs s n) ≡ symbol_at xs s n
at-place [] s n = refl
at-place (x ∷ xs) s n = by (declares s n x) (at-next x xs (place_at xs s n) ∙ at-place xs s n)
  where
    by : (b : Bool) → option_and_then (λ p. slice_get (x ∷ xs) p) (next (place_at xs s n)) ≡ symbol_at xs s n
        → option_and_then (λ p. slice_get (x ∷ xs) p) (cond b (Some 0) (next (place_at xs s n))) ≡ cond b (Some x) (symbol_at xs s n)
    by true rest = refl
    by false rest = rest

-- a name without a symbol has no place
no-place : (xs : List Symbol) (s : ℕ) (n : List ℕ) → symbol_at xs s n ≡ None → place_at xs s n ≡ None
no-place [] s n none = refl
no-place (x ∷ xs) s n none = by (declares s n x) (no-place xs s n) none
  where
    by : (b : Bool) → (symbol_at xs s n ≡ None → place_at xs s n ≡ None) → cond b (Some x) (symbol_at xs s n) ≡ None → cond b (Some 0) (next (place_at xs s n)) ≡ None
    by true rest none = absurd (none-some x (sym none))
    by false rest none = ap next (rest none)

-- one more symbol, of a name that has none, and of another name
place-own : (xs : List Symbol) (x : Symbol) (s : ℕ) (n : List ℕ) → place_at xs s n ≡ None → declares s n x ≡ true → place_at (xs ++ x ∷ []) s n ≡ Some (length xs)
place-own [] x s n none own = rw own refl
place-own (y ∷ ys) x s n none own = by (declares s n y) (λ h. place-own ys x s n h own) none
  where
    by : (b : Bool) → (place_at ys s n ≡ None → place_at (ys ++ x ∷ []) s n ≡ Some (length ys)) → cond b (Some 0) (next (place_at ys s n)) ≡ None
        → cond b (Some 0) (next (place_at (ys ++ x ∷ []) s n)) ≡ Some (length (y ∷ ys))
    by true rest none = absurd (none-some 0 (sym none))
    by false rest none = ap next (rest (next-none (place_at ys s n) none))

place-other : (xs : List Symbol) (x : Symbol) (s : ℕ) (n : List ℕ) → declares s n x ≡ false → place_at (xs ++ x ∷ []) s n ≡ place_at xs s n
place-other [] x s n other = rw other refl
place-other (y ∷ ys) x s n other = ap (λ o. cond (declares s n y) (Some 0) (next o)) (place-other ys x s n other)

-- a list with one element changed
get-set_same : {X : Type 0} (xs : List X) (i : ℕ) (y : X) → i < length xs → slice_get (slice_set xs i y) i ≡ Some y
get-set_same [] i y within = absurd (omega (arith, within))
get-set_same (x ∷ xs) zero y within = refl
get-set_same (x ∷ xs) (suc i) y within = get-set_same xs i y (omega arith)

get-set_other : {X : Type 0} (xs : List X) (i j : ℕ) (y : X) → i ≢ j → slice_get (slice_set xs i y) j ≡ slice_get xs j
get-set_other [] i j y other = refl
get-set_other (x ∷ xs) zero zero y other = absurd (other refl)
get-set_other (x ∷ xs) zero (suc j) y other = refl
get-set_other (x ∷ xs) (suc i) zero y other = refl
get-set_other (x ∷ xs) (suc i) (suc j) y other = get-set_other xs i j y (λ h. other (ap (λ k. suc k) h))

apart : (name other key : List ℕ) → bytes_eq name other ≡ false → bytes_eq name key ≡ true → bytes_eq other key ≡ false
apart name other key differ same = nat_list_eq_equiv.symm other key ∙ sym (nat_list_eq_equiv.congr name key other same) ∙ differ

abbrev Index : Type 0 → Type 0 → Type 0
Index A S = IndexMap (Vec ℕ A) ℕ S

abbrev pub place_of : {A S : Type 0} → List ℕ → Index A S → Option ℕ
place_of name index = get_by (λ key. bytes_eq name key.items) index

module _ {A S : Type 0} where
  -- one more key in one map, read at any name
  other_place : (old new : Index A S) (name other : List ℕ) → KeepsOthers (λ (x y : Vec ℕ A). bytes_eq x.items y.items) (λ (x : Vec ℕ A). bytes_eq name x.items) old.entries new.entries
      → bytes_eq name other ≡ false → place_of other new ≡ place_of other old
  unfolding KeepsOthers
  other_place old new name other keeps differ =
      keeps (λ (x : Vec ℕ A). bytes_eq other x.items) (λ x y. nat_list_eq_equiv.congr other x.items y.items) (λ k. apart name other k.items differ)

  pub one_more : (old new : Index A S) (key : Vec ℕ A) (place : ℕ) → Updates (λ (x y : Vec ℕ A). bytes_eq x.items y.items) old new key (Some place)
      → (n : List ℕ) → place_of n new ≡ cond (bytes_eq key.items n) (Some place) (place_of n old)
  one_more old new key place updates n = elim (cases_Bool (bytes_eq key.items n)) [
    | inl same ↦ rw same (subst (λ (m : List ℕ). place_of m new ≡ Some place) ((bytes_eq-Decides key.items n).0 same) updates.1)
    | inr differ ↦ rw differ (other_place old new key.items n updates.3 differ)
  ]

-- what the index finds leads to the symbol of the name
pub found : (scopes : List NamedScope) (xs : List Symbol) → IsIndex scopes xs → (s : ℕ) (n : List ℕ) (place : Option ℕ) → place ≡ place_in scopes s n
    → option_and_then (λ p. slice_get xs p) place ≡ symbol_at xs s n
found scopes xs index s n place is = ap (λ (o : Option ℕ). option_and_then (λ p. slice_get xs p) o) (is ∙ index s n) ∙ at-place xs s n

-- what is read of the scopes where one of them is changed
pub changed : {X : Type 0} (read : NamedScope → Option X) (change : Option X → Option X) (scopes : List NamedScope) (i : ℕ) (old new : NamedScope) → i < length scopes → slice_get scopes i ≡ Some old
    → read new ≡ change (read old)
    → (s : ℕ) → option_and_then read (slice_get (slice_set scopes i new) s) ≡ cond (eqb i s) (change (option_and_then read (slice_get scopes s))) (option_and_then read (slice_get scopes s))
changed {X} read change scopes i old new within at is s = elim (eqb_tells i s) [
  | inl same ↦
      let here : option_and_then read (slice_get (slice_set scopes i new) i) ≡ change (option_and_then read (slice_get scopes i)) =
      ap (λ (o : Option NamedScope). option_and_then read o) (get-set_same scopes i new within) ∙ is
      ∙ ap (λ (o : Option NamedScope). change (option_and_then read o)) (sym at) in
      rw same.0 (subst (λ (t : ℕ). option_and_then read (slice_get (slice_set scopes i new) t) ≡ change (option_and_then read (slice_get scopes t))) same.1 here)
  | inr other ↦ rw other.0 (ap (λ (o : Option NamedScope). option_and_then read o) (get-set_other scopes i s new other.1))
]

both_cond : {X : Type 0} (a b : Bool) (x y : X) → cond a (cond b x y) y ≡ cond (a && b) x y
both_cond true b x y = refl
both_cond false b x y = refl

-- one more key in the map of one scope
pub noted : (scopes : List NamedScope) (i : ℕ) (key : List ℕ) (place : ℕ) (old new : NamedScope) → i < length scopes → slice_get scopes i ≡ Some old
    → ((n : List ℕ) → place_of n new.names ≡ cond (bytes_eq key n) (Some place) (place_of n old.names)) → Adds scopes i key place (slice_set scopes i new)
noted scopes i key place old new within at more s n =
    changed (λ own. place_of n own.names) (λ o. cond (bytes_eq key n) (Some place) o) scopes i old new within at (more n) s
    ∙ both_cond (eqb i s) (bytes_eq key n) (Some place) (place_in scopes s n)

-- one more symbol in the list, whose name had none
pub extended : (old mid new : List NamedScope) (xs : List Symbol) (x : Symbol) → IsIndex old xs → IsSameIndex old mid → Adds mid x.scope x.name (length xs) new
    → symbol_at xs x.scope x.name ≡ None → IsIndex new (xs ++ x ∷ [])
extended old mid new xs x index same adds none s n =
    let before : place_in mid s n ≡ place_at xs s n = same s n ∙ index s n in
    elim (cases_Bool (declares s n x)) [
      | inl own ↦
          let parts = and_parts (eqb x.scope s) (bytes_eq x.name n) own in
          let scope : x.scope ≡ s = eqb-true x.scope s parts.0 in
          let name : x.name ≡ n = (bytes_eq-Decides x.name n).0 parts.1 in
          let free : place_at xs s n ≡ None =
          subst (λ (t : ℕ). place_at xs t n ≡ None) scope (subst (λ (m : List ℕ). place_at xs x.scope m ≡ None) name (no-place xs x.scope x.name none)) in
          let added : place_in new s n ≡ Some (length xs) = adds s n ∙ ap (λ b. cond b (Some (length xs)) (place_in mid s n)) own in
          added ∙ sym (place-own xs x s n free own)
      | inr other ↦
          let kept : place_in new s n ≡ place_in mid s n = adds s n ∙ ap (λ b. cond b (Some (length xs)) (place_in mid s n)) other in
          kept ∙ before ∙ sym (place-other xs x s n other)
    ]

-- the same, where the name, its place and the lists are known by equations
pub grown : (old mid new last : List NamedScope) (xs seen ys : List Symbol) (x : Symbol) (name : List ℕ) (place : ℕ) → IsIndex old xs → IsSameIndex old mid
    → Adds mid x.scope name place new → name ≡ x.name → place ≡ length xs → xs ≡ seen → symbol_at seen x.scope x.name ≡ None → ys ≡ xs ++ x ∷ [] → IsSameIndex new last
    → IsIndex last ys
grown old mid new last xs seen ys x name place index same adds name_is place_is seen_is none ys_is still s n =
    let here : Adds mid x.scope x.name (length xs) new =
    subst (λ (p : ℕ). Adds mid x.scope x.name p new) place_is (subst (λ (m : List ℕ). Adds mid x.scope m place new) name_is adds) in
    let free : symbol_at xs x.scope x.name ≡ None = ap (λ (l : List Symbol). symbol_at l x.scope x.name) seen_is ∙ none in
    still s n ∙ extended old mid new xs x index same here free s n ∙ ap (λ (l : List Symbol). place_at l s n) (sym ys_is)
