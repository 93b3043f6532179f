-- The closing store is the same for runs in another order.
use Rattle.std.proofs.Common.{◌≡◌, ℕ, Bool, true, false, cond, ◌&&◌, ◌||◌, List, [], ◌∷◌, ◌++◌, map, All, Option, Some, None, refl, sym, ap, arith, ◌∙◌}
use Rattle.std.proofs.lemmas.Bool.{false≢true}
use Rattle.std.proofs.lemmas.List.Sorted.{length_permutation}
use Rattle.std.specs.Prelude.{ℤ, is_some, filter, filter_map, flat_map, option_map, if◌then◌else◌}
use Rattle.std.specs.List.{list_any}
use Rattle.std.specs.List.Sorted.{IsPermutation}
use Rattle.dc_int.specs.declared.access.ElementId.{ElementId}
use Rattle.dc_int.specs.declared.variable.Locality.{Locality}
use Rattle.dc_int.specs.Entries.{Entry, Reads, Defines, Undefines, Contributes, touches, state_after}
use Rattle.dc_int.specs.Store.{Store, cell_of, same_element, elements_of}
use Rattle.dc_int.proofs.Fits.{bounds-after}
use Rattle.dc_int.proofs.Elements.{store-same, length-after, elements-complete}
use Rattle.dc_int.proofs.Stores.{cell-after, same_element-is}
use Rattle.dc_code.specs.Closing.{Localities, is_touched_twice, is_unspecified, forgotten, reduced, reductions, is_contribution_to, passed_to, passed_on, changes, closing}
use Rattle.dc_code.specs.Laws.{IsCombinable, may_touch}
use Rattle.dc_code.specs.Pairs.{clashes}
use Rattle.dc_code.proofs.Alone.{left_by}
use Rattle.dc_code.proofs.Permuted.{twice-permuted, twice-touched, twice-clashes, state_left, left-permuted, cell-left, elements-left, length-left, bounds-left}
use Rattle.dc_code.proofs.Reduced.{HoldsCombinable, reduced-permuted}

-- ---- what the changes leave of an element

state-append
    : (x : ElementId) (entries later : List Entry) (state : Option ℤ)
    → state_after x (entries ++ later) state ≡ state_after x later (state_after x entries state)
state-append x [] later state = refl
state-append x (Reads y line ∷ entries) later state = state-append x entries later state
state-append x (Defines y value line ∷ entries) later state = state-append x entries later (if same_element x y then Some value else state)
state-append x (Undefines y line ∷ entries) later state = state-append x entries later (if same_element x y then None else state)
state-append x (Contributes y op value ∷ entries) later state = state-append x entries later state

state-undefined
    : (x : ElementId) (line : ℕ) (elements : List ElementId) (state : Option ℤ)
    → state_after x (map (λ y. Undefines y line) elements) state ≡ cond (list_any (same_element x) elements) None state
state-undefined x line [] state = refl
state-undefined x line (y ∷ elements) state =
    state-undefined x line elements (if same_element x y then None else state) ∙ by (same_element x y) (list_any (same_element x) elements)
  where
    by : (a b : Bool) → cond b None (cond a None state) ≡ cond (a || b) None state
    by true true = refl
    by true false = refl
    by false b = refl

-- contributions leave what they meet
state-contributions
    : (x y : ElementId) (run : List Entry) (state : Option ℤ) → state_after x (filter (is_contribution_to y) run) state ≡ state
state-contributions x y [] state = refl
state-contributions x y (Reads z line ∷ run) state = state-contributions x y run state
state-contributions x y (Defines z value line ∷ run) state = state-contributions x y run state
state-contributions x y (Undefines z line ∷ run) state = state-contributions x y run state
state-contributions x y (Contributes z op value ∷ run) state = by (same_element y z) (state-contributions x y run state)
  where
    by
        : (b : Bool) → state_after x (filter (is_contribution_to y) run) state ≡ state
        → state_after x (if b then Contributes z op value ∷ filter (is_contribution_to y) run else filter (is_contribution_to y) run) state ≡ state
    by true rest = rest
    by false rest = rest

state-contributed
    : (x y : ElementId) (runs : List (List Entry)) (state : Option ℤ) → state_after x (flat_map (filter (is_contribution_to y)) runs) state ≡ state
state-contributed x y [] state = refl
state-contributed x y (run ∷ runs) state =
    state-append x (filter (is_contribution_to y) run) (flat_map (filter (is_contribution_to y)) runs) state
    ∙ ap (state_after x (flat_map (filter (is_contribution_to y)) runs)) (state-contributions x y run state) ∙ state-contributed x y runs state

state-passed
    : (localities : Localities) (x : ElementId) (runs : List (List Entry)) (elements : List ElementId) (state : Option ℤ)
    → state_after x (flat_map (passed_to localities runs) elements) state ≡ state
state-passed localities x runs [] state = refl
state-passed localities x runs (y ∷ elements) state =
    state-append x (passed_to localities runs y) (flat_map (passed_to localities runs) elements) state
    ∙ ap (state_after x (flat_map (passed_to localities runs) elements)) (by (localities.passed y.variable)) ∙ state-passed localities x runs elements state
  where
    by : (b : Bool) → state_after x (if b then flat_map (filter (is_contribution_to y)) runs else []) state ≡ state
    by true = state-contributed x y runs state
    by false = refl

any-filter
    : (x : ElementId) (test : ElementId → Bool) (elements : List ElementId)
    → list_any (same_element x) (filter test elements) ≡ (list_any (same_element x) elements && test x)
any-filter x test [] = refl
any-filter x test (y ∷ elements) = by (same_element x y) refl (test y) refl (any-filter x test elements)
  where
    by
        : (a : Bool) → same_element x y ≡ a → (b : Bool) → test y ≡ b
        → list_any (same_element x) (filter test elements) ≡ (list_any (same_element x) elements && test x)
        → list_any (same_element x) (if b then y ∷ filter test elements else filter test elements)
        ≡ ((same_element x y || list_any (same_element x) elements) && test x)
    by true same true passes rest =
        let here : test x ≡ true = ap test (same_element-is x y same) ∙ passes in rw (same, here) refl
    by true same false fails rest =
        let here : test x ≡ false = ap test (same_element-is x y same) ∙ fails in
        rw same (rest ∙ ap (λ c. list_any (same_element x) elements && c) here ∙ none (list_any (same_element x) elements) ∙ sym here)
      where
        none : (b : Bool) → (b && false) ≡ false
        none true = refl
        none false = refl
    by false apart true passes rest = rw apart rest
    by false apart false fails rest = rw apart rest

-- What the changes leave of an element of the store: it is undefined where two runs touched it and it is
-- of unspecified locality, and then the reductions are made.
state-changed
    : (localities : Localities) (line : ℕ) (runs : List (List Entry)) (store : Store) (x : ElementId) (state : Option ℤ) → is_some (cell_of store x) ≡ true
    → state_after x (changes localities line runs store) state
    ≡ state_after x (reductions localities line runs store) (cond (is_unspecified (localities.locality x.variable) && is_touched_twice x runs) None state)
state-changed localities line runs store x state some =
    let undefined = map (λ y. Undefines y line) (forgotten localities runs store) in
    let passed = passed_on localities runs store in
    let defined = reductions localities line runs store in
    let test : ElementId → Bool = λ y. is_unspecified (localities.locality y.variable) && is_touched_twice y runs in
    let among : list_any (same_element x) (forgotten localities runs store) ≡ test x =
    any-filter x test (elements_of store) ∙ ap (λ b. b && test x) (elements-complete store x some) in
    state-append x undefined (passed ++ defined) state ∙ state-append x passed defined (state_after x undefined state)
    ∙ ap (state_after x defined) (state-passed localities x runs (elements_of store) (state_after x undefined state)
    ∙ state-undefined x line (forgotten localities runs store) state ∙ ap (λ b. cond b None state) among)

-- The reductions are made for runs and for a permutation of them, or for neither.
reductions-alike
    : (localities : Localities) (line : ℕ) (runs others : List (List Entry)) (store left : Store) → IsPermutation runs others
    → filter_map (reduced localities line runs store) (elements_of store) ≡ filter_map (reduced localities line others left) (elements_of left)
    → reductions localities line runs store ≡ reductions localities line others left
reductions-alike localities line [] [] store left permuted same = refl
reductions-alike localities line [] (other ∷ others) store left permuted same =
    let long = length_permutation [] (other ∷ others) permuted in absurd (omega arith)
reductions-alike localities line (run ∷ runs) [] store left permuted same =
    let long = length_permutation (run ∷ runs) [] permuted in absurd (omega arith)
reductions-alike localities line (run ∷ runs) (other ∷ others) store left permuted same = same

-- ---- in another order

module _ (localities : Localities) (line : ℕ) (store : Store) (runs others : List (List Entry)) (permuted : IsPermutation runs others)
    (unbroken : (x : ElementId) → is_some (cell_of store x) ≡ true → clashes (localities.locality x.variable) x runs ≡ false)
    (allowed : (x : ElementId) → may_touch (localities.locality x.variable) ≡ false → list_any (touches x) runs ≡ false)
    (allowed_too : (x : ElementId) → may_touch (localities.locality x.variable) ≡ false → list_any (touches x) others ≡ false)
    (own : All (All (IsCombinable localities)) runs) (holds : HoldsCombinable localities store) where
  reductions-same : reductions localities line runs (left_by runs store) ≡ reductions localities line others (left_by others store)
  reductions-same =
      let each = reduced-permuted localities line runs others store permuted own holds allowed allowed_too in
      let elements : elements_of (left_by runs store) ≡ elements_of (left_by others store) =
      elements-left runs store ∙ sym (elements-left others store) in
      reductions-alike localities line runs others (left_by runs store) (left_by others store) permuted (λ i. filter_map (λ x. each x i) (elements i))

  -- an element that two runs touch is of unspecified locality
  twice-unspecified
      : (x : ElementId) → is_some (cell_of store x) ≡ true → is_touched_twice x runs ≡ true → is_unspecified (localities.locality x.variable) ≡ true
  twice-unspecified x some twice = by (localities.locality x.variable) refl
    where
      never : may_touch (localities.locality x.variable) ≡ false → is_unspecified (localities.locality x.variable) ≡ true
      never kept_out = absurd (false≢true (sym (allowed x kept_out) ∙ twice-touched x runs twice))

      by : (locality : Locality) → localities.locality x.variable ≡ locality → is_unspecified (localities.locality x.variable) ≡ true
      by Locality.Plain is = ap is_unspecified is
      by Locality.Shared is =
          let clash : clashes (localities.locality x.variable) x runs ≡ true = ap (λ l. clashes l x runs) is ∙ twice-clashes x runs twice in
          absurd (false≢true (sym (unbroken x some) ∙ clash))
      by Locality.Local is = never (ap may_touch is)
      by Locality.LocalInit is = never (ap may_touch is)
      by (Locality.Reduce op) is = never (ap may_touch is)

  state-same
      : (x : ElementId) (state : Option ℤ) → is_some (cell_of store x) ≡ true
      → cond (is_unspecified (localities.locality x.variable) && is_touched_twice x runs) None (state_left x runs state)
      ≡ cond (is_unspecified (localities.locality x.variable) && is_touched_twice x others) None (state_left x others state)
  state-same x state some =
      ap (λ b. cond (is_unspecified (localities.locality x.variable) && b) None (state_left x runs state)) (twice-permuted x runs others permuted)
      ∙ by (is_touched_twice x runs) refl
    where
      by
          : (b : Bool) → is_touched_twice x runs ≡ b
          → cond (is_unspecified (localities.locality x.variable) && is_touched_twice x others) None (state_left x runs state)
          ≡ cond (is_unspecified (localities.locality x.variable) && is_touched_twice x others) None (state_left x others state)
      by true twice =
          let here : is_unspecified (localities.locality x.variable) ≡ true = twice-unspecified x some twice in
          let there : is_touched_twice x others ≡ true = sym (twice-permuted x runs others permuted) ∙ twice in
          rw (here, there) refl
      by false once =
          ap (cond (is_unspecified (localities.locality x.variable) && is_touched_twice x others) None) (left-permuted x runs others permuted once state)

  -- whether an element is in the store that the runs leave
  some-left : (list : List (List Entry)) (x : ElementId) → is_some (cell_of (left_by list store) x) ≡ is_some (cell_of store x)
  some-left list x = ap is_some (cell-left list store x) ∙ mapped (cell_of store x)
    where
      mapped : (cell : Option (Option ℤ)) → is_some (option_map (state_left x list) cell) ≡ is_some cell
      mapped None = refl
      mapped (Some state) = refl

  cell-closing : (list : List (List Entry)) (x : ElementId) → cell_of (closing localities line list (left_by list store)) x
      ≡ option_map (state_after x (changes localities line list (left_by list store))) (option_map (state_left x list) (cell_of store x))
  cell-closing list x =
      cell-after (changes localities line list (left_by list store)) (left_by list store) x
      ∙ ap (option_map (state_after x (changes localities line list (left_by list store)))) (cell-left list store x)

  cells-same
      : (x : ElementId) → cell_of (closing localities line runs (left_by runs store)) x ≡ cell_of (closing localities line others (left_by others store)) x
  cells-same x = cell-closing runs x ∙ by (cell_of store x) refl ∙ sym (cell-closing others x)
    where
      by
          : (cell : Option (Option ℤ)) → cell_of store x ≡ cell
          → option_map (state_after x (changes localities line runs (left_by runs store))) (option_map (state_left x runs) cell)
          ≡ option_map (state_after x (changes localities line others (left_by others store))) (option_map (state_left x others) cell)
      by None is = refl
      by (Some state) is =
          let some : is_some (cell_of store x) ≡ true = ap is_some is in
          ap (λ (s : Option ℤ). Some s)
          (state-changed localities line runs (left_by runs store) x (state_left x runs state) (some-left runs x ∙ some)
          ∙ (λ i. state_after x (reductions-same i) (state-same x state some i))
          ∙ sym (state-changed localities line others (left_by others store) x (state_left x others state) (some-left others x ∙ some)))

  -- The closing store of runs and of a permutation of them is the same.
  pub closing-permuted : closing localities line runs (left_by runs store) ≡ closing localities line others (left_by others store)
  closing-permuted =
      store-same (closing localities line runs (left_by runs store)) (closing localities line others (left_by others store))
      (length-after (changes localities line runs (left_by runs store)) (left_by runs store) ∙ length-left runs store
      ∙ sym (length-after (changes localities line others (left_by others store)) (left_by others store) ∙ length-left others store))
      (λ v. bounds-after (changes localities line runs (left_by runs store)) (left_by runs store) v ∙ bounds-left runs store v
      ∙ sym (bounds-after (changes localities line others (left_by others store)) (left_by others store) v ∙ bounds-left others store v))
      cells-same
