-- Names that are twice among the indexes of a header.
use Rattle.std.proofs.Common.{◌≡◌, ℕ, Bool, true, false, cond, ◌||◌, List, [], ◌∷◌, ◌++◌, refl, ap, ◌∙◌, arith, nat_cmp, is_eq}
use Rattle.std.specs.Prelude.{bytes_eq}
use Rattle.std.specs.List.{list_any}
use Rattle.std.specs.Cmp.Lexicographic.{slice_cmp}
use Rattle.std.proofs.lemmas.Bool.Decides.{nat_tests}
use Rattle.std.proofs.lemmas.Cmp.{same_from_slice_cmp, nat_list_eq_equiv}
use Rattle.std.proofs.lemmas.List.Folds.{list_any-append}
use Rattle.dc_tree.specs.Statements.{Name, Ranging}
use Rattle.dc_scope.specs.Headers.{is_named, has_twice}

-- Some name is there twice, or is among names before.
abbrev pub repeats : List Ranging → List Ranging → Bool
repeats before [] = false
repeats before (first ∷ rest) = list_any (is_named first.name) before || repeats (before ++ first ∷ []) rest

same_back : (one other : Ranging) → is_named one.name other ≡ is_named other.name one
same_back one other = nat_list_eq_equiv.symm other.name one.name

one_more : (name : Name) (before : List Ranging) (first : Ranging) → list_any (is_named name) (before ++ first ∷ []) ≡ (list_any (is_named name) before || is_named name first)
one_more name before first = list_any-append (is_named name) before (first ∷ []) ∙ grind arith

among_more : (before : List Ranging) (first : Ranging) (rest : List Ranging)
    → list_any (λ r. list_any (is_named r.name) (before ++ first ∷ [])) rest ≡ (list_any (λ r. list_any (is_named r.name) before) rest || list_any (is_named first.name) rest)
among_more before first [] = refl
among_more before first (next ∷ rest) = rw (one_more next.name before first, same_back next first, among_more before first rest) (grind arith)

among_or_twice : (before rest : List Ranging) → repeats before rest ≡ (list_any (λ r. list_any (is_named r.name) before) rest || has_twice rest)
among_or_twice before [] = refl
among_or_twice before (first ∷ rest) = rw (among_or_twice (before ++ first ∷ []) rest, among_more before first rest) (grind arith)

none_among : (rest : List Ranging) → list_any (λ r. list_any (is_named r.name) []) rest ≡ false
none_among [] = refl
none_among (first ∷ rest) = none_among rest

pub repeats-is_twice : (all : List Ranging) → repeats [] all ≡ has_twice all
repeats-is_twice all = among_or_twice [] all ∙ ap (λ b. b || has_twice all) (none_among all)

same_bytes : (one other : List ℕ) → is_eq (slice_cmp nat_cmp one other) ≡ bytes_eq one other
same_bytes one other = same_from_slice_cmp nat_cmp is_eq bytes_eq refl (λ _ _. refl) (λ _ _. refl) (λ x y xs ys o h. grind (arith, nat_tests)) one other (slice_cmp nat_cmp one other) refl

-- ---- one step of the loop

pub repeats-more : (before more rest after : List Ranging) (first : Ranging) (all : Bool) → more ≡ before ++ first ∷ [] → rest ≡ first ∷ after → list_any (is_named first.name) before ≡ false → repeats before rest ≡ all → repeats more after ≡ all
repeats-more before more rest after first all taken left absent same = rw (taken, ← same, left, absent) refl

pub member-more : (name key : Name) (before more : List Ranging) (first : Ranging) (was : Bool) → key ≡ first.name → more ≡ before ++ first ∷ [] → was ≡ list_any (is_named name) before → cond (is_eq (slice_cmp nat_cmp key name)) true was ≡ list_any (is_named name) more
member-more name key before more first was own taken same = rw (own, taken, one_more name before first, same, same_bytes first.name name) (grind arith)
