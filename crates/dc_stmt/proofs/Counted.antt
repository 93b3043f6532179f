-- Slices are cut at the place up to which those of one kind are counted.
use Rattle.std.proofs.Common.{◌≡◌, ℕ, List, [], ◌∷◌, map, take, drop, Option, Some, None, refl, sym, ap, ◌∙◌, inl, inr, arith}
use Rattle.std.specs.Prelude.{max, is_none}
use Rattle.std.proofs.Math.Nat.{zero-max}
use Rattle.std.proofs.lemmas.Bool.{cases_Bool}
use Rattle.std.proofs.lemmas.List.{take-map, drop-map}
use Rattle.dc_tree.specs.declared.token.Token.{Token}
use Rattle.dc_tree.specs.Syntax.{Tree}
use Rattle.dc_tree.specs.Statements.{Ranging}
use Rattle.dc_slices.specs.declared.cutting.Stop.{Stop}
use Rattle.dc_slices.specs.Finding.{Found, plainly, mapped, both, items}
use Rattle.dc_parts.specs.Parts.{ranging, step_of}
use Rattle.dc_stmt.specs.Headings.{procedure_kind, in_front, from_word, count_in_front, procedure_parts, heading_slices}
use Rattle.dc_stmt.specs.Reading.{is_index, count_indexes, more_index, indexes, ranges_of}

-- a list that is cut at a place, as a list of what its items are seen as
cut-front : {X A : Type 0} (f : X → A) (xs front : List X) (n m : ℕ) (wanted : List A) → n ≡ m → front ≡ take n xs → take m (map f xs) ≡ wanted → map f front ≡ wanted
cut-front f xs front n m wanted same is wants = ap (map f) is ∙ sym (take-map f n xs) ∙ ap (λ (k : ℕ). take k (map f xs)) same ∙ wants

cut-back : {X A : Type 0} (f : X → A) (xs back : List X) (n m : ℕ) (wanted : List A) → n ≡ m → back ≡ drop n xs → drop m (map f xs) ≡ wanted → map f back ≡ wanted
cut-back f xs back n m wanted same is wants = ap (map f) is ∙ sym (drop-map f n xs) ∙ ap (λ (k : ℕ). drop k (map f xs)) same ∙ wants

-- ---- what stands in front of the word of a procedure

front-counted : (slices : List (List Token)) → take (count_in_front slices) slices ≡ in_front slices
front-counted [] = refl
front-counted (slice ∷ slices) =
    elim (cases_Bool (is_none (procedure_kind slice))) [
      | inl none ↦ rw none (ap (λ (more : List (List Token)). slice ∷ more) (front-counted slices))
      | inr some ↦ rw some refl
    ]

word-counted : (slices : List (List Token)) → drop (count_in_front slices) slices ≡ from_word slices
word-counted [] = refl
word-counted (slice ∷ slices) =
    elim (cases_Bool (is_none (procedure_kind slice))) [
      | inl none ↦ rw none (word-counted slices)
      | inr some ↦ rw some refl
    ]

pub heading-split : {X : Type 0} (f : X → List Token) (xs front back : List X) (n : ℕ) → n ≡ count_in_front (map f xs) → front ≡ take n xs → back ≡ drop n xs
    → procedure_parts (map f front) (map f back) ≡ heading_slices (map f xs)
heading-split f xs front back n same front_is back_is =
    let one : map f front ≡ in_front (map f xs) = cut-front f xs front n (count_in_front (map f xs)) (in_front (map f xs)) same front_is (front-counted (map f xs)) in
    let other : map f back ≡ from_word (map f xs) = cut-back f xs back n (count_in_front (map f xs)) (from_word (map f xs)) same back_is (word-counted (map f xs)) in
    ap (λ (slices : List (List Token)). procedure_parts slices (map f back)) one ∙ ap (procedure_parts (in_front (map f xs))) other

-- ---- the indexes of a header

max-three : (a b c : ℕ) → max a (max b c) ≡ max (max a b) c
max-three a b c = omega arith

one-more : (first : Found Ranging) (rest : Found (List Ranging)) (mask : Found (Option Tree)) → both (mapped (λ parts. parts.0 ∷ parts.1) (both first rest)) mask ≡ mapped more_index (both first (both rest mask))
one-more None rest mask = refl
one-more (Some first) None mask = refl
one-more (Some first) (Some rest) None = refl
one-more (Some first) (Some rest) (Some mask) = ap (λ (n : ℕ). Some ((first.0 ∷ rest.0, mask.0), n)) (sym (max-three first.1 rest.1 mask.1))

no-more : (mask : Found (Option Tree)) → both {A = List Ranging} (plainly []) mask ≡ mapped (λ mask. ([], mask)) mask
no-more None = refl
no-more (Some mask) = ap (λ (n : ℕ). Some (([], mask.0), n)) (zero-max mask.1)

abbrev counted : List (List Token) → Found (List Ranging × Option Tree)
counted slices = both (items (ranging Stop.Colon) (take (count_indexes slices) slices)) (step_of (drop (count_indexes slices) slices))

indexes-counted : (slices : List (List Token)) → counted slices ≡ indexes slices
indexes-counted [] = refl
indexes-counted (piece ∷ rest) =
    elim (cases_Bool (is_index piece)) [
      | inl on ↦
          rw on
          (one-more (ranging Stop.Colon piece) (items (ranging Stop.Colon) (take (count_indexes rest) rest)) (step_of (drop (count_indexes rest) rest))
          ∙ ap (λ (found : Found (List Ranging × Option Tree)). mapped more_index (both (ranging Stop.Colon piece) found)) (indexes-counted rest))
      | inr off ↦ rw off (no-more (step_of (piece ∷ rest)))
    ]

ranges-some : (slices : List (List Token)) → (count_indexes slices ≡ 0 → ⊥) → indexes slices ≡ ranges_of slices
ranges-some [] some = absurd (some refl)
ranges-some (piece ∷ rest) some =
    elim (cases_Bool (is_index piece)) [
      | inl on ↦ rw on refl
      | inr off ↦ absurd (some (rw off refl))
    ]

pub ranges-none : (slices : List (List Token)) → count_indexes slices ≡ 0 → ranges_of slices ≡ None
ranges-none [] none = refl
ranges-none (piece ∷ rest) none =
    elim (cases_Bool (is_index piece)) [
      | inl on ↦ let more = rw on at none in absurd (omega arith)
      | inr off ↦ rw off refl
    ]

pub ranges-split : {X : Type 0} (f : X → List Token) (xs front back : List X) (n : ℕ) → n ≡ count_indexes (map f xs) → (n ≡ 0 → ⊥) → front ≡ take n xs → back ≡ drop n xs
    → both (items (ranging Stop.Colon) (map f front)) (step_of (map f back)) ≡ ranges_of (map f xs)
ranges-split f xs front back n same some front_is back_is =
    let one = cut-front f xs front n (count_indexes (map f xs)) (take (count_indexes (map f xs)) (map f xs)) same front_is refl in
    let other = cut-back f xs back n (count_indexes (map f xs)) (drop (count_indexes (map f xs)) (map f xs)) same back_is refl in
    ap (λ (slices : List (List Token)). both (items (ranging Stop.Colon) slices) (step_of (map f back))) one
    ∙ ap (λ (slices : List (List Token)). both (items (ranging Stop.Colon) (take (count_indexes (map f xs)) (map f xs))) (step_of slices)) other
    ∙ indexes-counted (map f xs) ∙ ranges-some (map f xs) (λ none. some (same ∙ none))
