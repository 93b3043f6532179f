-- The values of an index with step 1.
use Rattle.std.proofs.Common.{◌≡◌, ℕ, suc, ◌+◌, ◌-◌, ◌<◌, [], ◌∷◌, map, append-nil, ap, ◌∙◌, arith}
use Rattle.std.proofs.lemmas.Int.{ints}
use Rattle.std.specs.Prelude.{ℤ, pos, negsuc, ◌+ℤ◌, ◌-ℤ◌, int_div}
use Rattle.dc_code.specs.Combinations.{Span, natural, value_count, values_from, values_of, combinations}

abbrev pub span : ℤ → ℤ → Span
span first last = record { first = first; last = last; step = pos 1 }

divided-by-one : (z : ℤ) → int_div z (pos 1) ≡ z
divided-by-one (pos n) = search (arith)
divided-by-one (negsuc n) = search (arith)

-- how many values there are
pub span-count : (first last : ℤ) → value_count (span first last) ≡ natural ((last -ℤ first) +ℤ pos 1)
span-count first last = ap natural (divided-by-one ((last -ℤ first) +ℤ pos 1))

-- The combinations of one index are its values.
pub combinations-one : (one : Span) → combinations (one ∷ []) ≡ map (λ z. z ∷ []) (values_of one)
combinations-one one = append-nil (map (λ z. z ∷ []) (values_of one))

-- one value more
pub values-more : (first : ℤ) (count k : ℕ) → k < count
    → values_from (first +ℤ pos k) (pos 1) (count - k) ≡ (first +ℤ pos k) ∷ values_from (first +ℤ pos (k + 1)) (pos 1) (count - (k + 1))
values-more first count k inside =
    ap (values_from (first +ℤ pos k) (pos 1)) one ∙ ap (λ (z : ℤ). (first +ℤ pos k) ∷ values_from z (pos 1) (count - (k + 1))) next
  where
    one : count - k ≡ suc (count - (k + 1))
    one = omega (arith, inside)

    next : (first +ℤ pos k) +ℤ pos 1 ≡ first +ℤ pos (k + 1)
    next = omega (arith, ints)
