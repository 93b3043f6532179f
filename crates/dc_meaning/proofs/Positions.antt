-- The position of an element is below the number of the elements.
use Rattle.std.proofs.Common.{◌≡◌, ◌<◌, ◌≤◌, ◌+◌, ◌-◌, ◌*◌, ℕ, zero, suc, Bool, true, false, ◌&&◌, List, [], ◌∷◌, Option, Some, None, refl, sym, subst, arith}
use Rattle.std.proofs.lemmas.Bool.{leb-true}
use Rattle.std.proofs.lemmas.Int.{ints}
use Rattle.std.proofs.lemmas.Option.{none-some, same_Some}
use Rattle.std.specs.Prelude.{ℤ, pos, negsuc, ◌+ℤ◌, int_le, if◌then◌else◌}
use Rattle.std.specs.Int.{int_gap}
use Rattle.dc_int.specs.Store.{Bounds, elements_in, extent, offset_in, joined_position, position_in}

gap-less : (low subscript high : ℤ) → int_le low subscript ≡ true → int_le subscript high ≡ true → int_gap low subscript < extent (low, high)
gap-less (pos a) (pos b) (pos c) low high = omega (arith, ints, low, high)
gap-less (pos a) (pos b) (negsuc c) low high = absurd (omega (arith, ints, low, high))
gap-less (pos a) (negsuc b) high low_is high_is = absurd (omega (arith, ints, low_is))
gap-less (negsuc a) (pos b) (pos c) low high = omega (arith, ints, low, high)
gap-less (negsuc a) (pos b) (negsuc c) low high = absurd (omega (arith, ints, low, high))
gap-less (negsuc a) (negsuc b) (pos c) low high = omega (arith, ints, low, high)
gap-less (negsuc a) (negsuc b) (negsuc zero) low high =
    let less : int_gap (negsuc a) (negsuc b) < int_gap (negsuc a) (pos 0) = omega (arith, ints, low, high) in less
gap-less (negsuc a) (negsuc b) (negsuc (suc c)) low high =
    let above : b ≤ a = leb-true b a low in
    let below : suc c ≤ b = leb-true (suc c) b high in
    let less : a - b < a - c = omega (arith, above, below) in
    let same : negsuc (suc c) +ℤ pos 1 ≡ negsuc c = omega (arith, ints) in
    subst (λ end. a - b < int_gap (negsuc a) end) (sym same) less

offset-below : (dimension : ℤ × ℤ) (subscript : ℤ) (offset : ℕ) → offset_in dimension subscript ≡ Some offset → offset < extent dimension
offset-below (low, high) subscript offset e = by (int_le low subscript) refl (int_le subscript high) refl e
  where
    by : (a : Bool) → int_le low subscript ≡ a → (b : Bool) → int_le subscript high ≡ b → (if a && b then Some (int_gap low subscript) else None) ≡ Some offset → offset < extent (low, high)
    by true above true below e = subst (λ n. n < extent (low, high)) (same_Some _ offset e) (gap-less low subscript high above below)
    by true above false below e = absurd (none-some offset e)
    by false above b below e = absurd (none-some offset e)

joined-below : (size count offset others : ℕ) → offset < size → others < count → offset + size * others < size * count
joined-below size zero offset others first second = absurd (omega (arith, second))
joined-below size (suc count) offset zero first second = let some : size * suc count ≡ size + size * count = grind arith in let none : size * zero ≡ 0 = omega arith in omega (arith, some, none, first)
joined-below size (suc count) offset (suc others) first second =
    let less = joined-below size count offset others first (omega (arith, second)) in
    let some : size * suc count ≡ size + size * count = grind arith in
    let more : size * suc others ≡ size + size * others = grind arith in
    omega (arith, some, more, less)

pub position-below : (bounds : Bounds) (subscripts : List ℤ) (position : ℕ) → position_in bounds subscripts ≡ Some position → position < elements_in bounds
position-below [] [] position e = let none : 0 ≡ position = same_Some 0 position e in omega (arith, none)
position-below [] (subscript ∷ subscripts) position e = absurd (none-some position e)
position-below (dimension ∷ bounds) [] position e = absurd (none-some position e)
position-below (dimension ∷ bounds) (subscript ∷ subscripts) position e =
    by (offset_in dimension subscript) (offset-below dimension subscript) (position_in bounds subscripts) (position-below bounds subscripts) e
  where
    by : (offset : Option ℕ) → ((n : ℕ) → offset ≡ Some n → n < extent dimension) → (others : Option ℕ) → ((n : ℕ) → others ≡ Some n → n < elements_in bounds)
        → joined_position (extent dimension) offset others ≡ Some position → position < extent dimension * elements_in bounds
    by (Some offset) first (Some others) second e =
        subst (λ n. n < extent dimension * elements_in bounds) (same_Some _ position e) (joined-below (extent dimension) (elements_in bounds) offset others (first offset refl) (second others refl))
    by (Some offset) first None second e = absurd (none-some position e)
    by None first others second e = absurd (none-some position e)
