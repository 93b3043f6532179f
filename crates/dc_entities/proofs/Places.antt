-- How many elements there are within bounds, and the position of one.
use Rattle.std.proofs.Common.{◌≡◌, ℕ, zero, suc, ◌+◌, ◌*◌, ◌≤◌, ◌<◌, true, ◌&&◌, List, [], ◌∷◌, length, drop, Option, Some, None, refl, sym, ap, ◌∙◌, arith}
use Rattle.std.specs.Prelude.{ℤ, pos, ◌+ℤ◌, int_le}
use Rattle.std.specs.Int.{int_gap}
use Rattle.std.proofs.lemmas.Bool.{and_parts}
use Rattle.std.proofs.lemmas.Int.{ints}
use Rattle.std.proofs.lemmas.Option.{cond_some}
use Rattle.std.proofs.Math.Nat.{mul-le-mul_left}
use Rattle.dc_int.specs.Store.{Bounds, extent, elements_in, offset_in, joined_position, position_in}

-- ---- products

-- A factor is no more than a product that isn't 0.
factor : (m n : ℕ) → 1 ≤ n → m ≤ m * n
factor m n some = let more : m * 1 ≤ m * n = mul-le-mul_left m some in omega (arith, more)

no-product : (m : ℕ) → m * 0 ≡ 0
no-product m = omega arith

pub factors : (m n : ℕ) → 1 ≤ m * n → (1 ≤ m) × (1 ≤ n)
factors zero n some = absurd (omega (arith, some))
factors (suc m) zero some = absurd (let none = no-product (suc m) in omega (arith, some, none))
factors (suc m) (suc n) some = (omega arith, omega arith)

-- the elements within the later dimensions
pub later-elements : (k : ℕ) (bounds : Bounds) → 1 ≤ elements_in bounds → elements_in (drop k bounds) ≤ elements_in bounds
later-elements zero bounds some = omega arith
later-elements (suc k) [] some = omega arith
later-elements (suc k) (dimension ∷ bounds) some =
    let parts = factors (extent dimension) (elements_in bounds) some in
    let later = later-elements k bounds parts.1 in
    let whole : elements_in bounds ≤ extent dimension * elements_in bounds = turned (extent dimension) (elements_in bounds) parts.0 in
    omega (arith, later, whole)
  where
    turned : (m n : ℕ) → 1 ≤ m → n ≤ m * n
    turned m n one = let more = factor n m one in omega (arith, more)

-- ---- positions

-- one dimension more
pub joined-less : (offset others size rest : ℕ) → offset < size → others < rest → offset + size * others < size * rest
joined-less offset others size rest low less =
    let more : size * suc others ≤ size * rest = mul-le-mul_left size less in
    omega (arith, low, more)

gap-less : (low subscript high : ℤ) → int_le low subscript ≡ true → int_le subscript high ≡ true → int_gap low subscript < int_gap low (high +ℤ pos 1)
gap-less low subscript high above below = grind (arith, ints)

pub offset-less : (dimension : ℤ × ℤ) (subscript : ℤ) (offset : ℕ) → offset_in dimension subscript ≡ Some offset → offset < extent dimension
offset-less (low, high) subscript offset is =
    let inside = cond_some (int_le low subscript && int_le subscript high) (int_gap low subscript) offset is in
    let tests = and_parts (int_le low subscript) (int_le subscript high) inside.0 in
    rw (sym inside.1) (gap-less low subscript high tests.0 tests.1)

-- The position of an element is less than how many there are.
pub position-within : (bounds : Bounds) (subscripts : List ℤ) (position : ℕ) → position_in bounds subscripts ≡ Some position → position < elements_in bounds
position-within [] [] position is = let same : 0 ≡ position = cc in omega (arith, same)
position-within [] (subscript ∷ subscripts) position is = absurd (cc)
position-within (dimension ∷ bounds) [] position is = absurd (cc)
position-within (dimension ∷ bounds) (subscript ∷ subscripts) position is =
    by (offset_in dimension subscript) (position_in bounds subscripts) refl refl is (position-within bounds subscripts)
  where
    by : (offset others : Option ℕ) → offset_in dimension subscript ≡ offset → position_in bounds subscripts ≡ others → joined_position (extent dimension) offset others ≡ Some position
        → ((later : ℕ) → position_in bounds subscripts ≡ Some later → later < elements_in bounds) → position < extent dimension * elements_in bounds
    by (Some offset) (Some others) first rest joined less =
        let same : offset + extent dimension * others ≡ position = cc in
        rw (sym same) (joined-less offset others (extent dimension) (elements_in bounds) (offset-less dimension subscript offset first) (less others rest))
    by (Some offset) None first rest joined less = absurd (cc)
    by None (Some others) first rest joined less = absurd (cc)
    by None None first rest joined less = absurd (cc)

no-joined : (size : ℕ) (offset : Option ℕ) → joined_position size offset None ≡ None
no-joined size (Some offset) = refl
no-joined size None = refl

-- No element where there is none by the later subscripts.
pub no-later : (k : ℕ) (bounds : Bounds) (subscripts : List ℤ) → position_in (drop k bounds) (drop k subscripts) ≡ None → position_in bounds subscripts ≡ None
no-later zero bounds subscripts none = none
no-later (suc k) [] [] none = none
no-later (suc k) [] (subscript ∷ subscripts) none = refl
no-later (suc k) (dimension ∷ bounds) [] none = refl
no-later (suc k) (dimension ∷ bounds) (subscript ∷ subscripts) none =
    ap (joined_position (extent dimension) (offset_in dimension subscript)) (no-later k bounds subscripts none) ∙ no-joined (extent dimension) (offset_in dimension subscript)

-- Where a subscript is out of its bounds.
pub no-position : (k : ℕ) (bounds : Bounds) (subscripts : List ℤ) (dimension : ℤ × ℤ) (subscript : ℤ) (others : ℕ) → drop k bounds ≡ dimension ∷ drop (k + 1) bounds → drop k subscripts ≡ subscript ∷ drop (k + 1) subscripts
    → position_in (drop (k + 1) bounds) (drop (k + 1) subscripts) ≡ Some others → joined_position (extent dimension) (offset_in dimension subscript) (Some others) ≡ None → None ≡ position_in bounds subscripts
no-position k bounds subscripts dimension subscript others first given later out = sym (no-later k bounds subscripts (rw (first, given, later) out))

-- Where there are more or fewer subscripts than dimensions.
pub other-rank : (bounds : Bounds) (subscripts : List ℤ) → (length bounds ≡ length subscripts → ⊥) → None ≡ position_in bounds subscripts
other-rank [] [] other = absurd (other refl)
other-rank [] (subscript ∷ subscripts) other = refl
other-rank (dimension ∷ bounds) [] other = refl
other-rank (dimension ∷ bounds) (subscript ∷ subscripts) other =
    sym (ap (joined_position (extent dimension) (offset_in dimension subscript)) (sym (other-rank bounds subscripts (λ same. other (ap (λ n. suc n) same)))) ∙ no-joined (extent dimension) (offset_in dimension subscript))

-- Where there are no elements.
pub nowhere : (bounds : Bounds) (subscripts : List ℤ) → elements_in bounds ≡ 0 → None ≡ position_in bounds subscripts
nowhere bounds subscripts none = by (position_in bounds subscripts) refl
  where
    by : (found : Option ℕ) → position_in bounds subscripts ≡ found → None ≡ found
    by None is = refl
    by (Some position) is = let less = position-within bounds subscripts position is in absurd (omega (arith, less, none))

-- ---- by the code's steps

-- The later dimensions leave room for one more.
pub room : (k : ℕ) (bounds : Bounds) (subscripts : List ℤ) (dimension : ℤ × ℤ) (others : ℕ) → drop k bounds ≡ dimension ∷ drop (k + 1) bounds → 1 ≤ elements_in bounds → elements_in bounds ≤ 4194304
    → position_in (drop (k + 1) bounds) (drop (k + 1) subscripts) ≡ Some others → extent dimension * (others + 1) ≤ 4194304
room k bounds subscripts dimension others first some few is =
    let less = position-within (drop (k + 1) bounds) (drop (k + 1) subscripts) others is in
    let whole : extent dimension * elements_in (drop (k + 1) bounds) ≤ elements_in bounds = rw first at (later-elements k bounds some) in
    let more : extent dimension * (others + 1) ≤ extent dimension * elements_in (drop (k + 1) bounds) = mul-le-mul_left (extent dimension) (omega (arith, less)) in
    omega (arith, more, whole, few)
