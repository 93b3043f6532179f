-- How many elements there are within bounds, and the position of one of them.
use Rattle.std.proofs.Common.{◌≡◌, ℕ, zero, suc, ◌+◌, ◌*◌, ◌≤◌, ◌<◌, true, ◌&&◌, List, [], ◌∷◌, length, drop, get_or, Option, Some, None, refl, sym, arith}
use Rattle.std.specs.Prelude.{ℤ, pos, ◌+ℤ◌, int_le}
use Rattle.std.specs.Int.{int_gap}
use Rattle.std.proofs.lemmas.Bool.{and_parts}
use Rattle.std.proofs.lemmas.Int.{ints}
use Rattle.std.proofs.lemmas.Option.{cond_some, none-some, same_Some}
use Rattle.std.proofs.Math.Nat.{mul-le-mul_left}
use Rattle.dc_int.specs.Store.{Bounds, extent, elements_in, offset_in, joined_position, position_in}

-- ---- how many elements there are

-- Two numbers whose product isn't 0 aren't 0, and are no more than it.
record Factors (m n : ℕ) : Type 0 where
  first : 1 ≤ m
  second : 1 ≤ n
  first_less : m ≤ m * n
  second_less : n ≤ m * n

factors-of : (m n : ℕ) → 1 ≤ m * n → Factors m n
factors-of zero n some = absurd (omega (arith, some))
factors-of (suc m) zero some = absurd (let none = times-zero (suc m) in omega (arith, some, none))
  where
    times-zero : (m : ℕ) → m * 0 ≡ 0
    times-zero m = omega arith
factors-of (suc m) (suc n) some =
    record {
      first = omega arith;
      second = omega arith;
      first_less = let more : suc m * 1 ≤ suc m * suc n = mul-le-mul_left (suc m) (omega arith) in omega (arith, more);
      second_less = let more : suc n * 1 ≤ suc n * suc m = mul-le-mul_left (suc n) (omega arith) in omega (arith, more);
    }

-- Where there are elements, no dimension has more subscripts than there are elements.
pub extent-less : (bounds : Bounds) (k : ℕ) (other : ℤ × ℤ) → 1 ≤ elements_in bounds → k < length bounds → extent (get_or bounds k other) ≤ elements_in bounds
extent-less [] k other some within = absurd (omega (arith, within))
extent-less (dimension ∷ bounds) zero other some within = (factors-of (extent dimension) (elements_in bounds) some).first_less
extent-less (dimension ∷ bounds) (suc k) other some within =
    let parts = factors-of (extent dimension) (elements_in bounds) some in
    let later = extent-less bounds k other parts.second (omega (arith, within)) in
    let whole = parts.second_less in
    omega (arith, later, whole)

-- There are no more elements within the later dimensions than within all.
pub elements-later : (k : ℕ) (bounds : Bounds) → 1 ≤ elements_in bounds → elements_in (drop k bounds) ≤ elements_in bounds
elements-later zero bounds some = omega arith
elements-later (suc k) [] some = omega arith
elements-later (suc k) (dimension ∷ bounds) some =
    let parts = factors-of (extent dimension) (elements_in bounds) some in
    let later = elements-later k bounds parts.second in
    let whole = parts.second_less in
    omega (arith, later, whole)

-- ---- positions

gap-less : (low subscript high : ℤ) → int_le low subscript ≡ true → int_le subscript high ≡ true → int_gap low subscript < int_gap low (high +ℤ pos 1)
gap-less low subscript high above below = grind (arith, ints)

pub offset-less : (dimension : ℤ × ℤ) (subscript : ℤ) (offset : ℕ) → offset_in dimension subscript ≡ Some offset → offset < extent dimension
offset-less (low, high) subscript offset is =
    let inside = cond_some (int_le low subscript && int_le subscript high) (int_gap low subscript) offset is in
    let tests = and_parts (int_le low subscript) (int_le subscript high) inside.0 in
    rw (sym inside.1) (gap-less low subscript high tests.0 tests.1)

-- The first dimension, with an offset in it, and the later ones.
row-less : (offset others size rest : ℕ) → offset < size → others < rest → offset + size * others < size * rest
row-less offset others size rest low less =
    let more : size * suc others ≤ size * rest = mul-le-mul_left size less in
    omega (arith, low, more)

-- A position is less than how many elements there are.
pub position-less : (bounds : Bounds) (subscripts : List ℤ) (position : ℕ) → position_in bounds subscripts ≡ Some position → position < elements_in bounds
position-less [] [] position is = let same = same_Some 0 position is in omega (arith, same)
position-less [] (subscript ∷ subscripts) position is = absurd (none-some position is)
position-less (dimension ∷ bounds) [] position is = absurd (none-some position is)
position-less (dimension ∷ bounds) (subscript ∷ subscripts) position is =
    by (offset_in dimension subscript) (position_in bounds subscripts) (offset-less dimension subscript) (position-less bounds subscripts) is
  where
    by
        : (offset others : Option ℕ) → ((n : ℕ) → offset ≡ Some n → n < extent dimension) → ((n : ℕ) → others ≡ Some n → n < elements_in bounds)
        → joined_position (extent dimension) offset others ≡ Some position → position < extent dimension * elements_in bounds
    by (Some offset) (Some others) low less joined =
        rw (sym (same_Some (offset + extent dimension * others) position joined))
        (row-less offset others (extent dimension) (elements_in bounds) (low offset refl) (less others refl))
    by (Some offset) None low less joined = absurd (none-some position joined)
    by None others low less joined = absurd (none-some position joined)

-- There is no position where there are no elements.
pub no-position : (bounds : Bounds) (subscripts : List ℤ) → elements_in bounds ≡ 0 → position_in bounds subscripts ≡ None
no-position bounds subscripts none = by (position_in bounds subscripts) (position-less bounds subscripts)
  where
    by : (found : Option ℕ) → ((n : ℕ) → found ≡ Some n → n < elements_in bounds) → found ≡ None
    by None less = refl
    by (Some position) less = absurd (let within = less position refl in omega (arith, within, none))

pub joined-none : (size : ℕ) (offset : Option ℕ) → joined_position size offset None ≡ None
joined-none size (Some offset) = refl
joined-none size None = refl

-- Where there is room for one more of the later positions, a position is small.
pub position-small
    : (dimension : ℤ × ℤ) (subscript : ℤ) (offset others : ℕ) → offset_in dimension subscript ≡ Some offset → extent dimension * (others + 1) ≤ 4194304
    → offset + extent dimension * others < 4194304
position-small dimension subscript offset others is room = let low = offset-less dimension subscript offset is in omega (arith, low, room)
