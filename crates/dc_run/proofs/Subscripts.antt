-- The subscripts of a position lead back to it.
use Rattle.std.proofs.Common.{◌≡◌, ◌*◌, ◌/◌, ◌%◌, ◌<◌, ◌≤◌, ◌&&◌, ℕ, zero, suc, true, [], ◌∷◌, Some, None, refl, ap, ◌∙◌, arith}
use Rattle.std.proofs.Math.Nat.{mod-lt, mod-add-div, div-lt_iff_lt-mul}
use Rattle.std.proofs.lemmas.Int.{ints}
use Rattle.std.specs.Prelude.{ℤ, pos, negsuc, ◌+ℤ◌, ◌≤ℤ◌, ◌<ℤ◌, int_le, if◌then◌else◌}
use Rattle.std.specs.Int.{int_gap}
use Rattle.dc_int.specs.Store.{Bounds, extent, elements_in, offset_in, joined_position, position_in}
use Rattle.dc_run.specs.ReportLine.{subscripts_at}

-- a number that lies less far above the first one than the second does is below the second
below : (low end : ℤ) (n : ℕ) → n < int_gap low end → (low +ℤ pos n) <ℤ end
below (pos a) (pos b) n h = omega (arith, ints)
below (pos a) (negsuc b) n h = absurd (omega arith)
below (negsuc a) (pos b) n h = omega (arith, ints)
below (negsuc a) (negsuc b) n h = omega (arith, ints)

gap_of_more : (low end : ℤ) (n : ℕ) → end ≡ low +ℤ pos n → int_gap low end ≡ n
gap_of_more (pos a) (pos b) n e = omega (arith, ints)
gap_of_more (pos a) (negsuc b) n e = omega (arith, ints)
gap_of_more (negsuc a) (pos b) n e = omega (arith, ints)
gap_of_more (negsuc a) (negsuc b) n e = omega (arith, ints)

offset_back : (low high : ℤ) (n : ℕ) → n < extent (low, high) → offset_in (low, high) (low +ℤ pos n) ≡ Some n
offset_back low high n h =
    let before : (low +ℤ pos n) <ℤ (high +ℤ pos 1) = below low (high +ℤ pos 1) n h in
    let above : low ≤ℤ (low +ℤ pos n) = omega (arith, ints) in
    let under : (low +ℤ pos n) ≤ℤ high = omega (arith, ints) in
    let above_test : int_le low (low +ℤ pos n) ≡ true = search (arith, ints) in
    let under_test : int_le (low +ℤ pos n) high ≡ true = search (arith, ints) in
    λ i. if above_test i && under_test i then Some (gap_of_more low (low +ℤ pos n) n refl i) else None

pub some_extent : (size others position : ℕ) → position < size * others → 0 < size
some_extent zero others position h = let none : zero * others ≡ 0 = omega arith in absurd (omega arith)
some_extent (suc size) others position h = omega arith

pub leads_back : (bounds : Bounds) (position : ℕ) → position < elements_in bounds
    → position_in bounds (subscripts_at bounds position) ≡ Some position
leads_back [] position h = ap (λ n. Some n) (omega arith)
leads_back ((low, high) ∷ bounds) position h =
    let size : ℕ = extent (low, high) in
    let some : 0 < size = some_extent size (elements_in bounds) position h in
    let first = offset_back low high (position % size) (mod-lt position some) in
    let others = leads_back bounds (position / size) ((div-lt_iff_lt-mul some).1 (omega (arith, h))) in
    (λ i. joined_position size (first i) (others i)) ∙ ap (λ n. Some n) (mod-add-div position size)

-- ---- one dimension after another

-- What is known where the subscripts from a dimension on are still to come.
pub record IsLeft (bounds : Bounds) (left : ℕ) : Type 0 where
  pub inside : left < elements_in bounds
  pub few : elements_in bounds ≤ 4194304

-- What the first dimension of these gives: a size, the subscript and what is left of the position.
pub record Gives (dimension : ℤ × ℤ) (bounds : Bounds) (left : ℕ) : Type 0 where
  pub some : 0 < extent dimension
  pub few : extent dimension ≤ 4194304
  pub inside : left % extent dimension < extent dimension
  pub next : IsLeft bounds (left / extent dimension)

some_others : (size others position : ℕ) → position < size * others → 0 < others
some_others size zero position h = let none : size * zero ≡ 0 = omega arith in absurd (omega arith)
some_others size (suc others) position h = omega arith

pub first_gives : (dimension : ℤ × ℤ) (bounds : Bounds) (left : ℕ) → IsLeft (dimension ∷ bounds) left → Gives dimension bounds left
first_gives dimension bounds left known =
    let size = extent dimension in
    let others = elements_in bounds in
    let some : 0 < size = some_extent size others left known.inside in
    let some_more : 0 < others = some_others size others left known.inside in
    let wide : size ≤ size * others = grind (arith, some_more) in
    let long : others ≤ size * others = grind (arith, some) in
    let few : size * others ≤ 4194304 = known.few in
    record {
      some = some;
      few = omega (arith, wide, few);
      inside = mod-lt left some;
      next = record { inside = (div-lt_iff_lt-mul some).1 (omega (arith, known.inside)); few = omega (arith, long, few) };
    }
