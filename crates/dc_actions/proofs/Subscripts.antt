-- The subscripts of a position lead back to it.
use Rattle.std.proofs.Common.{◌≡◌, ◌*◌, ◌/◌, ◌%◌, ◌<◌, ◌&&◌, ◌+◌, ℕ, zero, suc, true, [], ◌∷◌, length, Some, None, refl, ap, ◌∙◌, arith}
use Rattle.std.proofs.Math.Nat.{mod-lt, mod-add-div, div-lt_iff_lt-mul}
use Rattle.std.proofs.lemmas.Int.{ints}
use Rattle.std.specs.Prelude.{ℤ, pos, negsuc, ◌+ℤ◌, ◌≤ℤ◌, ◌<ℤ◌, int_le, if◌then◌else◌}
use Rattle.std.specs.Int.{int_gap}
use Rattle.dc_int.specs.Sorts.{Sort, whole, logical}
use Rattle.dc_int.specs.Store.{Bounds, extent, elements_in, offset_in, joined_position, position_in}
use Rattle.dc_actions.specs.Assigning.{kept_group}
use Rattle.dc_actions.specs.Subscripts.{subscripts_at}

-- a number that lies less far above the first one than the second does is below the second
pub below : (low end : ℤ) (n : ℕ) → n < int_gap low end → (low +ℤ pos n) <ℤ end
below (pos a) (pos b) n h = omega (arith, ints)
below (pos a) (negsuc b) n h = absurd (omega arith)
below (negsuc a) (pos b) n h = omega (arith, ints)
below (negsuc a) (negsuc b) n h = omega (arith, ints)

gap_of_more : (low end : ℤ) (n : ℕ) → end ≡ low +ℤ pos n → int_gap low end ≡ n
gap_of_more (pos a) (pos b) n e = omega (arith, ints)
gap_of_more (pos a) (negsuc b) n e = omega (arith, ints)
gap_of_more (negsuc a) (pos b) n e = omega (arith, ints)
gap_of_more (negsuc a) (negsuc b) n e = omega (arith, ints)

offset_back : (low high : ℤ) (n : ℕ) → n < extent (low, high) → offset_in (low, high) (low +ℤ pos n) ≡ Some n
offset_back low high n h =
    let before : (low +ℤ pos n) <ℤ (high +ℤ pos 1) = below low (high +ℤ pos 1) n h in
    let above : low ≤ℤ (low +ℤ pos n) = omega (arith, ints) in
    let under : (low +ℤ pos n) ≤ℤ high = omega (arith, ints) in
    let above_test : int_le low (low +ℤ pos n) ≡ true = search (arith, ints) in
    let under_test : int_le (low +ℤ pos n) high ≡ true = search (arith, ints) in
    λ i. if above_test i && under_test i then Some (gap_of_more low (low +ℤ pos n) n refl i) else None

pub some_extent : (size others position : ℕ) → position < size * others → 0 < size
some_extent zero others position h = let none : zero * others ≡ 0 = omega arith in absurd (omega arith)
some_extent (suc size) others position h = omega arith

pub leads_back : (bounds : Bounds) (position : ℕ) → position < elements_in bounds → position_in bounds (subscripts_at bounds position) ≡ Some position
leads_back [] position h = ap (λ n. Some n) (omega arith)
leads_back ((low, high) ∷ bounds) position h =
    let size : ℕ = extent (low, high) in
    let some : 0 < size = some_extent size (elements_in bounds) position h in
    let first = offset_back low high (position % size) (mod-lt position some) in
    let others = leads_back bounds (position / size) ((div-lt_iff_lt-mul some).1 (omega (arith, h))) in
    (λ i. joined_position size (first i) (others i)) ∙ ap (λ n. Some n) (mod-add-div position size)

pub as_many_subscripts : (bounds : Bounds) (position : ℕ) → length (subscripts_at bounds position) ≡ length bounds
as_many_subscripts [] position = refl
as_many_subscripts ((low, high) ∷ bounds) position = ap suc (as_many_subscripts bounds (position / extent (low, high)))

-- The places of a group of slots that are counted from 1.
extent_of_count : (count : ℕ) → extent (pos 1, pos count) ≡ count
extent_of_count count = gap_of_more (pos 1) (pos count +ℤ pos 1) count (omega (arith, ints))

pub counted_from_one : (count before : ℕ) → before < count → position_in ((pos 1, pos count) ∷ []) (pos (suc before) ∷ []) ≡ Some before
counted_from_one count before h =
    ap (λ subscript. joined_position (extent (pos 1, pos count)) (offset_in (pos 1, pos count) subscript) (Some 0)) further
    ∙ ap (λ offset. joined_position (extent (pos 1, pos count)) offset (Some 0)) (offset_back (pos 1) (pos count) before within) ∙ ap (λ n. Some n) none_more
  where
    further : pos (suc before) ≡ pos 1 +ℤ pos before
    further = omega (arith, ints)

    within : before < extent (pos 1, pos count)
    within = omega (arith, h, extent_of_count count)

    none_more : before + extent (pos 1, pos count) * 0 ≡ before
    none_more = omega arith

pub counted_elements : (count : ℕ) → elements_in ((pos 1, pos count) ∷ []) ≡ count
counted_elements count = omega (arith, extent_of_count count)

pub kept-bounds : (sort : Sort) (count : ℕ) → (kept_group sort count).bounds ≡ (pos 1, pos count) ∷ []
kept-bounds (whole its_kind) count = refl
kept-bounds logical count = refl
