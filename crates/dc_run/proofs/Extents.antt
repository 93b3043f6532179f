-- How far the bounds of a dimension are apart, where it has some subscript.
use Rattle.std.proofs.Common.{◌≡◌, ◌<◌, arith}
use Rattle.std.proofs.lemmas.Int.{ints}
use Rattle.std.specs.Prelude.{ℤ, pos, negsuc, ◌+ℤ◌, ◌-ℤ◌}
use Rattle.std.specs.Int.{int_gap}
use Rattle.dc_int.specs.Store.{extent}

gap-is : (low end : ℤ) → 0 < int_gap low end → pos (int_gap low end) ≡ end -ℤ low
gap-is (pos a) (pos b) h = omega (arith, ints)
gap-is (pos a) (negsuc b) h = absurd (omega arith)
gap-is (negsuc a) (pos b) h = omega (arith, ints)
gap-is (negsuc a) (negsuc b) h = omega (arith, ints)

pub extent-is : (low high : ℤ) → 0 < extent (low, high) → pos (extent (low, high)) ≡ (high -ℤ low) +ℤ pos 1
extent-is low high h = let gap : pos (extent (low, high)) ≡ (high +ℤ pos 1) -ℤ low = gap-is low (high +ℤ pos 1) h in omega (arith, ints, gap)
