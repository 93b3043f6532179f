-- Numbers that are counted no further than the comparisons need. This project's own.
use Rattle.std.specs.Prelude.{ℕ, nat_lt, if◌then◌else◌}
use Rattle.dc_int.specs.Store.{Bounds, elements_in}

-- The number, or 2 to the 63rd where it is greater.
abbrev pub capped : ℕ → ℕ
capped n = if nat_lt n 9223372036854775808 then n else 9223372036854775808

-- How many elements there are within bounds.
abbrev pub size_of : Bounds → ℕ
size_of bounds = capped (elements_in bounds)
