-- How many elements the variables of a unit may have together. This project's own.
use Rattle.std.specs.Prelude.{ℕ, zero, suc, ◌+◌, nat_lt, Bool, if◌then◌else◌}
use Rattle.dc_int.specs.Store.{Bounds, elements_in}

abbrev pub limit_in : ℕ → ℕ
limit_in zero = 4194304
limit_in (suc before) = 4096

-- Numbers over the limits are all counted as one more than the greater limit.
abbrev pub capped : ℕ → ℕ
capped n = if nat_lt n 4194305 then n else 4194305

abbrev pub size_of : Bounds → ℕ
size_of bounds = capped (elements_in bounds)

abbrev pub total_with : ℕ → ℕ → ℕ
total_with elements size = capped (elements + size)

abbrev pub is_over : ℕ → ℕ → Bool
is_over unit total = nat_lt (limit_in unit) total
