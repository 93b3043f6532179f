-- The subscripts of the element at a position. After ISO/IEC 1539-1:2023, clause 9.5.3.
use Rattle.std.specs.Prelude.{ℕ, ◌/◌, ◌%◌, List, [], ◌∷◌, ℤ, pos, ◌+ℤ◌}
use Rattle.dc_int.specs.Store.{Bounds, extent}

-- The first varies fastest.
abbrev pub subscripts_at : Bounds → ℕ → List ℤ
subscripts_at [] position = []
subscripts_at ((low, high) ∷ bounds) position = (low +ℤ pos (position % extent (low, high))) ∷ subscripts_at bounds (position / extent (low, high))
