-- The elements of what a name stands for, by subscripts or as a whole. After ISO/IEC 1539-1:2023, clauses
-- 9.4 and 9.5.3.
use Rattle.std.specs.Prelude.{ℕ, ◌==◌, List, [], Option, Some, None, if◌then◌else◌, ℤ, pos}
use Rattle.std.specs.List.{range_with_len}
use Rattle.dc_int.specs.declared.fault.FaultKind.{FaultKind}
use Rattle.dc_int.specs.declared.kind.Kind.{Kind}
use Rattle.dc_int.specs.Kinds.{wrapped}
use Rattle.dc_int.specs.Store.{Bounds, extent, elements_in, position_in}
use Rattle.dc_code.specs.declared.frame.Passed.{Passed}
use Rattle.dc_code.specs.declared.frame.Place.{Place}
use Rattle.dc_tree.specs.Entities.{Entity, outside, slots, dummy, constant, reduction}
use Rattle.dc_meaning.specs.Acts.{Act, ◌>>=◌, just, wrong, level, passed_at, refer_to, for_each}

abbrev pub bounds_of_entity : Entity → Bounds
bounds_of_entity (outside variable sort bounds) = bounds
bounds_of_entity (slots group sort bounds) = bounds
bounds_of_entity (reduction variable op sort bounds) = bounds
bounds_of_entity other = []

-- The position of an element by its subscripts, or the fault of a subscript out of its bounds.
abbrev pub position_at : ℕ → Bounds → List ℤ → Act ℕ
position_at line bounds subscripts = by (position_in bounds subscripts)
  where
    by : Option ℕ → Act ℕ
    by (Some position) = just position
    by None = wrong FaultKind.Subscript line

-- The place of a position in a variable; of a dummy, the place that it is associated with. Nothing else
-- has places.
abbrev pub place_of : ℕ → Entity → ℕ → Act Place
place_of line (outside variable sort bounds) position = just (Place.Outer (record { variable = variable; position = position }))
place_of line (slots group sort bounds) position = level >>= (λ frame. just (Place.InFrame frame group position))
place_of line (dummy number sort) position = passed_at number >>= place_in
  where
    place_in : Option Passed → Act Place
    place_in (Some (Passed.AtPlace place)) = just place
    place_in other = wrong FaultKind.Undefined line
place_of line other position = wrong FaultKind.Undefined line

-- The place of the element with these subscripts.
abbrev pub element_at : ℕ → Entity → List ℤ → Act Place
element_at line entity subscripts = position_at line (bounds_of_entity entity) subscripts >>= place_of line entity

-- The places of all elements, the first subscript varying fastest.
abbrev pub whole_of : ℕ → Entity → Act (List Place)
whole_of line entity = for_each (place_of line entity) (range_with_len 0 (elements_in (bounds_of_entity entity)))

-- A reference to the element with these subscripts, or to a constant or a dummy.
abbrev pub value_at_entity : ℕ → Entity → List ℤ → Act ℤ
value_at_entity line (constant sort value) subscripts = just value
value_at_entity line (dummy number sort) subscripts = passed_at number >>= value_in
  where
    value_in : Option Passed → Act ℤ
    value_in (Some (Passed.ByValue value)) = just value
    value_in (Some (Passed.AtPlace place)) = refer_to line place
    value_in None = wrong FaultKind.Undefined line
value_at_entity line entity subscripts = element_at line entity subscripts >>= refer_to line

-- References to all elements.
abbrev pub whole_values : ℕ → Entity → Act (List ℤ)
whole_values line entity = whole_of line entity >>= for_each (refer_to line)

-- ---- inquiries about an array, after clause 16.9; the value is wrapped to kind 4

abbrev pub size_of : Bounds → ℤ
size_of bounds = wrapped Kind.K4 (pos (elements_in bounds))

-- an empty dimension has the bounds 1 and 0
abbrev pub low_of : ℤ × ℤ → ℤ
low_of dimension = if extent dimension == 0 then pos 1 else wrapped Kind.K4 dimension.0

abbrev pub high_of : ℤ × ℤ → ℤ
high_of dimension = if extent dimension == 0 then pos 0 else wrapped Kind.K4 dimension.1

abbrev pub extent_of : ℤ × ℤ → ℤ
extent_of dimension = wrapped Kind.K4 (pos (extent dimension))
