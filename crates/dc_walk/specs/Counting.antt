-- A counted DO, as the walker goes about it. This project's own.
use Rattle.std.specs.Prelude.{[], ◌≡◌, ℤ, pos}
use Rattle.dc_int.specs.declared.access.ElementId.{ElementId}
use Rattle.dc_int.specs.declared.kind.Kind.{Kind}
use Rattle.dc_int.specs.Kinds.{wrapped}
use Rattle.dc_int.specs.Sorts.{whole}
use Rattle.dc_code.specs.Combinations.{Span}
use Rattle.dc_tree.specs.Entities.{Entity, outside}
use Rattle.dc_walk.specs.declared.counting.Scalar.{Scalar}
use Rattle.dc_walk.specs.declared.counting.Steps.{Steps}

-- What a scalar's name stands for, and its one element.
abbrev pub scalar_entity : Scalar → Entity
scalar_entity scalar = outside scalar.number (whole scalar.kind) []

abbrev pub scalar_element : Scalar → ElementId
scalar_element scalar = record { variable = scalar.number; position = 0 }

abbrev pub span_with : Steps → Span
span_with steps = record { first = steps.first; last = steps.last; step = steps.step }

abbrev pub span_at : Kind → ℤ → ℤ → ℤ → Span
span_at kind first last step = record { first = wrapped kind first; last = wrapped kind last; step = wrapped kind step }

abbrev pub IsMoving : Steps → Type 0
IsMoving steps = steps.step ≡ pos 0 → ⊥
