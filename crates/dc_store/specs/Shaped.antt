-- A store beside the shapes of its variables, and the store with which a run begins. This project's own.
use Rattle.std.specs.Prelude.{ℕ, ◌≤◌, Bool, false, nat_lt, slice_get, List, [], ◌∷◌, map, replicate, sum_by, Option, Some, None, pos, IsTrue}
use Rattle.dc_int.specs.declared.access.ElementId.{ElementId}
use Rattle.dc_int.specs.declared.variable.Shape.{Shape}
use Rattle.dc_int.specs.Shapes.{store_fits}
use Rattle.dc_int.specs.Store.{Bounds, Variable, Store}

-- A store, and the shapes of its variables.
pub record ShapedStore : Type 0 where
  pub shapes : List Shape
  pub store : Store

-- How many elements variables of these shapes have together.
abbrev pub elements_together : List Shape → ℕ
elements_together shapes = sum_by (λ (shape : Shape). shape.elements) shapes

-- There is such an element in a store of these shapes.
abbrev pub has_element : List Shape → ElementId → Bool
has_element shapes x = by (slice_get shapes x.variable)
  where
    by : Option Shape → Bool
    by None = false
    by (Some shape) = nat_lt x.position shape.elements

-- The invariant of stores: each variable fits its shape, and there are no more elements than a program may have.
pub record IsFitting (shaped : ShapedStore) : Type 0 where
  pub fits : IsTrue (store_fits shaped.shapes shaped.store)
  pub few : elements_together shaped.shapes ≤ 4194304

-- So many elements in one dimension, counted from 1.
abbrev pub one_dimension : ℕ → Bounds
one_dimension elements = (pos 1, pos elements) ∷ []

-- A variable of which nothing is defined. Until arrays can be allocated, a variable shows the bounds of its elements in
-- one dimension; the declared bounds stand elsewhere.
abbrev pub undefined_variable : Shape → Variable
undefined_variable shape = record { bounds = Some (one_dimension shape.elements); cells = replicate shape.elements None }

-- The store of these shapes of which nothing is defined.
abbrev pub undefined_store : List Shape → ShapedStore
undefined_store shapes = record { shapes = shapes; store = map undefined_variable shapes }
