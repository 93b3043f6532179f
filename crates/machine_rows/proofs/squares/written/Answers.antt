use Rattle.std.proofs.Common.{◌≡◌, ℕ, ◌<◌, List, Some, IsTrue, slice_get, sym, arith}
use Rattle.std.specs.Prelude.{nat_lt}
use Rattle.std.proofs.lemmas.Bool.Decides.{nat_tests}
use Rattle.dc_int.specs.declared.variable.Shape.{Shape}
use Rattle.dc_store.specs.Shaped.{has_element}
use Rattle.dc_store.proofs.Declared.{exists_declared}
use Rattle.machine_rows.proofs.squares.written.Goals as goal

-- The first variable has the elements that its shape says.
first-has : (shapes : List Shape) (shape : Shape) (position : ℕ) → slice_get shapes 0 ≡ Some shape → position < shape.elements
    → IsTrue (has_element shapes (record { variable = 0; position = position }))
first-has shapes shape position is below = rw is (within position shape.elements below)
  where
    within : (position count : ℕ) → position < count → IsTrue (nat_lt position count)
    within position count below = grind (arith, nat_tests)

pub get-requires : goal.get-requires
get-requires c =
    let shapes = c.args.code.now.shapes in
    let shape = c.in-Some.shape in
    let first : slice_get shapes 0 ≡ Some shape = sym c.in-Some.ensures in
    let has = first-has shapes shape c.loop-position.position first c.loop-position-test.true in
    exists_declared shapes c.loop-position.cells.store.now.store (record { variable = 0; position = c.loop-position.position }) c.loop-position.invariant.ready.fits has
