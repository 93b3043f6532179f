-- What cells ask of their callers.
use Rattle.std.proofs.Common.{◌≡◌, Bool, true, false, List, Option, Some, None, refl, sym, ◌∙◌, IsTrue, slice_get}
use Rattle.std.proofs.lemmas.Option.{none-some}
use Rattle.std.specs.Prelude.{nat_lt, ℤ, if◌then◌else◌}
use Rattle.dc_int.specs.declared.access.ElementId.{ElementId}
use Rattle.dc_int.specs.declared.variable.Shape.{Shape}
use Rattle.dc_int.specs.Kinds.{value_fits}
use Rattle.dc_int.specs.Shapes.{state_fits}
use Rattle.dc_int.specs.Sorts.{Sort, fitted}
use Rattle.dc_int.proofs.Fits.{fitted-fits}
use Rattle.dc_store.proofs.Declared.{exists_declared}
use Rattle.dc_code.specs.Codes.{CodeLists}
use Rattle.dc_code.specs.Reaching.{sort_of_shape, element_sort}

-- A value that is fitted to the sort of an element fits the element.
fitted-state : (code : CodeLists) (x : ElementId) (sort : Sort) (z : ℤ) → Some sort ≡ element_sort code x → IsTrue (state_fits code.shapes x (Some (fitted sort z)))
fitted-state code x sort z is = by (slice_get code.shapes x.variable) refl
  where
    by : (found : Option Shape) → slice_get code.shapes x.variable ≡ found → IsTrue (state_fits code.shapes x (Some (fitted sort z)))
    by None e = absurd (none-some sort (sym (is ∙ rw e refl)))
    by (Some shape) e = rw e (within (nat_lt x.position shape.elements) (is ∙ rw e refl))
      where
        within : (b : Bool) → Some sort ≡ (if b then Some (sort_of_shape shape) else None) → IsTrue (value_fits shape.kind shape.logical (fitted sort z))
        within true same = let e : sort ≡ sort_of_shape shape = cc same in rw e (fitted-fits shape.logical shape.kind z)
        within false same = absurd (none-some sort (sym same))

-- The same of cells that have the shapes of the code.
pub fitted_held : (held : List Shape) (code : CodeLists) (x : ElementId) (shape : Shape) (z w : ℤ)
    → held ≡ code.shapes → Some (sort_of_shape shape) ≡ element_sort code x → w ≡ fitted (sort_of_shape shape) z → IsTrue (state_fits held x (Some w))
fitted_held held code x shape z w same is value = rw (same, value) (fitted-state code x (sort_of_shape shape) z is)

pub ruleset asking = (exists_declared, fitted_held)
