-- Examples of the definitions, each computed.
use Rattle.std.proofs.Common.{◌≡◌, ℕ, List, [], ◌∷◌, true, false, Option, Some, None, refl}
use Rattle.std.specs.Prelude.{ℤ, pos}
use Rattle.dc_int.specs.declared.access.ElementId.{ElementId}
use Rattle.dc_int.specs.declared.kind.Kind.{Kind}
use Rattle.dc_int.specs.declared.operation.ReduceOp.{ReduceOp}
use Rattle.dc_int.specs.declared.variable.Shape.{Shape}
use Rattle.dc_int.specs.Entries.{Reads, Defines, Undefines, Contributes}
use Rattle.dc_int.specs.Shapes.{store_fits}
use Rattle.dc_int.specs.Store.{Variable, put_at}
use Rattle.dc_store.specs.Shaped.{ShapedStore, elements_together, has_element, undefined_store}
use Rattle.dc_store.specs.Whole.{Whole, after_entry}

abbrev element : ℕ → ℕ → ElementId
element variable position = record { variable = variable; position = position }

-- a scalar, two truths, and an array without elements
abbrev shapes : List Shape
shapes =
    record { kind = Kind.K4; logical = false; elements = 1 } ∷ record { kind = Kind.K4; logical = true; elements = 2 }
    ∷ record { kind = Kind.K8; logical = false; elements = 0 }
    ∷ []

-- variables with these cells, and the bounds of so many elements
abbrev variable : ℕ → List (Option ℤ) → Variable
variable elements cells = record { bounds = Some ((pos 1, pos elements) ∷ []); cells = cells }

-- the store where the scalar and the two truths are in these states
abbrev shaped : Option ℤ → Option ℤ → Option ℤ → ShapedStore
shaped scalar first second = record { shapes = shapes; store = variable 1 (scalar ∷ []) ∷ variable 2 (first ∷ second ∷ []) ∷ variable 0 [] ∷ [] }

abbrev whole : Option ℤ → Option ℤ → Option ℤ → Whole
whole scalar first second = record { name = 5; shaped = shaped scalar first second }

pub three_elements : elements_together shapes ≡ 3
three_elements = refl

pub no_elements : elements_together [] ≡ 0
no_elements = refl

pub undefined_at_first : undefined_store shapes ≡ shaped None None None
undefined_at_first = refl

pub undefined_fits : store_fits shapes (shaped None None None).store ≡ true
undefined_fits = refl

pub has_its_last : has_element shapes (element 1 1) ≡ true
has_its_last = refl

pub none_behind_it : has_element shapes (element 1 2) ≡ false
none_behind_it = refl

pub none_of_the_empty : has_element shapes (element 2 0) ≡ false
none_of_the_empty = refl

pub none_of_no_variable : has_element shapes (element 3 0) ≡ false
none_of_no_variable = refl

pub defines_one : after_entry (Defines (element 1 1) (pos 1) 8) (whole (Some (pos 7)) None None) ≡ whole (Some (pos 7)) None (Some (pos 1))
unfolding put_at
defines_one = refl

pub undefines_one : after_entry (Undefines (element 0 0) 8) (whole (Some (pos 7)) None (Some (pos 0))) ≡ whole None None (Some (pos 0))
unfolding put_at
undefines_one = refl

pub reads_nothing_away : after_entry (Reads (element 0 0) 8) (whole (Some (pos 7)) None None) ≡ whole (Some (pos 7)) None None
reads_nothing_away = refl

pub contributes_elsewhere : after_entry (Contributes (element 0 0) ReduceOp.Add (pos 2)) (whole (Some (pos 7)) None None) ≡ whole (Some (pos 7)) None None
contributes_elsewhere = refl
