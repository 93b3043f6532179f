-- Stores and entries that fit declared variables, and such that don't.
use Rattle.std.proofs.Common.{◌≡◌, List, [], ◌∷◌, Bool, true, false, Option, Some, None, refl}
use Rattle.std.specs.Prelude.{ℤ, pos, neg_ℤ, negsuc}
use Rattle.dc_int.specs.declared.kind.Kind.{Kind}
use Rattle.dc_int.specs.declared.operation.ReduceOp.{ReduceOp}
use Rattle.dc_int.specs.declared.variable.Shape.{Shape}
use Rattle.dc_int.specs.Entries.{Reads, Defines, Undefines, Contributes}
use Rattle.dc_int.specs.Shapes.{store_fits, entry_fits}
use Rattle.dc_int.specs.Store.{Bounds, put_at}
use Rattle.dc_int.proofs.Examples.Store.{element, small}

-- a scalar of kind 4, INTEGER or LOGICAL, three numbers of kind 1, and an array that is not allocated
abbrev shapes : Bool → List Shape
shapes logical =
    record { kind = Kind.K4; logical = logical; elements = 1 }
    ∷ record { kind = Kind.K1; logical = false; elements = 3 }
    ∷ record { kind = Kind.K8; logical = false; elements = 0 }
    ∷ []

pub small_fits : store_fits (shapes false) small ≡ true
small_fits = refl

pub seven_is_no_truth : store_fits (shapes true) small ≡ false
seven_is_no_truth = refl

pub one_is_a_truth : store_fits (shapes true) (put_at small (element 0 0) (Some (pos 1))) ≡ true
unfolding put_at
one_is_a_truth = refl

pub minus_one_is_none : store_fits (shapes true) (put_at small (element 0 0) (Some (negsuc 0))) ≡ false
unfolding put_at
minus_one_is_none = refl

pub undefined_fits_always : store_fits (shapes true) (put_at small (element 0 0) None) ≡ true
unfolding put_at
undefined_fits_always = refl

pub least_of_the_kind : store_fits (shapes false) (put_at small (element 1 2) (Some (neg_ℤ (pos 128)))) ≡ true
unfolding put_at
least_of_the_kind = refl

pub below_the_kind : store_fits (shapes false) (put_at small (element 1 2) (Some (neg_ℤ (pos 129)))) ≡ false
unfolding put_at
below_the_kind = refl

pub above_the_kind : store_fits (shapes false) (put_at small (element 1 0) (Some (pos 128))) ≡ false
unfolding put_at
above_the_kind = refl

-- one array of two elements, by what it has for bounds and cells
abbrev fits_pair : Option Bounds → List (Option ℤ) → Bool
fits_pair bounds cells = store_fits (record { kind = Kind.K2; logical = false; elements = 2 } ∷ []) (record { bounds = bounds; cells = cells } ∷ [])

pub pair_fits : fits_pair (Some ((pos 4, pos 5) ∷ [])) (None ∷ None ∷ []) ≡ true
pair_fits = refl

pub bounds_of_three : fits_pair (Some ((pos 4, pos 6) ∷ [])) (None ∷ None ∷ []) ≡ false
bounds_of_three = refl

pub three_cells : fits_pair (Some ((pos 4, pos 5) ∷ [])) (None ∷ None ∷ None ∷ []) ≡ false
three_cells = refl

pub three_of_both : fits_pair (Some ((pos 4, pos 6) ∷ [])) (None ∷ None ∷ None ∷ []) ≡ false
three_of_both = refl

pub cells_without_bounds : fits_pair None (None ∷ None ∷ []) ≡ false
cells_without_bounds = refl

pub no_store_for_a_shape : store_fits (shapes false) [] ≡ false
no_store_for_a_shape = refl

pub no_shape_for_a_store : store_fits [] small ≡ false
no_shape_for_a_store = refl

pub nothing_declared : store_fits [] [] ≡ true
nothing_declared = refl

-- ---- entries

pub defines_a_truth : entry_fits (shapes true) (Defines (element 0 0) (pos 0) 3) ≡ true
defines_a_truth = refl

pub defines_no_truth : entry_fits (shapes true) (Defines (element 0 0) (pos 2) 3) ≡ false
defines_no_truth = refl

pub defines_out_of_the_kind : entry_fits (shapes false) (Defines (element 1 0) (pos 128) 3) ≡ false
defines_out_of_the_kind = refl

pub defines_where_nothing_is : entry_fits (shapes false) (Defines (element 3 0) (pos 128) 3) ≡ true
defines_where_nothing_is = refl

pub undefines : entry_fits (shapes true) (Undefines (element 0 0) 3) ≡ true
undefines = refl

pub reads : entry_fits (shapes true) (Reads (element 0 0) 3) ≡ true
reads = refl

-- what is contributed changes the store only by the definition that comes of it
pub contributes : entry_fits (shapes true) (Contributes (element 0 0) ReduceOp.Add (pos 7)) ≡ true
contributes = refl
