-- What a loop changes in the store that its iterations leave, where all of them ended well. After
-- ISO/IEC 1539-1:2023, clauses 11.1.7.5 and 19.6.6.
use Rattle.std.specs.Prelude.{ℕ, Bool, true, false, ◌&&◌, ◌||◌, List, [], ◌∷◌, ◌++◌, filter, filter_map, flat_map, map, Option, Some, None, if◌then◌else◌, ℤ}
use Rattle.std.specs.List.{list_any}
use Rattle.dc_int.specs.declared.access.ElementId.{ElementId}
use Rattle.dc_int.specs.declared.kind.Kind.{Kind}
use Rattle.dc_int.specs.declared.operation.ReduceOp.{ReduceOp}
use Rattle.dc_int.specs.declared.variable.Locality.{Locality}
use Rattle.dc_int.specs.Entries.{Entry, Defines, Undefines, Contributes, touches, store_after}
use Rattle.dc_int.specs.Reductions.{combined}
use Rattle.dc_int.specs.Store.{Store, same_element, value_at, elements_of}

-- What is known of the outside variables in a loop, by their numbers: the locality and the kind of each,
-- and whether its contributions pass to a loop around, where it is REDUCE too.
pub record Localities : Type 0 where
  pub locality : ℕ → Locality
  pub kind : ℕ → Kind
  pub passed : ℕ → Bool

-- ---- elements that become undefined

-- Two or more iterations touch the element.
abbrev pub is_touched_twice : ElementId → List (List Entry) → Bool
is_touched_twice x [] = false
is_touched_twice x (one ∷ others) = (touches x one && list_any (touches x) others) || is_touched_twice x others

abbrev pub is_unspecified : Locality → Bool
is_unspecified Locality.Plain = true
is_unspecified locality = false

-- The elements of unspecified locality that two or more iterations touched, in store order.
abbrev pub forgotten : Localities → List (List Entry) → Store → List ElementId
forgotten localities runs store = filter (λ x. is_unspecified (localities.locality x.variable) && is_touched_twice x runs) (elements_of store)

-- ---- elements of reductions

abbrev pub contributed_by : ElementId → Entry → Option ℤ
contributed_by x (Contributes y op value) = if same_element x y then Some value else None
contributed_by x entry = None

-- What the iterations contributed to a REDUCE element, in their order.
abbrev pub contributed : ElementId → List (List Entry) → List ℤ
contributed x runs = flat_map (filter_map (contributed_by x)) runs

-- A value combined with others, one after another.
abbrev pub combined_with : ReduceOp → Kind → ℤ → List ℤ → ℤ
combined_with op kind value [] = value
combined_with op kind value (other ∷ others) = combined_with op kind (combined op kind value other) others

-- The operation of a REDUCE variable whose contributions don't pass to a loop around.
abbrev pub operation_here : Localities → ℕ → Option ReduceOp
operation_here localities variable = if localities.passed variable then None else by (localities.locality variable)
  where
    by : Locality → Option ReduceOp
    by (Locality.Reduce op) = Some op
    by locality = None

-- The definition of a REDUCE element: its value outside combined with all contributions.
abbrev pub reduced : Localities → ℕ → List (List Entry) → Store → ElementId → Option Entry
reduced localities line runs store x = with_operation (operation_here localities x.variable) (value_at store x)
  where
    with_operation : Option ReduceOp → Option ℤ → Option Entry
    with_operation (Some op) (Some value) = Some (Defines x (combined_with op (localities.kind x.variable) value (contributed x runs)) line)
    with_operation op value = None

-- The definitions of the elements of reductions, in store order, where there was an iteration.
abbrev pub reductions : Localities → ℕ → List (List Entry) → Store → List Entry
reductions localities line [] store = []
reductions localities line runs store = filter_map (reduced localities line runs store) (elements_of store)

-- ---- contributions that pass to the loop around

abbrev pub is_contribution_to : ElementId → Entry → Bool
is_contribution_to x (Contributes y op value) = same_element x y
is_contribution_to x entry = false

-- The contributions to one element, where its reduction is that of a loop around, in the order of the runs.
abbrev pub passed_to : Localities → List (List Entry) → ElementId → List Entry
passed_to localities runs x = if localities.passed x.variable then flat_map (filter (is_contribution_to x)) runs else []

-- All of these, the elements in store order.
abbrev pub passed_on : Localities → List (List Entry) → Store → List Entry
passed_on localities runs store = flat_map (passed_to localities runs) (elements_of store)

-- ---- all changes, and the closing store

-- The changes, as entries at the line of the header: what becomes undefined, what passes to the loop
-- around, and the reductions. Each of the three is in store order, and the contributions to one element that
-- pass are in the order of the runs.
abbrev pub changes : Localities → ℕ → List (List Entry) → Store → List Entry
changes localities line runs store =
    map (λ x. Undefines x line) (forgotten localities runs store)
    ++ (passed_on localities runs store ++ reductions localities line runs store)

-- The closing store, of the one that the iterations leave.
abbrev pub closing : Localities → ℕ → List (List Entry) → Store → Store
closing localities line runs store = store_after (changes localities line runs store) store
