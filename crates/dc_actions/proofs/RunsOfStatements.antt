-- The instructions of assignments leave nothing on the stack.
use Rattle.std.proofs.Common.{◌≡◌, ◌≤◌, ◌<◌, ℕ, zero, suc, ◌+◌, ◌/◌, ◌%◌, Bool, true, false, ◌&&◌, cond, List, [], ◌∷◌, ◌++◌, length, map, Option, Some, None, refl, sym, ap, ◌∙◌, subst, arith, append_assoc}
use Rattle.std.specs.Prelude.{ℤ, pos, ◌+ℤ◌, ◌<ℤ◌, nat_lt, option_map, option_and_then, slice_get}
use Rattle.std.specs.List.{list_all}
use Rattle.std.proofs.Math.Nat.{mod-lt, div-lt_iff_lt-mul}
use Rattle.std.proofs.lemmas.Bool.{false≢true, cond-true, ltb-false, le-leb, eqb-true}
use Rattle.std.proofs.lemmas.Int.{ints}
use Rattle.dc_int.specs.declared.kind.Kind.{Kind}
use Rattle.dc_int.specs.Kinds.{bits_of, is_of_kind}
use Rattle.dc_int.specs.Sorts.{Sort, whole, logical}
use Rattle.dc_int.specs.Store.{Bounds, extent, elements_in}
use Rattle.dc_int.proofs.Wraps.{is_of_kind-holds, is_of_kind-true}
use Rattle.dc_code.specs.declared.instr.What.{What}
use Rattle.dc_code.specs.declared.plan.Group.{Group}
use Rattle.dc_code.specs.StackSorts as items
use Rattle.dc_code.specs.StackSorts.{ItemSort, in_variable, in_group, Sorts, value_sort, variable_sort, group_sort, group_rank, serves, without_sort}
use Rattle.dc_code.specs.WellFormed.{PartOf, main, procedure, header, mask, body, may_change}
use Rattle.dc_tree.specs.Entities.{Entity, outside, Scope, entity}
use Rattle.dc_tree.specs.Statements.{Name}
use Rattle.dc_tree.specs.Syntax.{Tree}
use Rattle.dc_tree.specs.Typing.{sort_of, sort_of_entity}
use Rattle.dc_actions.specs.Assigning.{each_code, conversion_code, storing_code, assigned_code, slot_code, keeping_code, element_code, handing_code, filling_code, kept_group, all_usable, takes_values, takes_list}
use Rattle.dc_actions.specs.Expressions.{value_code, is_usable, is_number}
use Rattle.dc_actions.specs.Typed.{are_held_bounds, item_of, is_same_type, is_typed_number, subscripts_typed, is_typed_value}
use Rattle.dc_actions.specs.Subscripts.{subscripts_at}
use Rattle.dc_actions.proofs.Facts.{both-hold, both-true}
use Rattle.dc_actions.proofs.Straight.{can_stand, Ground, Runs, runs-step, runs-one, runs-both}
use Rattle.dc_actions.proofs.RunsOfNames.{Fits, stacked, const-runs, wrap-runs, subscript-runs, variable-sort, kind-serves, item-serves, positioned, exchange, position-taken, slot-taken, all-off}
use Rattle.dc_actions.proofs.RunsOfValues.{value-runs}
use Rattle.dc_actions.proofs.Subscripts.{below, some_extent, as_many_subscripts}

-- ---- conversions

pub record Converts (ground : Ground) (given taken : Sort) (below : Sorts) : Type 0 where
  pub left : Sort
  pub fit : serves (item_of taken) (item_of left) ≡ true
  pub runs : Runs ground (item_of given ∷ below) (conversion_code given taken) (item_of left ∷ below)

pub conversion-runs : (ground : Ground) (given taken : Sort) (below : Sorts) → is_same_type taken given ≡ true → Converts ground given taken below
conversion-runs ground (whole given) (whole taken) below so = by (nat_lt (bits_of taken) (bits_of given)) refl
  where
    by : (wider : Bool) → nat_lt (bits_of taken) (bits_of given) ≡ wider → Converts ground (whole given) (whole taken) below
    by true e = record {
      left = whole taken;
      fit = kind-serves taken;
      runs = subst (λ wider. Runs ground (items.number given ∷ below) (cond wider (What.Wrap taken ∷ []) []) (items.number taken ∷ below)) (sym e) (wrap-runs ground below taken given);
    }
    by false e = record {
      left = whole given;
      fit = le-leb (bits_of given) (bits_of taken) (ltb-false (bits_of taken) (bits_of given) e);
      runs = subst (λ wider. Runs ground (items.number given ∷ below) (cond wider (What.Wrap taken ∷ []) []) (items.number given ∷ below)) (sym e) refl;
    }
conversion-runs ground logical logical below so = record { left = logical; fit = refl; runs = refl }
conversion-runs ground (whole given) logical below so = absurd (false≢true so)
conversion-runs ground logical (whole taken) below so = absurd (false≢true so)

-- A value and its conversion.
converted-runs : (ground : Ground) (scope : Scope) → Fits ground scope → (tree : Tree) (taken : Sort) (below : Sorts) → is_usable scope tree ≡ true → is_typed_value scope taken tree ≡ true
    → (left : Sort) × ((serves (item_of taken) (item_of left) ≡ true) × Runs ground below (value_code scope tree ++ conversion_code (sort_of scope tree) taken) (item_of left ∷ below))
converted-runs ground scope fits tree taken below so typed =
    let converts = conversion-runs ground (sort_of scope tree) taken below (both-true typed).1 in (
      converts.left,
      (
        converts.fit,
        runs-both ground below (item_of (sort_of scope tree) ∷ below) (item_of converts.left ∷ below) (value_code scope tree) (conversion_code (sort_of scope tree) taken)
            (value-runs ground scope fits tree below so (both-true typed).0) converts.runs,
      ),
    )

-- ---- storing

pub served : (found : Option ItemSort) (wanted given : ItemSort) (below : Sorts) → found ≡ Some wanted → serves wanted given ≡ true → without_sort found (given ∷ below) ≡ Some below
served found wanted given below e fit = ap (λ asked. without_sort asked (given ∷ below)) e ∙ cond-true (serves wanted given) (Some below) None fit

can-store : (kind : PartOf) (variable : ℕ) → may_change kind (Some variable) ≡ true → can_stand kind (What.Store variable) ≡ true
can-store main variable e = refl
can-store procedure variable e = e
can-store (header construct) variable e = e
can-store (mask construct) variable e = e
can-store (body construct) variable e = both-hold e refl

can-fill : (kind : PartOf) (variable : ℕ) → may_change kind (Some variable) ≡ true → can_stand kind (What.Fill variable) ≡ true
can-fill main variable e = refl
can-fill procedure variable e = e
can-fill (header construct) variable e = e
can-fill (mask construct) variable e = e
can-fill (body construct) variable e = both-hold e refl

-- All variables can be changed.
abbrev pub Changes : Ground → Type 0
Changes ground = (variable : ℕ) → may_change ground.kind (Some variable) ≡ true

pub store-runs : (ground : Ground) (scope : Scope) → Fits ground scope → Changes ground → (text : Name) (variable : ℕ) (sort : Sort) (bounds : Bounds) → entity scope text ≡ outside variable sort bounds
    → (given : ItemSort) (below : Sorts) → serves (item_of sort) given ≡ true → Runs ground (in_variable variable ∷ given ∷ below) (What.Store variable ∷ []) below
store-runs ground scope fits changeable text variable sort bounds e given below fit =
    runs-step ground (in_variable variable ∷ given ∷ below) below below (What.Store variable) [] (can-store ground.kind variable (changeable variable))
    (λ last. ap (option_and_then (without_sort (variable_sort ground.code variable))) (position-taken variable (given ∷ below))
    ∙ served (variable_sort ground.code variable) (item_of sort) given below (variable-sort ground scope fits text variable sort bounds e) fit)
    refl

-- ---- subscripts

abbrev sorts_of_trees : Scope → List Tree → List Sort
sorts_of_trees scope trees = map (sort_of scope) trees

each-runs : (ground : Ground) (scope : Scope) → Fits ground scope → (trees : List Tree) (below : Sorts) → all_usable scope trees ≡ true → list_all (is_typed_number scope) trees ≡ true
    → Runs ground below (each_code scope trees) (stacked (sorts_of_trees scope trees) below)
each-runs ground scope fits [] below so typed = refl
each-runs ground scope fits (tree ∷ trees) below so typed =
    runs-both ground below (item_of (sort_of scope tree) ∷ below) (stacked (sorts_of_trees scope trees) (item_of (sort_of scope tree) ∷ below)) (value_code scope tree) (each_code scope trees)
    (value-runs ground scope fits tree below (both-true so).0 (both-true (both-true typed).0).0)
    (each-runs ground scope fits trees (item_of (sort_of scope tree) ∷ below) (both-true so).1 (both-true typed).1)

numbers-typed : (scope : Scope) (trees : List Tree) → list_all (is_typed_number scope) trees ≡ true → list_all is_number (sorts_of_trees scope trees) ≡ true
numbers-typed scope [] typed = refl
numbers-typed scope (tree ∷ trees) typed = both-hold (both-true (both-true typed).0).1 (numbers-typed scope trees (both-true typed).1)

sorts-length : (scope : Scope) (trees : List Tree) → length trees ≡ length (sorts_of_trees scope trees)
sorts-length scope [] = refl
sorts-length scope (tree ∷ trees) = ap suc (sorts-length scope trees)

-- ---- assignments

storing-runs : (ground : Ground) (scope : Scope) → Fits ground scope → Changes ground → (text : Name) (variable : ℕ) (sort : Sort) (bounds : Bounds) → entity scope text ≡ outside variable sort bounds
    → (subscripts : Option (List Tree)) (given : ItemSort) (below : Sorts) → serves (item_of sort) given ≡ true → takes_values scope (outside variable sort bounds) subscripts ≡ true
    → subscripts_typed scope subscripts ≡ true → Runs ground (given ∷ below) (storing_code scope (outside variable sort bounds) subscripts) below
storing-runs ground scope fits changeable text variable sort bounds e None given below fit so typed =
    runs-step ground (given ∷ below) below below (What.Fill variable) [] (can-fill ground.kind variable (changeable variable))
    (λ last. served (variable_sort ground.code variable) (item_of sort) given below (variable-sort ground scope fits text variable sort bounds e) fit) refl
storing-runs ground scope fits changeable text variable sort bounds e (Some trees) given below fit so typed =
    runs-both ground (given ∷ below) (stacked (sorts_of_trees scope trees) (given ∷ below)) below (each_code scope trees) (What.Subscript variable ∷ What.Store variable ∷ [])
    (each-runs ground scope fits trees (given ∷ below) (both-true so).1 typed)
    (runs-both ground (stacked (sorts_of_trees scope trees) (given ∷ below)) (in_variable variable ∷ given ∷ below) below (What.Subscript variable ∷ []) (What.Store variable ∷ [])
    (subscript-runs ground scope fits text variable sort bounds e (stacked (sorts_of_trees scope trees) (given ∷ below)) (given ∷ below)
    (all-off (sorts_of_trees scope trees) (length bounds) (given ∷ below) (eqb-true (length bounds) (length trees) (both-true so).0 ∙ sorts-length scope trees) (numbers-typed scope trees typed)))
    (store-runs ground scope fits changeable text variable sort bounds e given below fit))

pub assigned-runs : (ground : Ground) (scope : Scope) → Fits ground scope → Changes ground → (text : Name) (found : Entity) (subscripts : Option (List Tree)) (tree : Tree) (below : Sorts)
    → entity scope text ≡ found → (is_usable scope tree && takes_values scope found subscripts) ≡ true
    → (is_typed_value scope (sort_of_entity found) tree && subscripts_typed scope subscripts) ≡ true → Runs ground below (assigned_code scope found subscripts tree) below
assigned-runs ground scope fits changeable text (outside variable sort bounds) subscripts tree below e so typed =
    let given = converted-runs ground scope fits tree sort below (both-true so).0 (both-true typed).0 in
    subst (λ whats. Runs ground below whats below)
    (append_assoc (value_code scope tree) (conversion_code (sort_of scope tree) sort) (storing_code scope (outside variable sort bounds) subscripts))
    (runs-both ground below (item_of given.0 ∷ below) below (value_code scope tree ++ conversion_code (sort_of scope tree) sort) (storing_code scope (outside variable sort bounds) subscripts)
    (given.1).1
    (storing-runs ground scope fits changeable text variable sort bounds e subscripts (item_of given.0) below (given.1).0 (both-true so).1 (both-true typed).1))
assigned-runs ground scope fits changeable text found subscripts tree below e so typed = absurd (false≢true (both-true {a = is_usable scope tree} so).1)

-- ---- lists of values

-- A group of so many values of a sort.
pub record IsKept (ground : Ground) (group : ℕ) (sort : Sort) : Type 0 where
  pub sorted : group_sort ground.plan group ≡ Some (item_of sort)
  pub ranked : group_rank ground.plan group ≡ Some 1

pub kept-there : (ground : Ground) (group : ℕ) (sort : Sort) (count : ℕ) → slice_get ground.plan.groups group ≡ Some (kept_group sort count) → IsKept ground group sort
kept-there ground group (whole kind) count e = record {
  sorted = ap (option_map (λ (found : Group). value_sort found.kind found.logical)) e;
  ranked = ap (option_map (λ (found : Group). length found.bounds)) e;
}
kept-there ground group logical count e = record {
  sorted = ap (option_map (λ (found : Group). value_sort found.kind found.logical)) e;
  ranked = ap (option_map (λ (found : Group). length found.bounds)) e;
}

small-fits : (n : ℕ) → n ≤ 4194304 → is_of_kind Kind.K4 (pos n) ≡ true
small-fits n small = is_of_kind-holds Kind.K4 (pos n) (omega (arith, ints), omega (arith, ints, small))

slot-runs : (ground : Ground) (group : ℕ) (sort : Sort) → IsKept ground group sort → (before : ℕ) (below : Sorts) → before < 4194304 → Runs ground below (slot_code group before) (in_group group ∷ below)
slot-runs ground group sort kept before below small =
    runs-both ground below (items.number Kind.K4 ∷ below) (in_group group ∷ below) (What.Const Kind.K4 (pos (suc before)) ∷ []) (What.SubscriptSlot group ∷ [])
    (const-runs ground below Kind.K4 (pos (suc before)) (small-fits (suc before) (omega (arith, small))))
    (runs-one ground (items.number Kind.K4 ∷ below) (in_group group ∷ below) (What.SubscriptSlot group) refl
    (λ last. positioned (group_rank ground.plan group) 1 (in_group group) (items.number Kind.K4 ∷ below) below kept.ranked refl))

store-slot-runs : (ground : Ground) (group : ℕ) (sort : Sort) → IsKept ground group sort → (given : ItemSort) (below : Sorts) → serves (item_of sort) given ≡ true
    → Runs ground (in_group group ∷ given ∷ below) (What.StoreSlot group ∷ []) below
store-slot-runs ground group sort kept given below fit =
    runs-one ground (in_group group ∷ given ∷ below) below (What.StoreSlot group) refl
    (λ last. ap (option_and_then (without_sort (group_sort ground.plan group))) (slot-taken group (given ∷ below)) ∙ served (group_sort ground.plan group) (item_of sort) given below kept.sorted fit)

keeping-runs : (ground : Ground) (scope : Scope) → Fits ground scope → (group : ℕ) (sort : Sort) → IsKept ground group sort → (before : ℕ) (trees : List Tree) (below : Sorts)
    → before + length trees ≤ 4194304 → all_usable scope trees ≡ true → list_all (is_typed_value scope sort) trees ≡ true
    → Runs ground below (keeping_code scope sort group before trees) below
keeping-runs ground scope fits group sort kept before [] below small so typed = refl
keeping-runs ground scope fits group sort kept before (tree ∷ trees) below small so typed =
    let given = converted-runs ground scope fits tree sort below (both-true so).0 (both-true typed).0 in
    let others = keeping_code scope sort group (suc before) trees in
    subst (λ whats. Runs ground below whats below)
    (append_assoc (value_code scope tree) (conversion_code (sort_of scope tree) sort) (slot_code group before ++ (What.StoreSlot group ∷ others)))
    (runs-both ground below (item_of given.0 ∷ below) below (value_code scope tree ++ conversion_code (sort_of scope tree) sort) (slot_code group before ++ (What.StoreSlot group ∷ others))
    (given.1).1
    (runs-both ground (item_of given.0 ∷ below) (in_group group ∷ item_of given.0 ∷ below) below (slot_code group before) (What.StoreSlot group ∷ others)
    (slot-runs ground group sort kept before (item_of given.0 ∷ below) (omega (arith, small)))
    (runs-both ground (in_group group ∷ item_of given.0 ∷ below) below below (What.StoreSlot group ∷ []) others
    (store-slot-runs ground group sort kept (item_of given.0) below (given.1).0)
    (keeping-runs ground scope fits group sort kept (suc before) trees below (omega (arith, small)) (both-true so).1 (both-true typed).1))))

-- ---- the subscripts of an element

subscript-fits : (low high : ℤ) (n : ℕ) → n < extent (low, high) → is_of_kind Kind.K8 low ≡ true → is_of_kind Kind.K8 high ≡ true → is_of_kind Kind.K8 (low +ℤ pos n) ≡ true
subscript-fits low high n within first last =
    let before : (low +ℤ pos n) <ℤ (high +ℤ pos 1) = below low (high +ℤ pos 1) n within in
    let a = is_of_kind-true Kind.K8 low first in
    let b = is_of_kind-true Kind.K8 high last in
    let least = a.0 in
    let greatest = b.1 in
    is_of_kind-holds Kind.K8 (low +ℤ pos n) (omega (arith, ints, least), omega (arith, ints, before, greatest))

subscripts-fit : (bounds : Bounds) (at : ℕ) → are_held_bounds bounds ≡ true → at < elements_in bounds → list_all (is_of_kind Kind.K8) (subscripts_at bounds at) ≡ true
subscripts-fit [] at held within = refl
subscripts-fit ((low, high) ∷ bounds) at held within =
    let size : ℕ = extent (low, high) in
    let some : 0 < size = some_extent size (elements_in bounds) at within in
    both-hold (subscript-fits low high (at % size) (mod-lt at some) (both-true (both-true held).0).0 (both-true (both-true held).0).1)
    (subscripts-fit bounds (at / size) (both-true held).1 ((div-lt_iff_lt-mul some).1 (omega (arith, within))))

abbrev eights : List ℤ → List Sort
eights zs = map (λ z. whole Kind.K8) zs

consts-runs : (ground : Ground) (zs : List ℤ) (below : Sorts) → list_all (is_of_kind Kind.K8) zs ≡ true → Runs ground below (map (λ z. What.Const Kind.K8 z) zs) (stacked (eights zs) below)
consts-runs ground [] below fit = refl
consts-runs ground (z ∷ zs) below fit =
    runs-both ground below (items.number Kind.K8 ∷ below) (stacked (eights zs) (items.number Kind.K8 ∷ below)) (What.Const Kind.K8 z ∷ []) (map (λ z. What.Const Kind.K8 z) zs)
    (const-runs ground below Kind.K8 z (both-true fit).0) (consts-runs ground zs (items.number Kind.K8 ∷ below) (both-true fit).1)

eights-numbers : (zs : List ℤ) → list_all is_number (eights zs) ≡ true
eights-numbers [] = refl
eights-numbers (z ∷ zs) = eights-numbers zs

eights-length : (zs : List ℤ) → length zs ≡ length (eights zs)
eights-length [] = refl
eights-length (z ∷ zs) = ap suc (eights-length zs)

element-runs : (ground : Ground) (scope : Scope) → Fits ground scope → (text : Name) (variable : ℕ) (sort : Sort) (bounds : Bounds) → entity scope text ≡ outside variable sort bounds
    → are_held_bounds bounds ≡ true → (at : ℕ) (below : Sorts) → at < elements_in bounds → Runs ground below (element_code variable bounds at) (in_variable variable ∷ below)
element-runs ground scope fits text variable sort bounds e held at below within =
    let zs = subscripts_at bounds at in
    runs-both ground below (stacked (eights zs) below) (in_variable variable ∷ below) (map (λ z. What.Const Kind.K8 z) zs) (What.Subscript variable ∷ [])
    (consts-runs ground zs below (subscripts-fit bounds at held within))
    (subscript-runs ground scope fits text variable sort bounds e (stacked (eights zs) below) below
    (all-off (eights zs) (length bounds) below (sym (as_many_subscripts bounds at) ∙ eights-length zs) (eights-numbers zs)))

handing-runs : (ground : Ground) (scope : Scope) → Fits ground scope → Changes ground → (text : Name) (variable : ℕ) (sort : Sort) (bounds : Bounds) → entity scope text ≡ outside variable sort bounds
    → are_held_bounds bounds ≡ true → elements_in bounds ≤ 4194304 → (group : ℕ) → IsKept ground group sort → (before count : ℕ) (below : Sorts) → before + count ≤ elements_in bounds
    → Runs ground below (handing_code variable bounds group before count) below
handing-runs ground scope fits changeable text variable sort bounds e held few group kept before zero below within = refl
handing-runs ground scope fits changeable text variable sort bounds e held few group kept before (suc count) below within =
    let others = handing_code variable bounds group (suc before) count in
    runs-both ground below (in_group group ∷ below) below (slot_code group before) (What.LoadSlot group ∷ (element_code variable bounds before ++ (What.Store variable ∷ others)))
    (slot-runs ground group sort kept before below (omega (arith, within, few)))
    (runs-both ground (in_group group ∷ below) (item_of sort ∷ below) below (What.LoadSlot group ∷ []) (element_code variable bounds before ++ (What.Store variable ∷ others))
    (runs-one ground (in_group group ∷ below) (item_of sort ∷ below) (What.LoadSlot group) refl
    (λ last. exchange (group_sort ground.plan group) (item_of sort) (in_group group) (in_group group ∷ below) below kept.sorted (slot-taken group below)))
    (runs-both ground (item_of sort ∷ below) (in_variable variable ∷ item_of sort ∷ below) below (element_code variable bounds before) (What.Store variable ∷ others)
    (element-runs ground scope fits text variable sort bounds e held before (item_of sort ∷ below) (omega (arith, within)))
    (runs-both ground (in_variable variable ∷ item_of sort ∷ below) below below (What.Store variable ∷ []) others
    (store-runs ground scope fits changeable text variable sort bounds e (item_of sort) below (item-serves sort))
    (handing-runs ground scope fits changeable text variable sort bounds e held few group kept (suc before) count below (omega (arith, within))))))

-- The bounds of the variables that names stand for are held, and they have no more elements than a store.
pub record HoldsNames (scope : Scope) : Type 0 where
  pub outer
      : (text : Name) (variable : ℕ) (sort : Sort) (bounds : Bounds) → entity scope text ≡ outside variable sort bounds
      → (are_held_bounds bounds ≡ true) × (elements_in bounds ≤ 4194304)

pub filling-runs : (ground : Ground) (scope : Scope) → Fits ground scope → HoldsNames scope → Changes ground → (text : Name) (found : Entity) (group : ℕ) (trees : List Tree) (below : Sorts)
    → entity scope text ≡ found → slice_get ground.plan.groups group ≡ Some (kept_group (sort_of_entity found) (length trees))
    → (all_usable scope trees && takes_list found (length trees)) ≡ true → list_all (is_typed_value scope (sort_of_entity found)) trees ≡ true
    → Runs ground below (filling_code scope group trees found) below
filling-runs ground scope fits holds changeable text (outside variable sort bounds) group trees below e there so typed =
    let kept = kept-there ground group sort (length trees) there in
    let held = holds.outer text variable sort bounds e in
    let few : elements_in bounds ≤ 4194304 = held.1 in
    let long : length trees ≡ elements_in bounds = eqb-true (length trees) (elements_in bounds) (both-true {a = all_usable scope trees} so).1 in
    runs-both ground below below below (keeping_code scope sort group 0 trees) (handing_code variable bounds group 0 (length trees))
    (keeping-runs ground scope fits group sort kept 0 trees below (omega (arith, few, long)) (both-true so).0 typed)
    (handing-runs ground scope fits changeable text variable sort bounds e held.0 few group kept 0 (length trees) below (omega (arith, long)))
filling-runs ground scope fits holds changeable text found group trees below e there so typed = absurd (false≢true (both-true {a = all_usable scope trees} so).1)
