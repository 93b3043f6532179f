-- The sorts that are left where values are kept in scalars, and where they are pushed again.
use Rattle.std.proofs.Common.{◌≡◌, ℕ, true, [], ◌∷◌, length, Some, refl, ap, ◌∙◌}
use Rattle.std.specs.Prelude.{option_map, option_and_then, slice_get}
use Rattle.dc_int.specs.Sorts.{Sort, whole, logical}
use Rattle.dc_code.specs.declared.instr.What.{What}
use Rattle.dc_code.specs.declared.plan.Group.{Group}
use Rattle.dc_code.specs.StackSorts.{ItemSort, in_group, Sorts, value_sort, group_sort, group_rank, serves, without_sort}
use Rattle.dc_actions.specs.Typed.{item_of}
use Rattle.dc_actions.proofs.Straight.{Ground, Runs, runs-one, runs-both}
use Rattle.dc_actions.proofs.RunsOfNames.{slot-taken, positioned, exchange, item-serves}
use Rattle.dc_actions.proofs.RunsOfStatements.{served}
use Rattle.dc_flows.specs.Flows.{keep_code, fetch_code, scalar_group}

-- A group is a scalar of a sort.
pub record IsScalar (ground : Ground) (group : ℕ) (sort : Sort) : Type 0 where
  pub sorted : group_sort ground.plan group ≡ Some (item_of sort)
  pub ranked : group_rank ground.plan group ≡ Some 0

pub scalar-there : (ground : Ground) (group : ℕ) (sort : Sort) → slice_get ground.plan.groups group ≡ Some (scalar_group sort) → IsScalar ground group sort
scalar-there ground group (whole its_kind) e = record {
  sorted = ap (option_map (λ (found : Group). value_sort found.kind found.logical)) e;
  ranked = ap (option_map (λ (found : Group). length found.bounds)) e;
}
scalar-there ground group logical e = record {
  sorted = ap (option_map (λ (found : Group). value_sort found.kind found.logical)) e;
  ranked = ap (option_map (λ (found : Group). length found.bounds)) e;
}

module _ (ground : Ground) (group : ℕ) (sort : Sort) (scalar : IsScalar ground group sort) where
  place-runs : (below : Sorts) → Runs ground below (What.SubscriptSlot group ∷ []) (in_group group ∷ below)
  place-runs below =
      runs-one ground below (in_group group ∷ below) (What.SubscriptSlot group) refl
      (λ last. positioned (group_rank ground.plan group) 0 (in_group group) below below scalar.ranked refl)

  -- A value that serves is kept.
  pub keep-runs : (given : ItemSort) (below : Sorts) → serves (item_of sort) given ≡ true → Runs ground (given ∷ below) (keep_code group) below
  keep-runs given below fit =
      runs-both ground (given ∷ below) (in_group group ∷ given ∷ below) below (What.SubscriptSlot group ∷ []) (What.StoreSlot group ∷ []) (place-runs (given ∷ below))
      (runs-one ground (in_group group ∷ given ∷ below) below (What.StoreSlot group) refl
      (λ last. ap (option_and_then (without_sort (group_sort ground.plan group))) (slot-taken group (given ∷ below))
      ∙ served (group_sort ground.plan group) (item_of sort) given below scalar.sorted fit))

  -- One of its sort does.
  pub keep-own : (below : Sorts) → Runs ground (item_of sort ∷ below) (keep_code group) below
  keep-own below = keep-runs (item_of sort) below (item-serves sort)

  pub fetch-runs : (below : Sorts) → Runs ground below (fetch_code group) (item_of sort ∷ below)
  fetch-runs below =
      runs-both ground below (in_group group ∷ below) (item_of sort ∷ below) (What.SubscriptSlot group ∷ []) (What.LoadSlot group ∷ []) (place-runs below)
      (runs-one ground (in_group group ∷ below) (item_of sort ∷ below) (What.LoadSlot group) refl
      (λ last. exchange (group_sort ground.plan group) (item_of sort) (in_group group) (in_group group ∷ below) below scalar.sorted (slot-taken group below)))
