-- The tests of SELECT CASE leave a truth.
use Rattle.std.proofs.Common.{◌≡◌, ℕ, zero, suc, true, false, List, [], ◌∷◌, ◌++◌, Option, Some, None, refl}
use Rattle.std.specs.Prelude.{ℤ, pos, negsuc}
use Rattle.std.specs.List.{list_all}
use Rattle.dc_int.specs.declared.kind.Kind.{Kind}
use Rattle.dc_int.specs.Sorts.{Sort, whole, logical}
use Rattle.dc_code.specs.declared.instr.Relation.{Relation}
use Rattle.dc_code.specs.declared.instr.What.{What}
use Rattle.dc_code.specs.StackSorts as items
use Rattle.dc_code.specs.StackSorts.{a_truth, Sorts}
use Rattle.dc_tree.specs.Entities.{Scope}
use Rattle.dc_tree.specs.Statements.{CaseRange, only, from, up_to, between}
use Rattle.dc_tree.specs.Syntax.{Tree}
use Rattle.dc_tree.specs.Typing.{constant_value, sort_of}
use Rattle.dc_actions.specs.Expressions.{value_code}
use Rattle.dc_actions.specs.Typed.{item_of, is_same_type}
use Rattle.dc_actions.proofs.Facts.{both-true}
use Rattle.dc_actions.proofs.Straight.{Ground, Runs, runs-one, runs-both}
use Rattle.dc_actions.proofs.RunsOfNames.{Fits, const-runs, truth-runs}
use Rattle.dc_actions.proofs.RunsOfValues.{value-runs}
use Rattle.dc_flows.specs.Flows.{keep_code, fetch_code, bound_code, truth_code, range_code, further_range_code, further_ranges_code, ranges_code, selector_sort, selector_code}
use Rattle.dc_flows.specs.FlowsLowered.{is_usable_test}
use Rattle.dc_flows.specs.FlowsTyped.{is_held_constant, range_is_typed, selector_is_typed}
use Rattle.dc_flows.proofs.StandScalars.{IsScalar, keep-own, fetch-runs}

module _ (ground : Ground) (group : ℕ) where
  -- ---- one range

  bound-runs : (its_kind : Kind) (relation : Relation) (bound : Option ℤ) → IsScalar ground group (whole its_kind) → is_held_constant bound ≡ true → (below : Sorts)
      → Runs ground below (bound_code group relation bound) (a_truth ∷ below)
  bound-runs its_kind relation None scalar held below = truth-runs ground below false
  bound-runs its_kind relation (Some z) scalar held below =
      runs-both ground below (items.number its_kind ∷ below) (a_truth ∷ below) (fetch_code group) (What.Const Kind.K8 z ∷ What.Compare relation ∷ [])
      (fetch-runs ground group (whole its_kind) scalar below)
      (runs-both ground (items.number its_kind ∷ below) (items.number Kind.K8 ∷ items.number its_kind ∷ below) (a_truth ∷ below) (What.Const Kind.K8 z ∷ []) (What.Compare relation ∷ [])
      (const-runs ground (items.number its_kind ∷ below) Kind.K8 z held)
      (runs-one ground (items.number Kind.K8 ∷ items.number its_kind ∷ below) (a_truth ∷ below) (What.Compare relation) refl (λ last. refl)))

  truth-taken : (given : Option ℤ) → IsScalar ground group logical → (below : Sorts) → Runs ground below (truth_code group given) (a_truth ∷ below)
  truth-taken (Some (pos zero)) scalar below =
      runs-both ground below (a_truth ∷ below) (a_truth ∷ below) (fetch_code group) (What.Not ∷ []) (fetch-runs ground group logical scalar below)
      (runs-one ground (a_truth ∷ below) (a_truth ∷ below) What.Not refl (λ last. refl))
  truth-taken (Some (pos (suc zero))) scalar below = fetch-runs ground group logical scalar below
  truth-taken (Some (pos (suc (suc n)))) scalar below = truth-runs ground below false
  truth-taken (Some (negsuc n)) scalar below = truth-runs ground below false
  truth-taken None scalar below = truth-runs ground below false

  -- Two truths and what joins them.
  joined-truths : (first second : List What) (what : What) → ((below : Sorts) → Runs ground below first (a_truth ∷ below)) → ((below : Sorts) → Runs ground below second (a_truth ∷ below))
      → ((below : Sorts) → Runs ground (a_truth ∷ a_truth ∷ below) (what ∷ []) (a_truth ∷ below)) → (below : Sorts) → Runs ground below (first ++ (second ++ what ∷ [])) (a_truth ∷ below)
  joined-truths first second what one other joins below =
      runs-both ground below (a_truth ∷ below) (a_truth ∷ below) first (second ++ what ∷ []) (one below)
      (runs-both ground (a_truth ∷ below) (a_truth ∷ a_truth ∷ below) (a_truth ∷ below) second (what ∷ []) (other (a_truth ∷ below)) (joins below))

  range-runs : (scope : Scope) (sort : Sort) (range : CaseRange) → IsScalar ground group sort → range_is_typed scope sort range ≡ true → (below : Sorts)
      → Runs ground below (range_code scope group sort range) (a_truth ∷ below)
  range-runs scope logical (only tree) scalar typed below = truth-taken (constant_value scope tree) scalar below
  range-runs scope logical (from low) scalar typed below = truth-runs ground below false
  range-runs scope logical (up_to high) scalar typed below = truth-runs ground below false
  range-runs scope logical (between low high) scalar typed below = truth-runs ground below false
  range-runs scope (whole its_kind) (only tree) scalar typed below =
      bound-runs its_kind Relation.Eq (constant_value scope tree) scalar (both-true {a = is_same_type (whole its_kind) (sort_of scope tree)} typed).1 below
  range-runs scope (whole its_kind) (from low) scalar typed below =
      bound-runs its_kind Relation.Ge (constant_value scope low) scalar (both-true {a = is_same_type (whole its_kind) (sort_of scope low)} typed).1 below
  range-runs scope (whole its_kind) (up_to high) scalar typed below =
      bound-runs its_kind Relation.Le (constant_value scope high) scalar (both-true {a = is_same_type (whole its_kind) (sort_of scope high)} typed).1 below
  range-runs scope (whole its_kind) (between low high) scalar typed below =
      let both = both-true typed in
      joined-truths (bound_code group Relation.Ge (constant_value scope low)) (bound_code group Relation.Le (constant_value scope high)) What.And
      (bound-runs its_kind Relation.Ge (constant_value scope low) scalar (both-true {a = is_same_type (whole its_kind) (sort_of scope low)} both.0).1)
      (bound-runs its_kind Relation.Le (constant_value scope high) scalar (both-true {a = is_same_type (whole its_kind) (sort_of scope high)} both.1).1)
      (λ sorts. runs-one ground (a_truth ∷ a_truth ∷ sorts) (a_truth ∷ sorts) What.And refl (λ last. refl)) below

  -- ---- all ranges

  further-runs : (scope : Scope) (sort : Sort) (ranges : List CaseRange) → IsScalar ground group sort → list_all (range_is_typed scope sort) ranges ≡ true → (below : Sorts)
      → Runs ground (a_truth ∷ below) (further_ranges_code scope group sort ranges) (a_truth ∷ below)
  further-runs scope sort [] scalar typed below = refl
  further-runs scope sort (range ∷ ranges) scalar typed below =
      runs-both ground (a_truth ∷ below) (a_truth ∷ below) (a_truth ∷ below) (further_range_code scope group sort range) (further_ranges_code scope group sort ranges)
      (runs-both ground (a_truth ∷ below) (a_truth ∷ a_truth ∷ below) (a_truth ∷ below) (range_code scope group sort range) (What.Or ∷ [])
      (range-runs scope sort range scalar (both-true typed).0 (a_truth ∷ below)) (runs-one ground (a_truth ∷ a_truth ∷ below) (a_truth ∷ below) What.Or refl (λ last. refl)))
      (further-runs scope sort ranges scalar (both-true typed).1 below)

  pub ranges-runs : (scope : Scope) (sort : Sort) (ranges : List CaseRange) → IsScalar ground group sort → list_all (range_is_typed scope sort) ranges ≡ true → (below : Sorts)
      → Runs ground below (ranges_code scope group sort ranges) (a_truth ∷ below)
  ranges-runs scope sort ranges scalar typed below =
      runs-both ground below (a_truth ∷ below) (a_truth ∷ below) (What.Truth false ∷ []) (further_ranges_code scope group sort ranges) (truth-runs ground below false)
      (further-runs scope sort ranges scalar typed below)

  -- ---- the selector

  pub selector-runs : (scope : Scope) → Fits ground scope → (found : Option Tree) → IsScalar ground group (selector_sort scope found) → is_usable_test scope found ≡ true
      → selector_is_typed scope found ≡ true → (below : Sorts) → Runs ground below (selector_code scope group found) below
  selector-runs scope fits (Some tree) scalar so typed below =
      runs-both ground below (item_of (sort_of scope tree) ∷ below) below (value_code scope tree) (keep_code group) (value-runs ground scope fits tree below so typed)
      (keep-own ground group (sort_of scope tree) scalar below)
  selector-runs scope fits None scalar so typed below =
      runs-both ground below (items.number Kind.K4 ∷ below) below (What.Const Kind.K4 (pos 0) ∷ []) (keep_code group) (const-runs ground below Kind.K4 (pos 0) refl)
      (keep-own ground group (whole Kind.K4) scalar below)
