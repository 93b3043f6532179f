-- Values that are kept in scalars, which are added for a statement.
use Rattle.std.proofs.Common.{◌≡◌, ◌<◌, ◌≤◌, ℕ, zero, suc, ◌+◌, List, [], ◌∷◌, length, Some, refl, sym, ap, ◌∙◌, subst, arith}
use Rattle.std.proofs.lemmas.Int.{ints, int_wrap_fits}
use Rattle.std.specs.Prelude.{ℤ, pos, slice_get}
use Rattle.dc_int.specs.declared.kind.Kind.{Kind}
use Rattle.dc_int.specs.Kinds.{InRange, width, wrapped}
use Rattle.dc_int.specs.Sorts.{Sort, whole, logical, fitted}
use Rattle.dc_int.specs.Store.{Bounds, elements_in}
use Rattle.dc_int.proofs.Wraps.{in_range_fits}
use Rattle.dc_code.specs.declared.frame.Item.{Item}
use Rattle.dc_code.specs.declared.instr.What.{What}
use Rattle.dc_code.specs.declared.plan.Group.{Group}
use Rattle.dc_code.specs.Codes.{CodeLists}
use Rattle.dc_code.specs.Frames.{Frame, pushed}
use Rattle.dc_code.specs.Instructions.{Going, behind, greatest_rounds}
use Rattle.dc_code.specs.Reaching.{positioned, group_planned, group_bounds, group_slots, group_sort, fitted_to}
use Rattle.dc_tree.specs.Entities.{Scope}
use Rattle.dc_actions.specs.Placed.{StandAt, HaveKept, Alike}
use Rattle.dc_actions.proofs.FillingLaws.{held_at, slot-sort, load-law}
use Rattle.dc_actions.proofs.Going.{GoesAs}
use Rattle.dc_actions.proofs.Kept.{put_slot, put-alike, put-there, alike-planned, alike-slot}
use Rattle.dc_actions.proofs.OperatorLaws.{plus-none}
use Rattle.dc_actions.proofs.Placing.{stand-rest, stepped}
use Rattle.dc_flows.specs.Flows.{keep_code, fetch_code, scalar_group}

scalar-sort : (sort : Sort) → group_sort (Some (scalar_group sort)) ≡ Some sort
scalar-sort (whole its_kind) = refl
scalar-sort logical = refl

scalar-bounds : (sort : Sort) → (scalar_group sort).bounds ≡ []
scalar-bounds (whole its_kind) = refl
scalar-bounds logical = refl

-- A frame has a scalar of a sort, as a group of the innermost unit.
pub record HasScalar (code : CodeLists) (frame : Frame) (group : ℕ) (sort : Sort) : Type 0 where
  pub planned : group_planned code frame group ≡ Some (scalar_group sort)
  pub room : 0 < length (group_slots frame group)

-- Such a group is one of those that are added for a statement.
pub kept-scalar : {code : CodeLists} {scope : Scope} {frame : Frame} {free : ℕ} {groups : List Group} (i : ℕ) (sort : Sort) → HaveKept code scope frame free groups
    → slice_get groups i ≡ Some (scalar_group sort) → HasScalar code frame (free + i) sort
kept-scalar {frame = frame} {free = free} i sort kept here = record { planned = kept.planned i (scalar_group sort) here; room = enough (length (group_slots frame (free + i))) sized }
  where
    sized : length (group_slots frame (free + i)) ≡ 1
    sized = kept.sized i (scalar_group sort) here ∙ ap elements_in (scalar-bounds sort)

    enough : (n : ℕ) → n ≡ 1 → 0 < n
    enough n e = omega (arith, e)

pub alike-scalar : {code : CodeLists} {free : ℕ} {one other : Frame} {group : ℕ} {sort : Sort} → Alike free one other → HasScalar code one group sort → HasScalar code other group sort
alike-scalar {code} {one = one} {other = other} {group = group} alike has = record {
  planned = alike-planned code alike group ∙ has.planned;
  room = subst (λ n. 0 < n) (sym (alike.sizes group)) has.room;
}

-- A number that the rounds of a loop may have is one of the greatest kind.
pub fits-eight : (n : ℕ) → n ≤ greatest_rounds → wrapped Kind.K8 (pos n) ≡ pos n
fits-eight n few = int_wrap_fits (width Kind.K8) (pos n) (in_range_fits Kind.K8 (pos n) within)
  where
    within : InRange Kind.K8 (pos n)
    within = (omega (arith, ints, few), omega (arith, ints, few))

two-on : (at : ℕ) → suc (suc at) ≡ at + 2
two-on at = omega arith

module _ {code : CodeLists} {go : Going} {line : ℕ} (goes : GoesAs code go) where
  scalar-place : (at group : ℕ) (rest : List What) (frame : Frame) (turns : ℕ) (sort : Sort) → group_planned code frame group ≡ Some (scalar_group sort)
      → StandAt code line at (What.SubscriptSlot group ∷ rest) → go at frame turns ≡ go (suc at) (pushed (Item.Position 0) frame) turns
  scalar-place at group rest frame turns sort planned stand =
      stepped goes at (What.SubscriptSlot group) rest frame turns stand refl
      ∙ ap (λ found. behind go at turns (positioned line (group_bounds found) frame)) planned
      ∙ ap (λ (bounds : Bounds). behind go at turns (positioned line (Some bounds) frame)) (scalar-bounds sort)

  -- A value on the stack is kept as the scalar takes it.
  pub keep-law : (at group : ℕ) (frame : Frame) (turns : ℕ) (sort : Sort) (z : ℤ) → HasScalar code frame group sort → StandAt code line at (keep_code group)
      → go at (pushed (Item.Value z) frame) turns ≡ go (at + 2) (put_slot group 0 (Some (fitted sort z)) frame) turns
  keep-law at group frame turns sort z has stand =
      scalar-place at group (What.StoreSlot group ∷ []) (pushed (Item.Value z) frame) turns sort has.planned stand
      ∙ stepped goes (suc at) (What.StoreSlot group) [] (pushed (Item.Position 0) (pushed (Item.Value z) frame)) turns (stand-rest at (What.SubscriptSlot group) (What.StoreSlot group ∷ []) stand) refl
      ∙ ap (λ taken. go (suc (suc at)) (put_slot group 0 (Some (fitted_to taken z)) frame) turns) (slot-sort code frame group 0 has.room ∙ ap group_sort has.planned ∙ scalar-sort sort)
      ∙ ap (λ place. go place (put_slot group 0 (Some (fitted sort z)) frame) turns) (two-on at)

  -- A value that is kept is pushed.
  pub fetch-law : (at group : ℕ) (frame : Frame) (turns : ℕ) (sort : Sort) (z : ℤ) → HasScalar code frame group sort → held_at frame group 0 ≡ Some z → StandAt code line at (fetch_code group)
      → go at frame turns ≡ go (at + 2) (pushed (Item.Value z) frame) turns
  fetch-law at group frame turns sort z has held stand =
      scalar-place at group (What.LoadSlot group ∷ []) frame turns sort has.planned stand
      ∙ load-law code go goes line (suc at) frame turns group 0 z held (stand-rest at (What.SubscriptSlot group) (What.LoadSlot group ∷ []) stand)
      ∙ ap (λ place. go place (pushed (Item.Value z) frame) turns) (one-more at)
    where
      one-more : (at : ℕ) → suc at + 1 ≡ at + 2
      one-more at = omega arith

-- What is kept stays, where a later group is put.
pub put-holds : (group at : ℕ) (z other : ℤ) (frame : Frame) → group < at → held_at frame group 0 ≡ Some z → held_at (put_slot at 0 (Some other) frame) group 0 ≡ Some z
put-holds group at z other frame before held = alike-slot (put-alike at at 0 (Some other) frame (omega arith)) group 0 before ∙ held
