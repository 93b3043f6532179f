-- Which codes are well formed: one sentence a condition. This project's own.
use Rattle.std.specs.Prelude.{◌≡◌, ◌≤◌, ◌<◌, ℕ, suc, ◌-◌, Bool, true, false, ◌&&◌, not, nat_eq, nat_le, nat_lt, List, [], ◌∷◌, ◌++◌, map, flat_map, length, min, take, drop, zip, slice_get, Option, Some, None, option_map, IsTrue, if◌then◌else◌}
use Rattle.std.specs.List.{list_all, list_any}
use Rattle.dc_int.specs.declared.kind.Kind.{Kind}
use Rattle.dc_int.specs.declared.operation.ReduceOp.{ReduceOp}
use Rattle.dc_int.specs.declared.variable.Locality.{Locality}
use Rattle.dc_int.specs.declared.variable.Shape.{Shape}
use Rattle.dc_int.specs.Reductions.{is_logical}
use Rattle.dc_int.specs.Store.{Bounds, elements_in}
use Rattle.dc_code.specs.declared.instr.Instr.{Instr}
use Rattle.dc_code.specs.declared.instr.What.{What}
use Rattle.dc_code.specs.declared.plan.ConstructCode.{ConstructCode}
use Rattle.dc_code.specs.declared.plan.Group.{Group}
use Rattle.dc_code.specs.declared.plan.Plan.{Plan}
use Rattle.dc_code.specs.Codes.{CodeLists, are_small, starts}
use Rattle.dc_code.specs.CodeForms.{locality_in}
use Rattle.dc_code.specs.StackSorts.{Sorts, number, a_truth, same_kind, same_flag, sorts_after}

-- ---- parts

-- What a part is: the main program, a procedure, or the header, the mask or the body of a loop.
pub data PartOf : Type 0 where
  main : PartOf
  procedure : PartOf
  header : ConstructCode → PartOf
  mask : ConstructCode → PartOf
  body : ConstructCode → PartOf

abbrev pub parts_of_loop : ConstructCode → List PartOf
parts_of_loop construct = header construct ∷ masked construct.mask
  where
    masked : Option ℕ → List PartOf
    masked None = body construct ∷ []
    masked (Some place) = mask construct ∷ body construct ∷ []

-- What begins at each of the `starts`.
abbrev pub kinds_of_parts : CodeLists → List PartOf
kinds_of_parts code = main ∷ (map (λ entry. procedure) code.entries ++ flat_map parts_of_loop code.constructs)

pub record Part : Type 0 where
  pub kind : PartOf
  pub start : ℕ
  pub plan : Plan

abbrev pub parts : CodeLists → List Part
parts code = map (λ w. record { kind = w.0; start = (w.1).0; plan = (w.1).1 }) (zip (kinds_of_parts code) (zip (starts code) code.plans))

-- A part goes from its beginning to that of the next, or to the end of the code.
abbrev pub least_after : ℕ → List ℕ → ℕ → ℕ
least_after start [] end = end
least_after start (other ∷ others) end = if nat_lt start other then min other (least_after start others end) else least_after start others end

abbrev pub end_of : CodeLists → ℕ → ℕ
end_of code start = least_after start (starts code) (length code.instructions)

-- ---- where the run goes on

-- Behind other instructions the run goes on at the next place.
abbrev pub goes_on : What → Bool
goes_on (What.Jump t) = false
goes_on (What.Back t) = false
goes_on What.Return = false
goes_on What.End = false
goes_on what = true

abbrev pub target_of : What → Option ℕ
target_of (What.Jump t) = Some t
target_of (What.JumpFalse t) = Some t
target_of (What.Back t) = Some t
target_of what = None

-- Only Back goes to an earlier place.
abbrev pub is_in_direction : What → ℕ → ℕ → Bool
is_in_direction (What.Back t) at target = nat_lt target at
is_in_direction what at target = nat_lt at target

abbrev pub is_load_result : What → Bool
is_load_result What.LoadResult = true
is_load_result what = false

-- ---- what is allowed in a part

-- Instructions that pause, and ErrorStop.
abbrev pub is_for_main : What → Bool
is_for_main What.PutEnd = true
is_for_main (What.TakeNumber kind) = true
is_for_main What.TakeTruth = true
is_for_main (What.TakeAll v) = true
is_for_main (What.TakeEnd n) = true
is_for_main (What.Enter c) = true
is_for_main What.Stop = true
is_for_main What.ErrorStop = true
is_for_main what = false

-- The outside variable that is stored, forgotten or filled, or whose place is taken.
abbrev pub changes : What → Option ℕ
changes (What.Store v) = Some v
changes (What.Forget v) = Some v
changes (What.Fill v) = Some v
changes (What.PlaceOf v) = Some v
changes what = None

abbrev pub contributes : What → Option (ReduceOp × ℕ)
contributes (What.Contribute op v) = Some (op, v)
contributes what = None

abbrev pub is_open : Locality → Bool
is_open Locality.Plain = true
is_open Locality.Shared = true
is_open locality = false

-- A variable that is LOGICAL combines by a logical operation, and others don't.
abbrev pub combines_so : CodeLists → ℕ → ReduceOp → Bool
combines_so code variable op = by (slice_get code.shapes variable)
  where
    by : Option Shape → Bool
    by (Some shape) = same_flag shape.logical (is_logical op)
    by None = false

-- A body changes Plain and Shared variables alone, and the main program any; other parts change none.
abbrev pub may_change : PartOf → Option ℕ → Bool
may_change kind None = true
may_change main (Some variable) = true
may_change (body construct) (Some variable) = is_open (locality_in construct variable)
may_change kind (Some variable) = false

-- A body contributes to REDUCE variables, by their operations; other parts contribute to none.
abbrev pub MayContribute : CodeLists → PartOf → Option (ReduceOp × ℕ) → Type 0
MayContribute code kind None = Unit {0}
MayContribute code (body construct) (Some (op, variable)) = (locality_in construct variable ≡ Locality.Reduce op) × (combines_so code variable op ≡ true)
MayContribute code kind (Some contribution) = ⊥

-- Return stands in procedures alone, End in the other parts alone, and what pauses in the main program.
abbrev pub may_stand : PartOf → What → Bool
may_stand procedure What.End = false
may_stand procedure what = not (is_for_main what)
may_stand main What.Return = false
may_stand main what = true
may_stand kind What.Return = false
may_stand kind what = not (is_for_main what)

-- ---- what is left at the end of a part

abbrev pub three_numbers : List Kind → Sorts
three_numbers [] = []
three_numbers (kind ∷ kinds) = three_numbers kinds ++ number kind ∷ number kind ∷ number kind ∷ []

abbrev pub left_at_end : PartOf → Sorts
left_at_end (header construct) = three_numbers construct.kinds
left_at_end (mask construct) = a_truth ∷ []
left_at_end kind = []

abbrev pub ends_part : What → Bool
ends_part What.End = true
ends_part What.Return = true
ends_part what = false

-- ---- plans

abbrev pub is_index_group : Kind → Group → Bool
is_index_group kind group = same_kind kind group.kind && (not group.logical && nat_eq (length group.bounds) 0)

-- The plan begins with a scalar for each index.
abbrev pub begins_with_indexes : List Kind → List Group → Bool
begins_with_indexes [] groups = true
begins_with_indexes (kind ∷ kinds) (group ∷ groups) = is_index_group kind group && begins_with_indexes kinds groups
begins_with_indexes kinds groups = false

abbrev pub is_local : Locality → Bool
is_local Locality.Local = true
is_local Locality.LocalInit = true
is_local locality = false

-- The groups of LOCAL and LOCAL_INIT variables, as their shapes and bounds have it, in declared order.
abbrev pub local_groups : List Locality → List Shape → List Bounds → List Group
local_groups (locality ∷ localities) (shape ∷ shapes) (bounds ∷ others) =
    (if is_local locality then record { kind = shape.kind; logical = shape.logical; bounds = bounds } ∷ [] else []) ++ local_groups localities shapes others
local_groups localities shapes others = []

-- The plan of a part begins as the part asks, and has dummies in procedures alone.
abbrev pub PlanFits : CodeLists → PartOf → Plan → Type 0
PlanFits code main plan = plan.dummies ≡ []
PlanFits code procedure plan = Unit {0}
PlanFits code (header construct) plan = plan.dummies ≡ []
PlanFits code (mask construct) plan = (plan.dummies ≡ []) × (begins_with_indexes construct.kinds plan.groups ≡ true)
PlanFits code (body construct) plan =
    let locals = local_groups construct.localities code.shapes code.bounds in
    let behind = take (length locals) (drop construct.width plan.groups) in
    (plan.dummies ≡ []) × ((begins_with_indexes construct.kinds plan.groups ≡ true) × (behind ≡ locals))

-- ---- one instruction

-- An instruction of a part, where the stack has these sorts at each place.
pub record Stands (code : CodeLists) (sorts : ℕ → Sorts) (part : Part) (at : ℕ) (instr : Instr) (after : Sorts) : Type 0 where
  pub operands : sorts_after code part.plan (option_map (λ (before : Instr). before.what) (slice_get code.instructions (at - 1))) instr.what (sorts at) ≡ Some after
  pub place : may_stand part.kind instr.what ≡ true
  pub changed : may_change part.kind (changes instr.what) ≡ true
  pub contributed : MayContribute code part.kind (contributes instr.what)
  -- behind it the run goes on in the part
  pub next : goes_on instr.what ≡ true → (suc at < end_of code part.start) × (sorts (suc at) ≡ after)
  -- a jump stays in the part, and doesn't go to LoadResult
  pub jump
      : (target : ℕ) → target_of instr.what ≡ Some target
      → (is_in_direction instr.what at target ≡ true) × ((part.start ≤ target) × ((target < end_of code part.start) × (sorts target ≡ after)))
  pub no_result : (target : ℕ) (found : Instr) → target_of instr.what ≡ Some target → slice_get code.instructions target ≡ Some found → is_load_result found.what ≡ false
  pub end : ends_part instr.what ≡ true → after ≡ left_at_end part.kind

-- ---- the lists

abbrev pub bounds_fit : List Shape → List Bounds → Bool
bounds_fit [] [] = true
bounds_fit (shape ∷ shapes) (bounds ∷ others) = nat_eq (elements_in bounds) shape.elements && bounds_fit shapes others
bounds_fit shapes others = false

abbrev pub construct_fits : ℕ → ConstructCode → Bool
construct_fits variables construct =
    nat_le 1 construct.width && (nat_le construct.width 7
    && (nat_eq (length construct.kinds) construct.width && nat_eq (length construct.localities) variables))

abbrev pub are_different : List ℕ → Bool
are_different [] = true
are_different (first ∷ rest) = not (list_any (nat_eq first) rest) && are_different rest

-- ---- a code

-- A code is well formed: its lists have the numbers of items that they should, its parts begin at different
-- places, and the stack has sorts at each place with which every instruction can stand where it does.
pub record IsWellFormed (code : CodeLists) : Type 0 where
  pub bounds : bounds_fit code.shapes code.bounds ≡ true
  pub sizes : IsTrue (are_small code)
  pub plans : length code.plans ≡ length (starts code)
  pub constructs : list_all (construct_fits (length code.shapes)) code.constructs ≡ true
  pub different : are_different (starts code) ≡ true
  pub inside : list_all (λ start. nat_lt start (length code.instructions)) (starts code) ≡ true
  pub plan_fits : (number : ℕ) (part : Part) → slice_get (parts code) number ≡ Some part → PlanFits code part.kind part.plan
  pub sorts : ℕ → Sorts
  pub beginning : (number : ℕ) (part : Part) → slice_get (parts code) number ≡ Some part → sorts part.start ≡ []
  pub stands
      : (number : ℕ) (part : Part) → slice_get (parts code) number ≡ Some part
      → (at : ℕ) (instr : Instr) → part.start ≤ at → at < end_of code part.start → slice_get code.instructions at ≡ Some instr
      → (after : Sorts) × Stands code sorts part at instr after
