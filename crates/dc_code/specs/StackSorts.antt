-- What an instruction asks of the stack, and what it leaves, by the sorts of the items. This project's own.
use Rattle.std.specs.Prelude.{ℕ, zero, suc, ◌-◌, Bool, true, false, ◌&&◌, not, nat_eq, nat_le, nat_lt, List, [], ◌∷◌, length, slice_get, Option, Some, None, option_and_then, option_map, if◌then◌else◌, ℤ}
use Rattle.dc_int.specs.declared.kind.Kind.{Kind}
use Rattle.dc_int.specs.declared.operation.Op.{Op}
use Rattle.dc_int.specs.declared.variable.Shape.{Shape}
use Rattle.dc_int.specs.Kinds.{bits_of, is_of_kind}
use Rattle.dc_int.specs.Operations.{takes_place}
use Rattle.dc_code.specs.declared.instr.Folding.{Folding}
use Rattle.dc_code.specs.declared.instr.What.{What}
use Rattle.dc_code.specs.declared.plan.DummyPlan.{DummyPlan}
use Rattle.dc_code.specs.declared.plan.Group.{Group}
use Rattle.dc_code.specs.declared.plan.Passing.{Passing}
use Rattle.dc_code.specs.declared.plan.Plan.{Plan}
use Rattle.dc_code.specs.Codes.{CodeLists}
use Rattle.dc_code.specs.Instructions.{takes_one}

-- A number of one kind, a truth, the position of an element of a variable or of a slot of a group, or a place
-- of one kind that is LOGICAL or not.
pub data ItemSort : Type 0 where
  number : Kind → ItemSort
  a_truth : ItemSort
  in_variable : ℕ → ItemSort
  in_group : ℕ → ItemSort
  a_place : Kind → Bool → ItemSort

abbrev pub Sorts : Type 0
Sorts = List ItemSort

-- ---- the same sort

abbrev pub same_kind : Kind → Kind → Bool
same_kind first second = nat_eq (bits_of first) (bits_of second)

abbrev pub same_flag : Bool → Bool → Bool
same_flag true second = second
same_flag false second = not second

abbrev pub same_sort : ItemSort → ItemSort → Bool
same_sort (number first) (number second) = same_kind first second
same_sort a_truth a_truth = true
same_sort (in_variable first) (in_variable second) = nat_eq first second
same_sort (in_group first) (in_group second) = nat_eq first second
same_sort (a_place first logical) (a_place second other) = same_kind first second && same_flag logical other
same_sort first second = false

abbrev pub same_sorts : Sorts → Sorts → Bool
same_sorts [] [] = true
same_sorts (first ∷ firsts) (second ∷ seconds) = same_sort first second && same_sorts firsts seconds
same_sorts firsts seconds = false

-- ---- the sorts of values

abbrev pub value_sort : Kind → Bool → ItemSort
value_sort kind true = a_truth
value_sort kind false = number kind

abbrev pub variable_sort : CodeLists → ℕ → Option ItemSort
variable_sort code variable = option_map (λ (shape : Shape). value_sort shape.kind shape.logical) (slice_get code.shapes variable)

abbrev pub group_sort : Plan → ℕ → Option ItemSort
group_sort plan group = option_map (λ (found : Group). value_sort found.kind found.logical) (slice_get plan.groups group)

abbrev pub dummy_sort : Plan → ℕ → Option ItemSort
dummy_sort plan dummy = option_map (λ (found : DummyPlan). value_sort found.kind found.logical) (slice_get plan.dummies dummy)

-- ---- taking off

-- An item serves where one of its sort is asked for, and a number also where one of a wider kind is.
abbrev pub serves : ItemSort → ItemSort → Bool
serves (number wanted) (number given) = nat_le (bits_of given) (bits_of wanted)
serves wanted given = same_sort wanted given

-- The stack without the item on top, which serves for this sort.
abbrev pub without_sort : Option ItemSort → Sorts → Option Sorts
without_sort (Some wanted) (top ∷ rest) = if serves wanted top then Some rest else None
without_sort wanted sorts = None

-- Without so many numbers, of any kinds.
abbrev pub without_numbers : ℕ → Sorts → Option Sorts
without_numbers zero sorts = Some sorts
without_numbers (suc count) (number kind ∷ rest) = without_numbers count rest
without_numbers (suc count) sorts = None

-- Without the arguments of dummies, the last of which is on top.
abbrev pub without_arguments : List DummyPlan → Sorts → Option Sorts
without_arguments [] sorts = Some sorts
without_arguments (dummy ∷ dummies) sorts = option_and_then (without_sort (Some (by dummy.passing))) (without_arguments dummies sorts)
  where
    by : Passing → ItemSort
    by Passing.Value = value_sort dummy.kind dummy.logical
    by other = a_place dummy.kind dummy.logical

abbrev pub with_top : Option ItemSort → Option Sorts → Option Sorts
with_top (Some top) (Some rest) = Some (top ∷ rest)
with_top top rest = None

-- An item of the first sort in place of the one on top, which is of the second.
abbrev pub exchanged : Option ItemSort → Option ItemSort → Sorts → Option Sorts
exchanged left taken sorts = with_top left (without_sort taken sorts)

-- ---- operations

-- The second operand of a shift and the position of a bit are of any kind.
abbrev pub of_numbers : Op → Kind → Sorts → Option Sorts
of_numbers op kind sorts = by (takes_one op) (takes_place op) sorts
  where
    by : Bool → Bool → Sorts → Option Sorts
    by true any sorts = exchanged (Some (number kind)) (Some (number kind)) sorts
    by false true (number other ∷ rest) = exchanged (Some (number kind)) (Some (number kind)) rest
    by false false sorts = option_and_then (exchanged (Some (number kind)) (Some (number kind))) (without_sort (Some (number kind)) sorts)
    by false true other = None

abbrev pub of_truths : Sorts → Option Sorts
of_truths (a_truth ∷ a_truth ∷ rest) = Some (a_truth ∷ rest)
of_truths other = None

abbrev pub is_value : ItemSort → Bool
is_value (number kind) = true
is_value a_truth = true
is_value other = false

abbrev pub folding_sort : Folding → Kind → Bool → Option ItemSort
folding_sort Folding.Sum kind false = Some (number kind)
folding_sort Folding.Count kind true = Some (number Kind.K4)
folding_sort Folding.Any kind true = Some a_truth
folding_sort Folding.All kind true = Some a_truth
folding_sort folding kind logical = None

-- ---- variables, groups and dummies

abbrev pub rank : CodeLists → ℕ → Option ℕ
rank code variable = option_map (λ bounds. length bounds) (slice_get code.bounds variable)

abbrev pub group_rank : Plan → ℕ → Option ℕ
group_rank plan group = option_map (λ (found : Group). length found.bounds) (slice_get plan.groups group)

abbrev pub positioned_sorts : Option ℕ → ItemSort → Sorts → Option Sorts
positioned_sorts None left sorts = None
positioned_sorts (Some count) left sorts = with_top (Some left) (without_numbers count sorts)

abbrev pub shape_place : CodeLists → ℕ → Option ItemSort
shape_place code variable = option_map (λ (shape : Shape). a_place shape.kind shape.logical) (slice_get code.shapes variable)

abbrev pub group_place : Plan → ℕ → Option ItemSort
group_place plan group = option_map (λ (found : Group). a_place found.kind found.logical) (slice_get plan.groups group)

-- a dummy that is associated with a place
abbrev pub dummy_place_sort : Plan → ℕ → Option ItemSort
dummy_place_sort plan dummy = option_and_then by (slice_get plan.dummies dummy)
  where
    by : DummyPlan → Option ItemSort
    by found = with_place found.passing
      where
        with_place : Passing → Option ItemSort
        with_place Passing.Value = None
        with_place other = Some (a_place found.kind found.logical)

abbrev pub if_there : {A : Type 0} → Option A → Sorts → Option Sorts
if_there (Some found) sorts = Some sorts
if_there None sorts = None

-- The result that LoadResult pushes, right behind a call: the first group of the procedure's plan, a scalar.
abbrev pub result_sort : CodeLists → Option What → Option ItemSort
result_sort code (Some (What.Call p n)) = option_and_then (λ (plan : Plan). option_and_then scalar (slice_get plan.groups 0)) (slice_get code.plans p)
  where
    scalar : Group → Option ItemSort
    scalar found = by found.bounds
      where
        by : List (ℤ × ℤ) → Option ItemSort
        by [] = Some (value_sort found.kind found.logical)
        by bounds = None
result_sort code other = None

abbrev pub called_sorts : CodeLists → ℕ → ℕ → Sorts → Option Sorts
called_sorts code procedure count sorts = by (slice_get code.entries (procedure - 1)) (slice_get code.plans procedure)
  where
    by : Option ℕ → Option Plan → Option Sorts
    by (Some entry) (Some plan) = if nat_lt 0 procedure && nat_eq count (length plan.dummies) then without_arguments plan.dummies sorts else None
    by entry plan = None

-- ---- each instruction, in a part with this plan and right behind another instruction

abbrev pub sorts_after : CodeLists → Plan → Option What → What → Sorts → Option Sorts
sorts_after code plan before (What.Const kind n) sorts = if is_of_kind kind n then Some (number kind ∷ sorts) else None
sorts_after code plan before (What.Truth n) sorts = Some (a_truth ∷ sorts)
sorts_after code plan before What.Drop (top ∷ sorts) = Some sorts
sorts_after code plan before (What.Arith op kind) sorts = of_numbers op kind sorts
sorts_after code plan before (What.Wrap kind) (number other ∷ sorts) = Some (number kind ∷ sorts)
sorts_after code plan before (What.Compare r) (number b ∷ number a ∷ sorts) = Some (a_truth ∷ sorts)
sorts_after code plan before What.And sorts = of_truths sorts
sorts_after code plan before What.Or sorts = of_truths sorts
sorts_after code plan before What.Eqv sorts = of_truths sorts
sorts_after code plan before What.Neqv sorts = of_truths sorts
sorts_after code plan before What.Not (a_truth ∷ sorts) = Some (a_truth ∷ sorts)
sorts_after code plan before What.Merge (a_truth ∷ b ∷ a ∷ sorts) = if is_value a && same_sort a b then Some (a ∷ sorts) else None
sorts_after code plan before (What.Subscript v) sorts = positioned_sorts (rank code v) (in_variable v) sorts
sorts_after code plan before (What.SubscriptSlot s) sorts = positioned_sorts (group_rank plan s) (in_group s) sorts
sorts_after code plan before (What.Load v) sorts = exchanged (variable_sort code v) (Some (in_variable v)) sorts
sorts_after code plan before (What.LoadSlot s) sorts = exchanged (group_sort plan s) (Some (in_group s)) sorts
sorts_after code plan before (What.Store v) sorts = option_and_then (without_sort (variable_sort code v)) (without_sort (Some (in_variable v)) sorts)
sorts_after code plan before (What.StoreSlot s) sorts = option_and_then (without_sort (group_sort plan s)) (without_sort (Some (in_group s)) sorts)
sorts_after code plan before (What.Forget v) sorts = without_sort (Some (in_variable v)) sorts
sorts_after code plan before (What.ForgetSlot s) sorts = without_sort (Some (in_group s)) sorts
sorts_after code plan before (What.PlaceOf v) sorts = exchanged (shape_place code v) (Some (in_variable v)) sorts
sorts_after code plan before (What.PlaceOfSlot s) sorts = exchanged (group_place plan s) (Some (in_group s)) sorts
sorts_after code plan before (What.PlaceOfDummy d) sorts = with_top (dummy_place_sort plan d) (Some sorts)
sorts_after code plan before (What.LoadDummy d) sorts = with_top (dummy_sort plan d) (Some sorts)
sorts_after code plan before (What.StoreDummy d) sorts = without_sort (dummy_sort plan d) sorts
sorts_after code plan before (What.Fill v) sorts = without_sort (variable_sort code v) sorts
sorts_after code plan before (What.FillSlot s) sorts = without_sort (group_sort plan s) sorts
sorts_after code plan before (What.Fold f v) sorts =
    with_top (option_and_then (λ (shape : Shape). folding_sort f shape.kind shape.logical) (slice_get code.shapes v)) (Some sorts)
sorts_after code plan before (What.FoldSlot f s) sorts =
    with_top (option_and_then (λ (found : Group). folding_sort f found.kind found.logical) (slice_get plan.groups s)) (Some sorts)
sorts_after code plan before (What.Contribute op v) sorts = option_and_then (without_sort (variable_sort code v)) (without_sort (Some (in_variable v)) sorts)
sorts_after code plan before (What.Jump t) sorts = Some sorts
sorts_after code plan before (What.JumpFalse t) (a_truth ∷ sorts) = Some sorts
sorts_after code plan before What.Turn sorts = Some sorts
sorts_after code plan before (What.Back t) sorts = Some sorts
sorts_after code plan before (What.Count kind) sorts =
    with_top (Some (number Kind.K8)) (option_and_then (without_sort (Some (number kind))) (option_and_then (without_sort (Some (number kind))) (without_sort (Some (number kind)) sorts)))
sorts_after code plan before (What.Call p n) sorts = called_sorts code p n sorts
sorts_after code plan before What.Return sorts = Some sorts
sorts_after code plan before What.LoadResult sorts = with_top (result_sort code before) (Some sorts)
sorts_after code plan before What.PutNumber (number kind ∷ sorts) = Some sorts
sorts_after code plan before What.PutTruth (a_truth ∷ sorts) = Some sorts
sorts_after code plan before (What.PutChars x) sorts = if_there (slice_get code.texts x) sorts
sorts_after code plan before (What.PutAll v) sorts = if_there (slice_get code.shapes v) sorts
sorts_after code plan before What.PutEnd sorts = Some sorts
sorts_after code plan before (What.TakeNumber kind) sorts = Some (number kind ∷ sorts)
sorts_after code plan before What.TakeTruth sorts = Some (a_truth ∷ sorts)
sorts_after code plan before (What.TakeAll v) sorts = if_there (slice_get code.shapes v) sorts
sorts_after code plan before (What.TakeEnd n) sorts = Some sorts
sorts_after code plan before (What.Enter c) sorts = if_there (slice_get code.constructs c) sorts
sorts_after code plan before What.End sorts = Some sorts
sorts_after code plan before What.Stop sorts = Some sorts
sorts_after code plan before What.ErrorStop sorts = Some sorts
sorts_after code plan before what sorts = None
