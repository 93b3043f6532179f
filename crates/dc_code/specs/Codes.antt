-- A code: its instructions, and what these speak of. This project's own.
use Rattle.std.specs.Prelude.{ℕ, suc, Bool, ◌&&◌, nat_eq, nat_le, List, [], ◌∷◌, ◌++◌, map, flat_map, replicate, slice_get, Option, Some, None, if◌then◌else◌, ℤ}
use Rattle.std.specs.List.{range_with_len, list_all}
use Rattle.dc_int.specs.declared.access.ElementId.{ElementId}
use Rattle.dc_int.specs.declared.variable.Shape.{Shape}
use Rattle.dc_int.specs.Store.{Bounds, elements_in}
use Rattle.dc_code.specs.declared.instr.Instr.{Instr}
use Rattle.dc_code.specs.declared.plan.ConstructCode.{ConstructCode}
use Rattle.dc_code.specs.declared.plan.Group.{Group}
use Rattle.dc_code.specs.declared.plan.Plan.{Plan}
use Rattle.dc_code.specs.Troubles.{Slots}

-- The instructions, the texts of output items, the shapes and bounds of the outside variables, the plans of
-- frames, where the procedures begin, and the loops. The main program begins at place 0.
pub record CodeLists : Type 0 where
  pub instructions : List Instr
  pub texts : List (List ℕ)
  pub shapes : List Shape
  pub bounds : List Bounds
  pub plans : List Plan
  pub entries : List ℕ
  pub constructs : List ConstructCode

-- ---- outside variables

-- How many elements a variable has, and none where there is no such variable.
abbrev pub elements_of_shape : Option Shape → ℕ
elements_of_shape None = 0
elements_of_shape (Some shape) = shape.elements

abbrev pub element : ℕ → ℕ → ElementId
element variable position = record { variable = variable; position = position }

-- All elements of a variable, in store order.
abbrev pub elements_of_variable : CodeLists → ℕ → List ElementId
elements_of_variable code variable = map (element variable) (range_with_len 0 (elements_of_shape (slice_get code.shapes variable)))

-- No variable and no group has more elements than a store holds.
abbrev pub greatest_size : ℕ
greatest_size = 4194304

abbrev pub is_small : Bounds → Bool
is_small bounds = nat_le (elements_in bounds) greatest_size

abbrev pub has_small_groups : Plan → Bool
has_small_groups plan = list_all (λ (group : Group). is_small group.bounds) plan.groups

abbrev pub are_small : CodeLists → Bool
are_small code = list_all is_small code.bounds && list_all has_small_groups code.plans

-- ---- frames

abbrev pub no_plan : Plan
no_plan = record { dummies = []; groups = [] }

abbrev pub plan_or_none : Option Plan → Plan
plan_or_none None = no_plan
plan_or_none (Some plan) = plan

-- The plan of a number: 0 is the main program's, and p that of procedure p.
abbrev pub plan_numbered : CodeLists → ℕ → Plan
plan_numbered code number = plan_or_none (slice_get code.plans number)

-- The slots of a group, undefined.
abbrev pub blank : Group → List (Option ℤ)
blank group = replicate (elements_in group.bounds) None

-- The slots of a plan, all undefined.
abbrev pub blank_slots : Plan → Slots
blank_slots plan = map blank plan.groups

-- ---- parts

-- Where the parts of a loop begin: its header, its mask if it has one, and its body.
abbrev pub starts_of_loop : ConstructCode → List ℕ
starts_of_loop construct = construct.header ∷ masked construct.mask
  where
    masked : Option ℕ → List ℕ
    masked None = construct.body ∷ []
    masked (Some mask) = mask ∷ construct.body ∷ []

-- Where the parts of a code begin, in the order of their plans: the main program, the procedures, and the
-- parts of the loops.
abbrev pub starts : CodeLists → List ℕ
starts code = 0 ∷ (code.entries ++ flat_map starts_of_loop code.constructs)

-- How many numbers stand before the first that is the same, or how many there are.
abbrev pub place_among : List ℕ → ℕ → ℕ
place_among [] place = 0
place_among (first ∷ rest) place = if nat_eq first place then 0 else suc (place_among rest place)

-- The number of the plan of the part that begins at a place.
abbrev pub plan_at : CodeLists → ℕ → ℕ
plan_at code place = place_among (starts code) place
