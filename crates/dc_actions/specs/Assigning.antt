-- The instructions for assignments to outside variables. This project's own.
use Rattle.std.specs.Prelude.{ℕ, zero, suc, Bool, true, false, ◌&&◌, nat_eq, nat_lt, List, [], ◌∷◌, ◌++◌, length, map, Option, Some, None, if◌then◌else◌, pos}
use Rattle.dc_int.specs.declared.kind.Kind.{Kind}
use Rattle.dc_int.specs.Kinds.{bits_of}
use Rattle.dc_int.specs.Sorts.{Sort, whole, logical}
use Rattle.dc_int.specs.Store.{Bounds, elements_in}
use Rattle.dc_code.specs.declared.instr.What.{What}
use Rattle.dc_code.specs.declared.plan.Group.{Group}
use Rattle.dc_tree.specs.Entities.{Entity, outside, Scope, entity}
use Rattle.dc_tree.specs.Statements.{Target}
use Rattle.dc_tree.specs.Syntax.{Tree}
use Rattle.dc_tree.specs.Typing.{sort_of, sort_of_entity}
use Rattle.dc_actions.specs.Expressions.{value_code, is_usable, has_rank}
use Rattle.dc_actions.specs.Subscripts.{subscripts_at}

abbrev pub each_code : Scope → List Tree → List What
each_code scope [] = []
each_code scope (tree ∷ trees) = value_code scope tree ++ each_code scope trees

-- A number that is given is wrapped where a narrower kind is taken; a wider kind takes it as it is.
abbrev pub conversion_code : (given taken : Sort) → List What
conversion_code (whole given) (whole taken) = if nat_lt (bits_of taken) (bits_of given) then What.Wrap taken ∷ [] else []
conversion_code given taken = []

-- A value on top of the stack is stored in all elements of a variable, or in the one with these subscripts.
abbrev pub storing_code : Scope → Entity → Option (List Tree) → List What
storing_code scope (outside variable sort bounds) None = What.Fill variable ∷ []
storing_code scope (outside variable sort bounds) (Some trees) = each_code scope trees ++ (What.Subscript variable ∷ What.Store variable ∷ [])
storing_code scope other subscripts = []

abbrev pub assigned_code : Scope → Entity → Option (List Tree) → Tree → List What
assigned_code scope variable subscripts tree =
    value_code scope tree ++ (conversion_code (sort_of scope tree) (sort_of_entity variable) ++ storing_code scope variable subscripts)

abbrev pub assignment_code : Scope → Target → Tree → List What
assignment_code scope target tree = assigned_code scope (entity scope target.name) target.subscripts tree

-- ---- a list of values. Each is kept in a slot of a group that is added for the statement, and when all are there
-- each element is defined.

-- The place of a slot of the group, which is counted from 1.
abbrev pub slot_code : (group before : ℕ) → List What
slot_code group before = What.Const Kind.K4 (pos (suc before)) ∷ What.SubscriptSlot group ∷ []

abbrev pub keeping_code : Scope → Sort → (group before : ℕ) → List Tree → List What
keeping_code scope sort group before [] = []
keeping_code scope sort group before (tree ∷ trees) =
    value_code scope tree
    ++ (conversion_code (sort_of scope tree) sort ++ (slot_code group before ++ (What.StoreSlot group ∷ keeping_code scope sort group (suc before) trees)))

-- The place of the element at a position.
abbrev pub element_code : ℕ → Bounds → ℕ → List What
element_code variable bounds at = map (λ z. What.Const Kind.K8 z) (subscripts_at bounds at) ++ What.Subscript variable ∷ []

-- So many elements, from a position on, are defined with what the slots hold.
abbrev pub handing_code : ℕ → Bounds → (group before : ℕ) → ℕ → List What
handing_code variable bounds group before zero = []
handing_code variable bounds group before (suc count) =
    slot_code group before ++ (What.LoadSlot group ∷ (element_code variable bounds before ++ (What.Store variable ∷ handing_code variable bounds group (suc before) count)))

abbrev pub filling_code : Scope → (group : ℕ) → List Tree → Entity → List What
filling_code scope group trees (outside variable sort bounds) =
    keeping_code scope sort group 0 trees ++ handing_code variable bounds group 0 (length trees)
filling_code scope group trees other = []

-- The group, for so many values of a sort.
abbrev pub kept_group : Sort → ℕ → Group
kept_group (whole its_kind) count = record { kind = its_kind; logical = false; bounds = (pos 1, pos count) ∷ [] }
kept_group logical count = record { kind = Kind.K4; logical = true; bounds = (pos 1, pos count) ∷ [] }

-- ---- what the rules leave of a program

abbrev pub all_usable : Scope → List Tree → Bool
all_usable scope [] = true
all_usable scope (tree ∷ trees) = is_usable scope tree && all_usable scope trees

abbrev pub takes_values : Scope → Entity → Option (List Tree) → Bool
takes_values scope (outside variable sort bounds) None = true
takes_values scope (outside variable sort bounds) (Some trees) = has_rank bounds (length trees) && all_usable scope trees
takes_values scope other subscripts = false

-- An array takes a list of as many values as it has elements.
abbrev pub takes_list : Entity → ℕ → Bool
takes_list (outside variable sort bounds) values = nat_eq values (elements_in bounds)
takes_list other values = false
