-- The DO CONCURRENT loops of a source, and the entities of each. After ISO/IEC 1539-1:2023, clauses 11.1.7.2
-- to 11.1.7.5 and 19.4.
use Rattle.std.specs.Prelude.{ℕ, suc, ◌+◌, Bool, true, false, List, [], ◌∷◌, ◌++◌, length, map, filter_map, take, drop, slice_get, bytes_eq, Option, Some, None, if◌then◌else◌, ℤ}
use Rattle.std.specs.List.{range_with_len, list_any}
use Rattle.dc_int.specs.declared.access.ElementId.{ElementId}
use Rattle.dc_int.specs.declared.kind.Kind.{Kind}
use Rattle.dc_int.specs.declared.variable.Locality.{Locality}
use Rattle.dc_int.specs.Sorts.{Sort, whole}
use Rattle.dc_int.specs.Store.{Bounds, elements_in}
pub use Rattle.dc_code.specs.CodeForms.{index_slots}
use Rattle.dc_code.specs.Loops.{Copies}
use Rattle.dc_code.specs.Troubles.{Slots}
use Rattle.dc_tree.specs.declared.stmt.Local.{Local}
use Rattle.dc_tree.specs.Blocks.{Items}
use Rattle.dc_tree.specs.Entities.{Entity, outside, slots, reduction, Scope, entity, with_names}
use Rattle.dc_tree.specs.Literals.{kind_numbered}
use Rattle.dc_tree.specs.Statements.{Name, TypeForm, integer, Ranging}
use Rattle.dc_tree.specs.Syntax.{Tree}
use Rattle.dc_tree.specs.Typing.{sort_of_entity, constant_value}
use Rattle.dc_meaning.specs.Calls.{undefined_cells}
use Rattle.dc_meaning.specs.Values.{Callee}

-- An outside variable with its name and number.
pub record Outside : Type 0 where
  pub name : Name
  pub number : ℕ
  pub sort : Sort
  pub bounds : Bounds

-- A DO CONCURRENT in its place: its number in the order of the text, the line of its header, the scope
-- around it, and its parts.
pub record Concurrent : Type 0 where
  pub number : ℕ
  pub line : ℕ
  pub around : Scope
  pub spec : Option TypeForm
  pub indexes : List Ranging
  pub mask : Option Tree
  pub locality : List Local
  pub body : Items

-- What all loops of a program share: the outside variables in declared order, what a call does, and the
-- turns of each mask and each iteration.
pub record Surroundings : Type 0 where
  pub outsides : List Outside
  pub call : Callee
  pub turns : ℕ

-- ---- indexes

abbrev pub index_kind : Scope → TypeForm → Kind
index_kind scope (integer keyed (Some selector)) = by (constant_value scope selector)
  where
    by : Option ℤ → Kind
    by (Some number) = kind_numbered number
    by None = Kind.K4
index_kind scope form = Kind.K4

-- The sort of an index: that of the header's type, or else of the variable of that name.
abbrev pub index_sort : Scope → Option TypeForm → Ranging → Sort
index_sort scope (Some form) ranging = whole (index_kind scope form)
index_sort scope None ranging = sort_of_entity (entity scope ranging.name)

-- Names of scalars, each a group of slots, from a group on.
abbrev pub scalars_from : ℕ → List (Name × Sort) → List (Name × Entity)
scalars_from group [] = []
scalars_from group (first ∷ rest) = (first.0, slots group first.1 []) ∷ scalars_from (suc group) rest

abbrev pub index_names : Concurrent → List (Name × Entity)
index_names loop = scalars_from loop.around.groups (map (λ ranging. (ranging.name, index_sort loop.around loop.spec ranging)) loop.indexes)

-- ---- localities

abbrev pub is_among : List Name → Name → Bool
is_among names name = list_any (bytes_eq name) names

-- The locality that one list gives a name.
abbrev pub locality_by : Name → Local → Option Locality
locality_by name (Local.Locals names) = if is_among names name then Some Locality.Local else None
locality_by name (Local.Inits names) = if is_among names name then Some Locality.LocalInit else None
locality_by name (Local.Shared names) = if is_among names name then Some Locality.Shared else None
locality_by name (Local.Reduce op names) = if is_among names name then Some (Locality.Reduce op) else None
locality_by name Local.DefaultNone = None

abbrev pub locality_of : List Local → Name → Locality
locality_of lists name = first_of (filter_map (locality_by name) lists)
  where
    first_of : List Locality → Locality
    first_of [] = Locality.Plain
    first_of (locality ∷ rest) = locality

-- The outside variables that are LOCAL or LOCAL_INIT, in declared order, each with whether it is LOCAL_INIT.
abbrev pub local_of : List Local → Outside → Option (Outside × Bool)
local_of lists variable = by (locality_of lists variable.name)
  where
    by : Locality → Option (Outside × Bool)
    by Locality.Local = Some (variable, false)
    by Locality.LocalInit = Some (variable, true)
    by locality = None

abbrev pub locals_of : Surroundings → Concurrent → List (Outside × Bool)
locals_of within loop = filter_map (local_of loop.locality) within.outsides

-- Names of variables, each a group of slots, from a group on.
abbrev pub variables_from : ℕ → List Outside → List (Name × Entity)
variables_from group [] = []
variables_from group (first ∷ rest) = (first.name, slots group first.sort first.bounds) ∷ variables_from (suc group) rest

abbrev pub local_names : Surroundings → Concurrent → List (Name × Entity)
local_names within loop = variables_from (loop.around.groups + length loop.indexes) (map (λ w. w.0) (locals_of within loop))

abbrev pub reduction_of : List Local → Outside → Option (Name × Entity)
reduction_of lists variable = by (locality_of lists variable.name)
  where
    by : Locality → Option (Name × Entity)
    by (Locality.Reduce op) = Some (variable.name, reduction variable.number op variable.sort variable.bounds)
    by locality = None

-- ---- scopes

-- A mask sees the indexes, and otherwise what is around the loop.
abbrev pub mask_scope : Concurrent → Scope
mask_scope loop = with_names (index_names loop) (loop.around.groups + length loop.indexes) loop.around

-- The block sees the indexes, the entities of LOCAL and LOCAL_INIT variables, and REDUCE variables as such.
abbrev pub block_scope : Surroundings → Concurrent → Scope
block_scope within loop =
    with_names (index_names loop ++ (local_names within loop ++ filter_map (reduction_of loop.locality) within.outsides))
    (loop.around.groups + (length loop.indexes + length (locals_of within loop))) loop.around

-- ---- entities that begin with a state

abbrev pub elements_of_outside : Outside → List ElementId
elements_of_outside variable = map (λ position. record { variable = variable.number; position = position }) (range_with_len 0 (elements_in variable.bounds))

abbrev pub is_outside : Entity → Bool
is_outside (outside variable sort bounds) = true
is_outside other = false

abbrev pub is_reduction : Entity → Bool
is_reduction (reduction variable op sort bounds) = true
is_reduction other = false

-- The elements that LOCAL_INIT entities copy: of those that aren't entities of a loop around.
abbrev pub copied_by : Concurrent → Outside × Bool → List ElementId
copied_by loop (variable, false) = []
copied_by loop (variable, true) = if is_outside (entity loop.around variable.name) then elements_of_outside variable else []

-- The elements that a loop combines itself: of REDUCE variables that no loop around has so.
abbrev pub combined_by : Concurrent → Outside → List ElementId
combined_by loop variable = by (locality_of loop.locality variable.name) (is_reduction (entity loop.around variable.name))
  where
    by : Locality → Bool → List ElementId
    by (Locality.Reduce op) false = elements_of_outside variable
    by locality around = []

abbrev pub group_in : Slots → ℕ → List (Option ℤ)
group_in around group = by (slice_get around group)
  where
    by : Option (List (Option ℤ)) → List (Option ℤ)
    by (Some cells) = cells
    by None = []

-- The entities of LOCAL and LOCAL_INIT variables at the start of an iteration: undefined, as the entity of
-- the loop around is, or as the copies from the store are, in turn.
abbrev pub fresh_locals : Scope → Slots → Copies → List (Outside × Bool) → Slots
fresh_locals scope around copies [] = []
fresh_locals scope around copies ((variable, false) ∷ rest) = undefined_cells variable.bounds ∷ fresh_locals scope around copies rest
fresh_locals scope around copies ((variable, true) ∷ rest) =
    by (entity scope variable.name) (λ later. fresh_locals scope around later rest) (elements_in variable.bounds)
  where
    by : Entity → (Copies → Slots) → ℕ → Slots
    by (slots group sort bounds) others count = group_in around group ∷ others copies
    by other others count = take count copies ∷ others (drop count copies)
