-- What names stand for. After ISO/IEC 1539-1:2023, clause 19.
use Rattle.std.specs.Prelude.{ℕ, suc, ◌+◌, Bool, true, false, nat_eq, List, [], ◌∷◌, ◌++◌, length, bytes_eq, Option, Some, None, option_map, is_some, find, filter, filter_map, if◌then◌else◌, ℤ}
use Rattle.std.specs.List.{range_with_len}
use Rattle.dc_int.specs.declared.operation.ReduceOp.{ReduceOp}
use Rattle.dc_int.specs.Sorts.{Sort, sort_with}
use Rattle.dc_int.specs.Store.{Bounds}
use Rattle.dc_tree.specs.declared.stmt.Intent.{Intent}
use Rattle.dc_tree.specs.declared.symbols.Role as roles
use Rattle.dc_tree.specs.declared.symbols.Symbol.{Symbol}
use Rattle.dc_tree.specs.Statements.{Name}

-- What a name stands for: an outside variable, by its number; a variable that is a group of slots of the
-- unit or iteration, by the group's number; a dummy, by its place; a constant; a function with the sort of
-- its result, or a subroutine, by the procedure's number; an outside variable that is REDUCE here; or none
-- of these. A scalar has no bounds.
pub data Entity : Type 0 where
  outside : ℕ → Sort → Bounds → Entity
  slots : ℕ → Sort → Bounds → Entity
  dummy : ℕ → Sort → Entity
  constant : Sort → ℤ → Entity
  function : ℕ → Sort → Entity
  subroutine : ℕ → List Intent → Entity
  reduction : ℕ → ReduceOp → Sort → Bounds → Entity
  nothing : Entity

-- The names that can be used at a place, an inner one in front of an outer one, and how many groups of
-- slots there are.
pub record Scope : Type 0 where
  pub names : List (Name × Entity)
  pub groups : ℕ

abbrev pub entity_in : List (Name × Entity) → Name → Entity
entity_in [] name = nothing
entity_in ((first, entity) ∷ rest) name = if bytes_eq first name then entity else entity_in rest name

-- What a name stands for in a scope: the innermost of that name.
abbrev pub entity : Scope → Name → Entity
entity scope name = entity_in scope.names name

-- The scope with more names in front, which have so many groups of slots.
abbrev pub with_names : List (Name × Entity) → ℕ → Scope → Scope
with_names names groups scope = record { names = names ++ scope.names; groups = groups }

-- ---- from the declared names

abbrev pub head_of : {A : Type 0} → List A → Option A
head_of [] = None
head_of (first ∷ rest) = Some first

abbrev pub symbols_in : ℕ → List Symbol → List Symbol
symbols_in scope symbols = filter (λ symbol. nat_eq symbol.scope scope) symbols

abbrev pub result_of : Symbol → Option Sort
result_of symbol = by symbol.role
  where
    by : roles.Role → Option Sort
    by (roles.Role.Result logical kind) = Some (sort_with logical kind)
    by role = None

-- The sort of the result of a procedure, if it is a function.
abbrev pub result_in : List Symbol → Option Sort
result_in symbols = head_of (filter_map result_of symbols)

-- a dummy with its place and intent
abbrev pub dummy_of : Symbol → Option (ℕ × Intent)
dummy_of symbol = by symbol.role
  where
    by : roles.Role → Option (ℕ × Intent)
    by (roles.Role.Dummy place logical kind intent) = Some (place, intent)
    by role = None

-- The intents of a procedure's dummies, in the order of their places.
abbrev pub intents_in : List Symbol → List Intent
intents_in symbols =
    let dummies = filter_map dummy_of symbols in
    filter_map (λ place. option_map (λ d. d.1) (find (λ d. nat_eq d.0 place) dummies)) (range_with_len 0 (length dummies))

-- The entity of a procedure, by its number and the symbols of its scope.
abbrev pub procedure_entity : ℕ → List Symbol → Entity
procedure_entity number symbols = by (result_in symbols)
  where
    by : Option Sort → Entity
    by (Some sort) = function number sort
    by None = subroutine number (intents_in symbols)

-- The names of the main program. Its variables are counted from a number on; the whole list of symbols
-- tells what its procedures are.
abbrev pub outer_names : List Symbol → ℕ → List Symbol → List (Name × Entity)
outer_names all number [] = []
outer_names all number (symbol ∷ rest) = by symbol.role (outer_names all (suc number) rest) (outer_names all number rest)
  where
    by : roles.Role → List (Name × Entity) → List (Name × Entity) → List (Name × Entity)
    by (roles.Role.Variable logical kind bounds initial) behind_variable others = (symbol.name, outside number (sort_with logical kind) bounds) ∷ behind_variable
    by (roles.Role.Constant logical kind value) behind_variable others = (symbol.name, constant (sort_with logical kind) value) ∷ others
    by (roles.Role.Function procedure) behind_variable others = (symbol.name, procedure_entity procedure (symbols_in procedure all)) ∷ others
    by (roles.Role.Subroutine procedure) behind_variable others = (symbol.name, procedure_entity procedure (symbols_in procedure all)) ∷ others
    by role behind_variable others = others

-- The scope of the main program.
abbrev pub main_scope : List Symbol → Scope
main_scope symbols = record { names = outer_names symbols 0 (symbols_in 0 symbols); groups = 0 }

-- The names of a procedure, whose local variables are groups of slots from a number on. The result of a
-- function is group 0.
abbrev pub inner_names : ℕ → List Symbol → List (Name × Entity)
inner_names group [] = []
inner_names group (symbol ∷ rest) = by symbol.role (inner_names (suc group) rest) (inner_names group rest)
  where
    by : roles.Role → List (Name × Entity) → List (Name × Entity) → List (Name × Entity)
    by (roles.Role.Variable logical kind bounds initial) behind_variable others = (symbol.name, slots group (sort_with logical kind) bounds) ∷ behind_variable
    by (roles.Role.Constant logical kind value) behind_variable others = (symbol.name, constant (sort_with logical kind) value) ∷ others
    by (roles.Role.Dummy place logical kind intent) behind_variable others = (symbol.name, dummy place (sort_with logical kind)) ∷ others
    by (roles.Role.Result logical kind) behind_variable others = (symbol.name, slots 0 (sort_with logical kind) []) ∷ others
    by role behind_variable others = others

-- The group of a procedure's first local variable.
abbrev pub first_local : List Symbol → ℕ
first_local symbols = if is_some (result_in symbols) then 1 else 0

abbrev pub is_variable : Symbol → Bool
is_variable symbol = by symbol.role
  where
    by : roles.Role → Bool
    by (roles.Role.Variable logical kind bounds initial) = true
    by role = false

-- The scope of a procedure by its number: its own names in front of those of the main program.
abbrev pub procedure_scope : List Symbol → ℕ → Scope
procedure_scope symbols number =
    let own = symbols_in number symbols in
    with_names (inner_names (first_local own) own) (first_local own + length (filter is_variable own)) (main_scope symbols)
