-- The symbol of a name in a scope: the first with both. And what is said of every symbol.
use Rattle.std.specs.Prelude.{ℕ, Bool, true, ◌&&◌, not, nat_eq, bytes_eq, List, Option, Some, None, find, ℤ}
use Rattle.std.specs.List.{list_all}
use Rattle.dc_int.specs.declared.kind.Kind.{Kind}
use Rattle.dc_int.specs.Kinds.{value_fits}
use Rattle.dc_int.specs.Sorts.{Sort, sort_with}
use Rattle.dc_int.specs.Store.{Bounds}
use Rattle.dc_tree.specs.declared.symbols.Role as roles
use Rattle.dc_tree.specs.declared.symbols.Symbol.{Symbol}

-- The symbol declares the name in the scope.
abbrev pub declares : ℕ → List ℕ → Symbol → Bool
declares scope name symbol = nat_eq symbol.scope scope && bytes_eq symbol.name name

abbrev pub symbol_at : List Symbol → ℕ → List ℕ → Option Symbol
symbol_at symbols scope name = find (declares scope name) symbols

-- The sort of a type: whether it is LOGICAL, and its kind.
abbrev pub declared_sort : Bool × Kind → Sort
declared_sort form = sort_with form.0 form.1

-- A variable as it is declared: its sort, its bounds, and its initial values in the order of its elements.
pub record VariableForm : Type 0 where
  pub sort : Sort
  pub bounds : Bounds
  pub initial : List ℤ

abbrev pub variable_in : roles.Role → Option VariableForm
variable_in (roles.Role.Variable logical kind bounds initial) = Some (record { sort = sort_with logical kind; bounds = bounds; initial = initial })
variable_in other = None

-- The values that a role has are of its sort: the value of a named constant, and the initial ones of a
-- variable.
abbrev pub role_fits : roles.Role → Bool
role_fits (roles.Role.Variable logical kind bounds initial) = list_all (value_fits kind logical) initial
role_fits (roles.Role.Constant logical kind value) = value_fits kind logical value
role_fits other = true

-- Dummies and results are names of procedures, and procedures are names of the main program.
abbrev pub stands_in : ℕ → roles.Role → Bool
stands_in scope (roles.Role.Dummy place logical kind intent) = not (nat_eq scope 0)
stands_in scope (roles.Role.Result logical kind) = not (nat_eq scope 0)
stands_in scope (roles.Role.Function procedure) = nat_eq scope 0
stands_in scope (roles.Role.Subroutine procedure) = nat_eq scope 0
stands_in scope other = true

abbrev pub is_sound : Symbol → Bool
is_sound symbol = role_fits symbol.role && stands_in symbol.scope symbol.role
