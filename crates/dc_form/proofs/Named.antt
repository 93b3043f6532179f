-- What a name of the main program stands for, by its symbol.
use Rattle.std.proofs.Common.{◌≡◌, ℕ, suc, Bool, true, false, cond, ◌&&◌, List, [], ◌∷◌, length, Option, Some, refl}
use Rattle.std.specs.Prelude.{nat_eq, nat_le, bytes_eq, ℤ}
use Rattle.std.specs.List.{list_all}
use Rattle.std.proofs.lemmas.Bool.{and_parts, false≢true}
use Rattle.dc_int.specs.declared.kind.Kind.{Kind}
use Rattle.dc_int.specs.Sorts.{sort_with}
use Rattle.dc_int.specs.Store.{Bounds}
use Rattle.dc_tree.specs.declared.symbols.Role as roles
use Rattle.dc_tree.specs.declared.symbols.Symbol.{Symbol}
use Rattle.dc_form.specs.BuiltPrograms.{is_whole_scalar, is_built_role, is_built_symbol, are_built_symbols, elements_of_all}
use Rattle.dc_tree.specs.Entities.{Entity, outside, constant, entity, entity_in, outer_names, symbols_in, main_scope}
use Rattle.dc_tree.specs.Statements.{Name}
use Rattle.dc_tree.specs.Symbols.{symbol_at}
use Rattle.dc_form.specs.Parts.{is_whole_role, is_whole_symbol}

-- what is told by the names from a number on
abbrev told : List Symbol → ℕ → List Symbol → Name → Bool
told all number symbols name = is_whole_scalar (entity_in (outer_names all number (symbols_in 0 symbols)) name)

variable-whole : (number : ℕ) (logical : Bool) (kind : Kind) (bounds : Bounds) (initial : List ℤ)
    → is_whole_scalar (outside number (sort_with logical kind) bounds) ≡ is_whole_role (roles.Role.Variable logical kind bounds initial)
variable-whole number true kind bounds initial = refl
variable-whole number false kind [] initial = refl
variable-whole number false kind (dimension ∷ bounds) initial = refl

choice : (b : Bool) (here other : Entity) (first : Symbol) (later : Option Symbol) → is_whole_scalar here ≡ is_whole_role first.role → is_whole_scalar other ≡ is_whole_symbol later
    → is_whole_scalar (cond b here other) ≡ is_whole_symbol (cond b (Some first) later)
choice true here other first later own rest = own
choice false here other first later own rest = rest

first-named : (all : List Symbol) (number : ℕ) (first : Symbol) (rest : List Symbol) (name : Name) → nat_eq first.scope 0 ≡ true → (role : roles.Role) → first.role ≡ role
    → is_built_role role ≡ true → ((n : ℕ) → told all n rest name ≡ is_whole_symbol (symbol_at rest 0 name)) → told all number (first ∷ rest) name ≡ is_whole_symbol (symbol_at (first ∷ rest) 0 name)
first-named all number first rest name scope (roles.Role.Variable logical kind bounds initial) is built later =
    let step : entity_in (outer_names all number (symbols_in 0 (first ∷ rest))) name
    ≡ cond (bytes_eq first.name name) (outside number (sort_with logical kind) bounds) (entity_in (outer_names all (suc number) (symbols_in 0 rest)) name) = rw (scope, is) refl in
    let found : symbol_at (first ∷ rest) 0 name ≡ cond (bytes_eq first.name name) (Some first) (symbol_at rest 0 name) = rw scope refl in
    let own : is_whole_scalar (outside number (sort_with logical kind) bounds) ≡ is_whole_role first.role = rw is (variable-whole number logical kind bounds initial) in
    rw (step, found) (choice (bytes_eq first.name name) (outside number (sort_with logical kind) bounds) (entity_in (outer_names all (suc number) (symbols_in 0 rest)) name) first (symbol_at rest 0 name) own (later (suc number)))
first-named all number first rest name scope (roles.Role.Constant logical kind value) is built later =
    let step : entity_in (outer_names all number (symbols_in 0 (first ∷ rest))) name
    ≡ cond (bytes_eq first.name name) (constant (sort_with logical kind) value) (entity_in (outer_names all number (symbols_in 0 rest)) name) = rw (scope, is) refl in
    let found : symbol_at (first ∷ rest) 0 name ≡ cond (bytes_eq first.name name) (Some first) (symbol_at rest 0 name) = rw scope refl in
    let own : is_whole_scalar (constant (sort_with logical kind) value) ≡ is_whole_role first.role = rw is refl in
    rw (step, found) (choice (bytes_eq first.name name) (constant (sort_with logical kind) value) (entity_in (outer_names all number (symbols_in 0 rest)) name) first (symbol_at rest 0 name) own (later number))
first-named all number first rest name scope (roles.Role.Dummy place logical kind intent) is built later = absurd (false≢true built)
first-named all number first rest name scope (roles.Role.Result logical kind) is built later = absurd (false≢true built)
first-named all number first rest name scope (roles.Role.Function procedure) is built later = absurd (false≢true built)
first-named all number first rest name scope (roles.Role.Subroutine procedure) is built later = absurd (false≢true built)

all-named : (all : List Symbol) (number : ℕ) (symbols : List Symbol) (name : Name) → list_all is_built_symbol symbols ≡ true → told all number symbols name ≡ is_whole_symbol (symbol_at symbols 0 name)
all-named all number [] name built = refl
all-named all number (first ∷ rest) name built =
    let both = and_parts (is_built_symbol first) (list_all is_built_symbol rest) built in
    let own = and_parts (nat_eq first.scope 0) (is_built_role first.role) both.0 in
    first-named all number first rest name own.0 first.role refl own.1 (λ n. all-named all n rest name both.1)

-- A name is an INTEGER scalar where its symbol is one.
pub whole_named : (symbols : List Symbol) (name : Name) → are_built_symbols symbols ≡ true → is_whole_scalar (entity (main_scope symbols) name) ≡ is_whole_symbol (symbol_at symbols 0 name)
whole_named symbols name built =
    let both = and_parts (nat_le (length symbols) 1048576) (list_all is_built_symbol symbols && nat_le (elements_of_all symbols) 4194304) built in
    all-named symbols 0 symbols name (and_parts (list_all is_built_symbol symbols) (nat_le (elements_of_all symbols) 4194304) both.1).0
