-- What holds of constants and of each variable of a program holds of what each of its names stands for.
use Rattle.std.proofs.Common.{◌≡◌, ℕ, suc, ◌+◌, Bool, true, false, ◌&&◌, List, [], ◌∷◌, ◌++◌, Some, refl, subst, arith}
use Rattle.std.proofs.lemmas.Bool.{and_parts}
use Rattle.std.specs.Prelude.{ℤ, nat_eq, nat_le, length, bytes_eq, slice_get, filter, if◌then◌else◌}
use Rattle.std.specs.List.{list_all}
use Rattle.dc_int.specs.Sorts.{Sort, sort_with}
use Rattle.dc_code.specs.Troubles.{Slots, write_line, enter_loop}
use Rattle.dc_tree.specs.declared.symbols.Role.{Role}
use Rattle.dc_tree.specs.declared.symbols.Symbol.{Symbol}
use Rattle.dc_tree.specs.Blocks.{Source}
use Rattle.dc_form.specs.BuiltPrograms.{are_built_items, greatest_names, greatest_elements, elements_of_all, is_built_role, is_built_symbol, are_built_symbols}
use Rattle.dc_tree.specs.Entities.{Entity, outside, constant, nothing, Scope, entity_in, entity, with_names, symbols_in, is_variable, outer_names, main_scope}
use Rattle.dc_tree.specs.Statements.{Name}
use Rattle.dc_meaning.specs.Execution.{exec_all}
use Rattle.dc_meaning.specs.Programs.{surroundings, main_computation}
use Rattle.dc_meaning.proofs.Doing.{May, Any, quietly, Only}
use Rattle.dc_meaning.proofs.Own.{Each, OwnTarget, frame-only}
use Rattle.dc_meaning.proofs.OwnBlocks.{items-own}

-- The variables of the main program, in declared order.
abbrev pub variables_in : List Symbol → List Symbol
variables_in symbols = filter is_variable (symbols_in 0 symbols)

-- What the name of a variable with this number stands for.
abbrev pub variable_entity : ℕ → Symbol → Entity
variable_entity number symbol = by symbol.role
  where
    by : Role → Entity
    by (Role.Variable logical kind bounds initial) = outside number (sort_with logical kind) bounds
    by role = nothing

abbrev are_built_roles : List Symbol → Bool
are_built_roles symbols = list_all (λ symbol. is_built_role symbol.role) symbols

roles-built : (symbols : List Symbol) → list_all is_built_symbol symbols ≡ true → are_built_roles (symbols_in 0 symbols) ≡ true
roles-built [] built = refl
roles-built (first ∷ rest) built =
    let both = and_parts (is_built_symbol first) (list_all is_built_symbol rest) built in
    let own = and_parts (nat_eq first.scope 0) (is_built_role first.role) both.0 in
    rw (own.0, own.1) (roles-built rest both.1)

module _ (Good : Entity → Type 0) where
  either-good : (one other : Entity) (b : Bool) → Good one → Good other → Good (if b then one else other)
  either-good one other true first second = first
  either-good one other false first second = second

  -- More names in front, each of which stands for something good.
  pub inner-good : (names : List (Name × Entity)) (groups : ℕ) (scope : Scope) → Each (λ w. Good w.1) names → ((text : Name) → Good (entity scope text))
      → (text : Name) → Good (entity (with_names names groups scope) text)
  inner-good [] groups scope each around text = around text
  inner-good ((first, e) ∷ names) groups scope each around text =
      either-good e (entity_in (names ++ scope.names) text) (bytes_eq first text) each.0 (inner-good names groups scope each.1 around text)

  module _ (none : Good nothing) (constants : (sort : Sort) (z : ℤ) → Good (constant sort z)) (all : List Symbol) where
    -- the variables of these symbols are good, counted from a number on
    abbrev AreGood : ℕ → List Symbol → Type 0
    AreGood number symbols = (k : ℕ) (symbol : Symbol) → slice_get (filter is_variable symbols) k ≡ Some symbol → (n : ℕ) → n ≡ number + k → Good (variable_entity n symbol)

    names-good : (number : ℕ) (symbols : List Symbol) → are_built_roles symbols ≡ true → AreGood number symbols → (text : Name) → Good (entity_in (outer_names all number symbols) text)
    names-good number [] built good text = none
    names-good number (symbol ∷ rest) built good text =
        let both = and_parts (is_built_role symbol.role) (are_built_roles rest) built in
        by symbol.role refl both.0 (λ n later. names-good n rest both.1 later text)
      where
        by : (role : Role) → symbol.role ≡ role → is_built_role role ≡ true → ((n : ℕ) → AreGood n rest → Good (entity_in (outer_names all n rest) text))
            → Good (entity_in (outer_names all number (symbol ∷ rest)) text)
        by (Role.Variable logical kind bounds initial) is built behind =
            let same : variable_entity number symbol ≡ outside number (sort_with logical kind) bounds = rw is refl in
            let here : Good (outside number (sort_with logical kind) bounds) = subst Good same (good 0 symbol (rw is refl) number (omega arith)) in
            let later : AreGood (suc number) rest = λ k other found n same. good (suc k) other (rw is found) n (omega (arith, same)) in
            rw is (either-good (outside number (sort_with logical kind) bounds) (entity_in (outer_names all (suc number) rest) text) (bytes_eq symbol.name text) here (behind (suc number) later))
        by (Role.Constant logical kind value) is built behind =
            let later : AreGood number rest = λ k other found n same. good k other (rw is found) n same in
            rw is
            (either-good (constant (sort_with logical kind) value) (entity_in (outer_names all number rest) text) (bytes_eq symbol.name text) (constants (sort_with logical kind) value) (behind number later))
        by role is built behind = cc

  -- What each name of a program stands for is good.
  pub scope-good : (symbols : List Symbol) → are_built_symbols symbols ≡ true → Good nothing → ((sort : Sort) (z : ℤ) → Good (constant sort z))
      → ((number : ℕ) (symbol : Symbol) → slice_get (variables_in symbols) number ≡ Some symbol → Good (variable_entity number symbol))
      → (text : Name) → Good (entity (main_scope symbols) text)
  scope-good symbols built none constants variables text =
      let parts = and_parts (nat_le (length symbols) greatest_names) (list_all is_built_symbol symbols && nat_le (elements_of_all symbols) greatest_elements) built in
      let each = and_parts (list_all is_built_symbol symbols) (nat_le (elements_of_all symbols) greatest_elements) parts.1 in
      names-good none constants symbols 0 (symbols_in 0 symbols) (roles-built symbols each.0)
      (λ k symbol found n same. let here : n ≡ k = omega (arith, same) in rw here (variables k symbol found)) text

-- ---- of elements

-- Each name of a program may be assigned to as the variables may.
pub scope-own : (may : May) (symbols : List Symbol) → are_built_symbols symbols ≡ true
    → ((number : ℕ) (symbol : Symbol) → slice_get (variables_in symbols) number ≡ Some symbol → OwnTarget may (variable_entity number symbol))
    → (text : Name) → OwnTarget may (entity (main_scope symbols) text)
scope-own may symbols built variables text = scope-good (OwnTarget may) symbols built tt (λ sort z. tt) variables text

-- What the main program does is only what it may, where lines may be written and loops entered.
pub main-own : (may : May) (symbols : List Symbol) (source : Source) (turns : ℕ) → are_built_items (main_scope symbols) source.body ≡ true
    → ((text : Name) → OwnTarget may (entity (main_scope symbols) text))
    → ((line : ℕ) (bytes : List ℕ) → may.pause_at (write_line line bytes)) → ((number turns : ℕ) (around : Slots) → may.pause_at (enter_loop number turns around))
    → Only may Any (main_computation symbols source turns)
main-own may symbols source turns body own writes enters =
    let scope = main_scope symbols in
    let call = (surroundings symbols source turns).call in
    frame-only may [] turns (exec_all scope call 0 source.body) (λ flow left. tt)
    (items-own may scope own call writes enters 0 source.body body)

-- Whatever may be done to elements, where nothing more is to be known.
abbrev pub anything : May
anything = quietly Any (λ x state. Unit {0})

pub anything-own : (symbols : List Symbol) → are_built_symbols symbols ≡ true → (text : Name) → OwnTarget anything (entity (main_scope symbols) text)
anything-own symbols built text = scope-own anything symbols built (λ number symbol found. by number symbol symbol.role refl) text
  where
    by : (number : ℕ) (symbol : Symbol) (role : Role) → symbol.role ≡ role → OwnTarget anything (variable_entity number symbol)
    by number symbol (Role.Variable logical kind bounds initial) is = rw is (λ position below. (tt, λ given. tt))
    by number symbol (Role.Constant logical kind value) is = rw is tt
    by number symbol role is = rw is tt
