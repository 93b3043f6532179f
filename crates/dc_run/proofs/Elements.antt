-- The elements of a program's variables.
use Rattle.std.proofs.Common.{◌≡◌, ◌≤◌, ◌<◌, ℕ, zero, suc, Bool, true, false, ◌&&◌, List, [], ◌∷◌, Option, Some, None, refl, sym, ap, ◌∙◌, subst, arith}
use Rattle.std.proofs.lemmas.Bool.{and_parts, false≢true, leb-true}
use Rattle.std.proofs.lemmas.Option.{none-some, same_Some}
use Rattle.std.specs.Prelude.{nat_eq, nat_le, length, slice_get, filter, IsSomeAnd}
use Rattle.std.specs.List.{list_all}
use Rattle.dc_int.specs.declared.access.ElementId.{ElementId}
use Rattle.dc_int.specs.Store.{elements_in}
use Rattle.dc_tree.specs.declared.symbols.Role.{Role}
use Rattle.dc_tree.specs.declared.symbols.Symbol.{Symbol}
use Rattle.dc_form.specs.BuiltPrograms.{greatest_names, greatest_elements, role_elements, elements_of_all, is_built_symbol, are_built_symbols}
use Rattle.dc_tree.specs.Entities.{entity, is_variable, symbols_in, main_scope}
use Rattle.dc_tree.specs.Statements.{Name}
use Rattle.dc_meaning.proofs.Doing.{May, quietly}
use Rattle.dc_meaning.proofs.Own.{OwnTarget}
use Rattle.dc_meaning.proofs.OwnScopes.{variables_in, variable_entity, scope-own}
use Rattle.dc_run.specs.Answered.{variable_of, bounds_in_role, declared_bounds, IsElement, IsThere}
use Rattle.dc_run.specs.ReportLine.{is_outside}

-- The variables are those of the main program.
pub outside-are : (symbols : List Symbol) → filter is_outside symbols ≡ variables_in symbols
outside-are [] = refl
outside-are (first ∷ rest) = by (nat_eq first.scope 0) refl first.role refl (outside-are rest)
  where
    by : (outer : Bool) → nat_eq first.scope 0 ≡ outer → (role : Role) → first.role ≡ role → filter is_outside rest ≡ variables_in rest
        → filter is_outside (first ∷ rest) ≡ variables_in (first ∷ rest)
    by false outer role is later = rw outer later
    by true outer (Role.Variable logical kind bounds initial) is later =
        let here : is_outside first ≡ true = rw (outer, is) refl in
        let variable : is_variable first ≡ true = rw is refl in
        let left : filter is_outside (first ∷ rest) ≡ first ∷ filter is_outside rest = rw here refl in
        let main : symbols_in 0 (first ∷ rest) ≡ first ∷ symbols_in 0 rest = rw outer refl in
        let kept : filter is_variable (first ∷ symbols_in 0 rest) ≡ first ∷ variables_in rest = rw variable refl in
        left ∙ (ap (λ others. first ∷ others) later ∙ sym (ap (filter is_variable) main ∙ kept))
    by true outer role is later = rw (outer, is) later

-- ---- what a block does is to elements of the program

abbrev pub to_elements : List Symbol → May
to_elements symbols = quietly (IsElement symbols) (λ x state. Unit {0})

variables-own : (symbols : List Symbol) (number : ℕ) (symbol : Symbol) → slice_get (variables_in symbols) number ≡ Some symbol → OwnTarget (to_elements symbols) (variable_entity number symbol)
variables-own symbols number symbol found = by symbol.role refl
  where
    named : slice_get (filter is_outside symbols) number ≡ Some symbol
    named = ap (λ all. slice_get all number) (outside-are symbols) ∙ found

    by : (role : Role) → symbol.role ≡ role → OwnTarget (to_elements symbols) (variable_entity number symbol)
    by (Role.Variable logical kind bounds initial) is =
        let inside : (position : ℕ) → position < elements_in bounds → IsElement symbols (record { variable = number; position = position }) =
        λ position below.
        subst (λ (found : Option Symbol). IsSomeAnd found (λ symbol. position < elements_in (bounds_in_role symbol.role))) (sym named)
        (subst (λ bounds. position < elements_in bounds) (sym (ap bounds_in_role is)) below) in
        rw is (λ position below. (inside position below, λ given. tt))
    by role is = rw is tt

pub names-own : (symbols : List Symbol) → are_built_symbols symbols ≡ true → (text : Name) → OwnTarget (to_elements symbols) (entity (main_scope symbols) text)
names-own symbols built text = scope-own (to_elements symbols) symbols built (variables-own symbols) text

-- ---- an element of a variable is there

outside-few : (symbols : List Symbol) (k : ℕ) (symbol : Symbol) → slice_get (filter is_outside symbols) k ≡ Some symbol → elements_in (bounds_in_role symbol.role) ≤ elements_of_all symbols
outside-few [] k symbol found = absurd (none-some symbol found)
outside-few (first ∷ rest) k symbol found = by (is_outside first) refl k found (outside-few rest)
  where
    counted : (role : Role) → first.role ≡ role → is_outside first ≡ true → elements_in (bounds_in_role first.role) ≡ role_elements first.role
    counted (Role.Variable logical kind bounds initial) is outside = rw is refl
    counted role is outside =
        let none : is_outside first ≡ (nat_eq first.scope 0 && false) = rw is refl in
        absurd (false≢true (and_parts (nat_eq first.scope 0) false (sym none ∙ outside)).1)

    by : (outside : Bool) → is_outside first ≡ outside → (k : ℕ) → slice_get (filter is_outside (first ∷ rest)) k ≡ Some symbol
        → ((k : ℕ) (symbol : Symbol) → slice_get (filter is_outside rest) k ≡ Some symbol → elements_in (bounds_in_role symbol.role) ≤ elements_of_all rest)
        → elements_in (bounds_in_role symbol.role) ≤ elements_of_all (first ∷ rest)
    by true outside zero found later =
        let all : filter is_outside (first ∷ rest) ≡ first ∷ filter is_outside rest = rw outside refl in
        let same : first ≡ symbol = same_Some first symbol (ap (λ l. slice_get l 0) (sym all) ∙ found) in
        let here : elements_in (bounds_in_role symbol.role) ≡ role_elements first.role = ap (λ (s : Symbol). elements_in (bounds_in_role s.role)) (sym same) ∙ counted first.role refl outside in
        omega (arith, here)
    by true outside (suc k) found later =
        let all : filter is_outside (first ∷ rest) ≡ first ∷ filter is_outside rest = rw outside refl in
        let few = later k symbol (ap (λ l. slice_get l (suc k)) (sym all) ∙ found) in
        omega (arith, few)
    by false outside k found later =
        let all : filter is_outside (first ∷ rest) ≡ filter is_outside rest = rw outside refl in
        let few = later k symbol (ap (λ l. slice_get l k) (sym all) ∙ found) in
        omega (arith, few)

pub element-there : (symbols : List Symbol) → are_built_symbols symbols ≡ true → (x : ElementId) → IsElement symbols x → IsThere (declared_bounds (variable_of symbols x)) x.position
element-there symbols built x own = by (variable_of symbols x) refl own
  where
    most : elements_of_all symbols ≤ 4194304
    most =
        let parts = and_parts (nat_le (length symbols) greatest_names) (list_all is_built_symbol symbols && nat_le (elements_of_all symbols) greatest_elements) built in
        leb-true (elements_of_all symbols) 4194304 (and_parts (list_all is_built_symbol symbols) (nat_le (elements_of_all symbols) greatest_elements) parts.1).1

    by : (found : Option Symbol) → variable_of symbols x ≡ found → IsSomeAnd found (λ symbol. x.position < elements_in (bounds_in_role symbol.role)) → IsThere (declared_bounds found) x.position
    by None found own = absurd own
    by (Some symbol) found own = let few = outside-few symbols x.variable symbol found in record { inside = own; few = omega (arith, few, most) }
