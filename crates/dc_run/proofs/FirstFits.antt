-- The store with which a program begins fits its variables.
use Rattle.std.proofs.Common.{◌≡◌, ℕ, zero, suc, true, ◌&&◌, List, [], ◌∷◌, map, length, Option, Some, None, refl, sym, ap, ap₂, ◌∙◌, eq-eqb}
use Rattle.std.proofs.lemmas.Bool.{and_parts, eqb-true}
use Rattle.std.specs.Prelude.{ℤ, nat_eq, replicate, filter_map}
use Rattle.std.specs.List.{list_all}
use Rattle.dc_int.specs.declared.variable.Shape.{Shape}
use Rattle.dc_int.specs.Kinds.{value_fits}
use Rattle.dc_int.specs.Shapes.{cell_fits, variable_fits, store_fits}
use Rattle.dc_int.specs.Store.{Bounds, Variable, elements_in}
use Rattle.dc_tree.specs.declared.symbols.Role.{Role}
use Rattle.dc_tree.specs.declared.symbols.Symbol.{Symbol}
use Rattle.dc_form.specs.BuiltPrograms.{is_filled, is_built_role, is_built_symbol}
use Rattle.dc_tree.specs.Entities.{symbols_in}
use Rattle.dc_tree.specs.Symbols.{role_fits, stands_in, is_sound}
use Rattle.dc_meaning.specs.Programs.{first_store, first_variable, first_cells}
use Rattle.dc_run.specs.Stores.{declared_shape, Fits}

-- ---- the cells of a variable

undefined-cells : (shape : Shape) (n : ℕ) → list_all (cell_fits shape) (replicate n None) ≡ true
undefined-cells shape zero = refl
undefined-cells shape (suc n) = undefined-cells shape n

undefined-count : (n : ℕ) → length (replicate {A = Option ℤ} n None) ≡ n
undefined-count zero = refl
undefined-count (suc n) = ap suc (undefined-count n)

given-cells : (shape : Shape) (given : List ℤ) → list_all (value_fits shape.kind shape.logical) given ≡ true → list_all (cell_fits shape) (map (λ z. Some z) given) ≡ true
given-cells shape [] fits = refl
given-cells shape (z ∷ given) fits =
    let both = and_parts (value_fits shape.kind shape.logical z) (list_all (value_fits shape.kind shape.logical) given) fits in ap₂ (λ a b. a && b) both.0 (given-cells shape given both.1)

given-count : (given : List ℤ) → length (map {B = Option ℤ} (λ z. Some z) given) ≡ length given
given-count [] = refl
given-count (z ∷ given) = ap suc (given-count given)

cells-fit : (shape : Shape) (bounds : Bounds) (cells : List (Option ℤ)) → shape.elements ≡ elements_in bounds → length cells ≡ elements_in bounds → list_all (cell_fits shape) cells ≡ true
    → variable_fits shape (record { bounds = Some bounds; cells = cells }) ≡ true
cells-fit shape bounds cells elements count each =
    ap₂ (λ a b. a && b) (eq-eqb (elements_in bounds) shape.elements (sym elements)) (ap₂ (λ a b. a && b) (eq-eqb (length cells) shape.elements (count ∙ sym elements)) each)

-- A variable begins with values that fit it.
begun-fits : (shape : Shape) (bounds : Bounds) (initial : List ℤ) → shape.elements ≡ elements_in bounds → is_filled bounds initial ≡ true
    → list_all (value_fits shape.kind shape.logical) initial ≡ true → variable_fits shape (record { bounds = Some bounds; cells = first_cells bounds initial }) ≡ true
begun-fits shape bounds [] elements filled fits =
    cells-fit shape bounds (replicate (elements_in bounds) None) elements (undefined-count (elements_in bounds)) (undefined-cells shape (elements_in bounds))
begun-fits shape bounds (z ∷ initial) elements filled fits =
    let given = z ∷ initial in
    cells-fit shape bounds (map (λ z. Some z) given) elements (given-count given ∙ eqb-true (length given) (elements_in bounds) filled) (given-cells shape given fits)

-- ---- the store

-- One name more, which is a variable or a constant.
first-more : (symbols : List Symbol) (first : Symbol) → is_built_role first.role ≡ true → role_fits first.role ≡ true
    → store_fits (filter_map declared_shape symbols) (filter_map first_variable symbols) ≡ true
    → store_fits (filter_map declared_shape (first ∷ symbols)) (filter_map first_variable (first ∷ symbols)) ≡ true
first-more symbols first built fits later = by first.role refl built fits
  where
    by : (role : Role) → first.role ≡ role → is_built_role role ≡ true → role_fits role ≡ true
        → store_fits (filter_map declared_shape (first ∷ symbols)) (filter_map first_variable (first ∷ symbols)) ≡ true
    by (Role.Variable logical kind bounds initial) is filled fits =
        let shape : Shape = record { kind = kind; logical = logical; elements = elements_in bounds } in
        let variable : Variable = record { bounds = Some bounds; cells = first_cells bounds initial } in
        let shapes : filter_map declared_shape (first ∷ symbols) ≡ shape ∷ filter_map declared_shape symbols = rw is refl in
        let variables : filter_map first_variable (first ∷ symbols) ≡ variable ∷ filter_map first_variable symbols = rw is refl in
        ap₂ store_fits shapes variables ∙ ap₂ (λ a b. a && b) (begun-fits shape bounds initial refl filled fits) later
    by (Role.Constant logical kind value) is filled fits =
        let shapes : filter_map declared_shape (first ∷ symbols) ≡ filter_map declared_shape symbols = rw is refl in
        let variables : filter_map first_variable (first ∷ symbols) ≡ filter_map first_variable symbols = rw is refl in
        ap₂ store_fits shapes variables ∙ later
    by role is filled fits = cc

pub first-fits : (symbols : List Symbol) → list_all is_built_symbol symbols ≡ true → list_all is_sound symbols ≡ true → Fits symbols (first_store symbols)
first-fits [] built sound = refl
first-fits (first ∷ rest) built sound =
    let both = and_parts (is_built_symbol first) (list_all is_built_symbol rest) built in
    let own = and_parts (nat_eq first.scope 0) (is_built_role first.role) both.0 in
    let all = and_parts (is_sound first) (list_all is_sound rest) sound in
    let names : symbols_in 0 (first ∷ rest) ≡ first ∷ symbols_in 0 rest = rw own.0 refl in
    ap (λ (l : List Symbol). store_fits (filter_map declared_shape l) (filter_map first_variable l)) names
    ∙ first-more (symbols_in 0 rest) first own.1 (and_parts (role_fits first.role) (stands_in first.scope first.role) all.0).0 (first-fits rest both.1 all.1)
