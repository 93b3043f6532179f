-- What a main program defines fits its variables, and it takes no values from the input.
use Rattle.std.proofs.Common.{◌≡◌, ℕ, zero, suc, true, List, [], ◌∷◌, Some, None, refl, sym, ap, ◌∙◌}
use Rattle.std.proofs.lemmas.Option.{none-some, same_Some}
use Rattle.std.specs.Prelude.{slice_get, filter, filter_map}
use Rattle.dc_int.specs.declared.variable.Shape.{Shape}
use Rattle.dc_int.specs.Shapes.{state_fits}
use Rattle.dc_int.specs.Sorts.{sort_with}
use Rattle.dc_int.specs.Store.{elements_in}
use Rattle.dc_code.specs.Troubles.{Event, take_elements}
use Rattle.dc_tree.specs.declared.symbols.Role.{Role}
use Rattle.dc_tree.specs.declared.symbols.Symbol.{Symbol}
use Rattle.dc_tree.specs.Blocks.{Source}
use Rattle.dc_form.specs.BuiltPrograms.{are_built_symbols, are_built_items}
use Rattle.dc_tree.specs.Entities.{is_variable, symbols_in, main_scope}
use Rattle.dc_tree.specs.Typing.{sort_of_entity}
use Rattle.dc_meaning.specs.Programs.{main_computation}
use Rattle.dc_meaning.proofs.Doing.{May, Any, Only}
use Rattle.dc_meaning.proofs.OwnScopes.{variable_entity, main-own}
use Rattle.dc_meaning.proofs.OwnShapes.{AreSorted, fitting-own}
use Rattle.dc_run.specs.Stores.{declared_shape, declared_shapes}

-- No values are taken for elements.
abbrev pub TakesNothing : Event → Type 0
TakesNothing (take_elements line sort elements) = ⊥
TakesNothing event = Unit {0}

-- Each state that is left fits, and no values are taken for elements.
abbrev pub keeping : List Shape → May
keeping shapes = record { access = Any; leave = λ x state. state_fits shapes x state ≡ true; pause_at = TakesNothing }

-- ---- the declared variables

-- A variable has the shape of its number.
pub shape-at : (symbols : List Symbol) (k : ℕ) (symbol : Symbol) → slice_get (filter is_variable symbols) k ≡ Some symbol → slice_get (filter_map declared_shape symbols) k ≡ declared_shape symbol
shape-at [] k symbol found = absurd (none-some symbol found)
shape-at (first ∷ rest) k symbol found = by first.role refl k found (shape-at rest)
  where
    by : (role : Role) → first.role ≡ role → (k : ℕ) → slice_get (filter is_variable (first ∷ rest)) k ≡ Some symbol
        → ((k : ℕ) (symbol : Symbol) → slice_get (filter is_variable rest) k ≡ Some symbol → slice_get (filter_map declared_shape rest) k ≡ declared_shape symbol)
        → slice_get (filter_map declared_shape (first ∷ rest)) k ≡ declared_shape symbol
    by (Role.Variable logical kind bounds initial) is k found later =
        let shape : Shape = record { kind = kind; logical = logical; elements = elements_in bounds } in
        let variables : filter is_variable (first ∷ rest) ≡ first ∷ filter is_variable rest = rw is refl in
        let shapes : filter_map declared_shape (first ∷ rest) ≡ shape ∷ filter_map declared_shape rest = rw is refl in
        let here : declared_shape first ≡ Some shape = rw is refl in
        ap (λ all. slice_get all k) shapes ∙ at shape here k (ap (λ all. slice_get all k) (sym variables) ∙ found) later
      where
        at : (shape : Shape) → declared_shape first ≡ Some shape → (k : ℕ) → slice_get (first ∷ filter is_variable rest) k ≡ Some symbol
            → ((k : ℕ) (symbol : Symbol) → slice_get (filter is_variable rest) k ≡ Some symbol → slice_get (filter_map declared_shape rest) k ≡ declared_shape symbol)
            → slice_get (shape ∷ filter_map declared_shape rest) k ≡ declared_shape symbol
        at shape here zero found later = sym here ∙ ap declared_shape (same_Some first symbol found)
        at shape here (suc k) found later = later k symbol found
    by role is k found later =
        let variables : filter is_variable (first ∷ rest) ≡ filter is_variable rest = rw is refl in
        let shapes : filter_map declared_shape (first ∷ rest) ≡ filter_map declared_shape rest = rw is refl in
        ap (λ all. slice_get all k) shapes ∙ later k symbol (ap (λ all. slice_get all k) (sym variables) ∙ found)

-- The shapes are of the sorts of the variables.
pub shapes-sorted : (symbols : List Symbol) → AreSorted (declared_shapes symbols) symbols
shapes-sorted symbols number symbol shape found at = by symbol.role refl (sym (shape-at (symbols_in 0 symbols) number symbol found) ∙ at)
  where
    by : (role : Role) → symbol.role ≡ role → declared_shape symbol ≡ Some shape → sort_of_entity (variable_entity number symbol) ≡ sort_with shape.logical shape.kind
    by (Role.Variable logical kind bounds initial) is declared =
        let own : Shape = record { kind = kind; logical = logical; elements = elements_in bounds } in
        let here : declared_shape symbol ≡ Some own = rw is refl in
        let same : own ≡ shape = same_Some own shape (sym here ∙ declared) in
        rw is (ap (λ (s : Shape). sort_with s.logical s.kind) same)
    by role is declared = let none : declared_shape symbol ≡ None = rw is refl in absurd (none-some shape (sym none ∙ declared))

-- ---- a program

-- What the main program defines fits its variables.
pub main-keeps : (symbols : List Symbol) (source : Source) (turns : ℕ) → are_built_symbols symbols ≡ true → are_built_items (main_scope symbols) source.body ≡ true
    → Only (keeping (declared_shapes symbols)) Any (main_computation symbols source turns)
main-keeps symbols source turns names body =
    let shapes = declared_shapes symbols in
    main-own (keeping shapes) symbols source turns body (fitting-own shapes symbols names (shapes-sorted symbols)) (λ line written. tt) (λ number turns around. tt)
