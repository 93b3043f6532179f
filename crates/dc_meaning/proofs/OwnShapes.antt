-- What a program may store in its variables fits their shapes.
use Rattle.std.proofs.Common.{◌≡◌, ℕ, true, List, Option, Some, None, refl, sym, ap, ◌∙◌}
use Rattle.std.specs.Prelude.{ℤ, slice_get}
use Rattle.dc_int.specs.declared.access.ElementId.{ElementId}
use Rattle.dc_int.specs.declared.variable.Shape.{Shape}
use Rattle.dc_int.specs.Kinds.{value_fits}
use Rattle.dc_int.specs.Shapes.{state_fits}
use Rattle.dc_int.specs.Sorts.{Sort, sort_with, fitted}
use Rattle.dc_int.proofs.Fits.{fitted-fits}
use Rattle.dc_tree.specs.declared.symbols.Role.{Role}
use Rattle.dc_tree.specs.declared.symbols.Symbol.{Symbol}
use Rattle.dc_form.specs.BuiltPrograms.{are_built_symbols}
use Rattle.dc_tree.specs.Entities.{outside, entity, main_scope}
use Rattle.dc_tree.specs.Statements.{Name}
use Rattle.dc_tree.specs.Typing.{sort_of_entity}
use Rattle.dc_meaning.proofs.Doing.{May, Any, quietly}
use Rattle.dc_meaning.proofs.Own.{OwnTarget}
use Rattle.dc_meaning.proofs.OwnScopes.{variables_in, variable_entity, scope-own}

-- Elements may be left in states that fit.
abbrev pub fitting : List Shape → May
fitting shapes = quietly Any (λ x state. state_fits shapes x state ≡ true)

-- The shapes are of the sorts of the variables, in declared order.
abbrev pub AreSorted : List Shape → List Symbol → Type 0
AreSorted shapes symbols =
    (number : ℕ) (symbol : Symbol) (shape : Shape) → slice_get (variables_in symbols) number ≡ Some symbol → slice_get shapes number ≡ Some shape
    → sort_of_entity (variable_entity number symbol) ≡ sort_with shape.logical shape.kind

-- A value as a variable of the sort of a shape takes it fits.
stored-fits : (shapes : List Shape) (x : ElementId) (sort : Sort) → ((shape : Shape) → slice_get shapes x.variable ≡ Some shape → sort ≡ sort_with shape.logical shape.kind)
    → (given : ℤ) → state_fits shapes x (Some (fitted sort given)) ≡ true
stored-fits shapes x sort sorted given = by (slice_get shapes x.variable) refl
  where
    by : (found : Option Shape) → slice_get shapes x.variable ≡ found → state_fits shapes x (Some (fitted sort given)) ≡ true
    by None is = rw is refl
    by (Some shape) is = rw is (ap (λ s. value_fits shape.kind shape.logical (fitted s given)) (sorted shape is) ∙ fitted-fits shape.logical shape.kind given)

-- Each name of a program may be assigned to so.
pub fitting-own : (shapes : List Shape) (symbols : List Symbol) → are_built_symbols symbols ≡ true → AreSorted shapes symbols
    → (text : Name) → OwnTarget (fitting shapes) (entity (main_scope symbols) text)
fitting-own shapes symbols built sorted text = scope-own (fitting shapes) symbols built (λ number symbol found. by number symbol found symbol.role refl) text
  where
    by : (number : ℕ) (symbol : Symbol) → slice_get (variables_in symbols) number ≡ Some symbol → (role : Role) → symbol.role ≡ role → OwnTarget (fitting shapes) (variable_entity number symbol)
    by number symbol found (Role.Variable logical kind bounds initial) is =
        let same : variable_entity number symbol ≡ outside number (sort_with logical kind) bounds = rw is refl in
        rw is
        (λ position below. (
          tt,
          stored-fits shapes (record { variable = number; position = position }) (sort_with logical kind)
              (λ shape at. sym (ap sort_of_entity same) ∙ sorted number symbol shape found at),
        ))
    by number symbol found (Role.Constant logical kind value) is = rw is tt
    by number symbol found role is = rw is tt
