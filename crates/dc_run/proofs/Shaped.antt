-- The shapes of the variables in a code.
use Rattle.std.proofs.Common.{◌≡◌, ℕ, zero, suc, Bool, true, false, ◌&&◌, List, [], ◌∷◌, map, Option, Some, None, refl, sym, ap, ap₂, ◌∙◌, arith}
use Rattle.std.specs.List.{list_all}
use Rattle.std.specs.Prelude.{ℤ, pos, negsuc, filter_map, length, ◌==◌}
use Rattle.dc_int.specs.declared.kind.Kind.{Kind}
use Rattle.dc_int.specs.declared.variable.Shape.{Shape}
use Rattle.dc_int.specs.Kinds.{value_fits, is_of_kind, is_truth_value}
use Rattle.dc_int.specs.Shapes.{cell_fits, variable_fits, store_fits}
use Rattle.dc_int.specs.Sorts.{sort_with}
use Rattle.dc_int.specs.Store.{Bounds, Variable, Store, elements_in, elements_within}
use Rattle.dc_tree.specs.declared.symbols.Role.{Role}
use Rattle.dc_tree.specs.declared.symbols.Symbol.{Symbol}
use Rattle.dc_meaning.specs.Programs.{outsides_from}
use Rattle.dc_lower.specs.Lowered.{shape_of}
use Rattle.dc_run.specs.Stores.{declared_shape}

and-none : (b : Bool) → (b && false) ≡ false
and-none true = refl
and-none false = refl

-- A truth value fits a LOGICAL of any kind.
truths-fit : (kind : Kind) (z : ℤ) → value_fits kind true z ≡ value_fits Kind.K4 true z
truths-fit Kind.K1 (pos zero) = refl
truths-fit Kind.K2 (pos zero) = refl
truths-fit Kind.K4 (pos zero) = refl
truths-fit Kind.K8 (pos zero) = refl
truths-fit Kind.K1 (pos (suc zero)) = refl
truths-fit Kind.K2 (pos (suc zero)) = refl
truths-fit Kind.K4 (pos (suc zero)) = refl
truths-fit Kind.K8 (pos (suc zero)) = refl
truths-fit kind (pos (suc (suc n))) =
    let no : is_truth_value (pos (suc (suc n))) ≡ false = search (arith) in
    ap (λ b. is_of_kind kind (pos (suc (suc n))) && b) no ∙ and-none (is_of_kind kind (pos (suc (suc n))))
    ∙ sym (and-none (is_of_kind Kind.K4 (pos (suc (suc n))))) ∙ ap (λ b. is_of_kind Kind.K4 (pos (suc (suc n))) && b) (sym no)
truths-fit kind (negsuc n) =
    let no : is_truth_value (negsuc n) ≡ false = refl in
    ap (λ b. is_of_kind kind (negsuc n) && b) no ∙ and-none (is_of_kind kind (negsuc n))
    ∙ sym (and-none (is_of_kind Kind.K4 (negsuc n))) ∙ ap (λ b. is_of_kind Kind.K4 (negsuc n) && b) (sym no)

cells-alike : (shape other : Shape) → ((z : ℤ) → value_fits shape.kind shape.logical z ≡ value_fits other.kind other.logical z) → (cells : List (Option ℤ)) → list_all (cell_fits shape) cells ≡ list_all (cell_fits other) cells
cells-alike shape other same [] = refl
cells-alike shape other same (None ∷ cells) = cells-alike shape other same cells
cells-alike shape other same (Some z ∷ cells) = ap₂ (λ a b. a && b) (same z) (cells-alike shape other same cells)

abbrev shape-with : Kind → Bool → ℕ → Shape
shape-with kind logical elements = record { kind = kind; logical = logical; elements = elements }

variable-alike : (logical : Bool) (kind : Kind) (bounds : Bounds) (name : List ℕ) (number : ℕ) (variable : Variable)
    → variable_fits (shape_of (record { name = name; number = number; sort = sort_with logical kind; bounds = bounds })) variable ≡ variable_fits (shape-with kind logical (elements_in bounds)) variable
variable-alike false kind bounds name number variable = refl
variable-alike true kind bounds name number variable =
    ap (λ each. (elements_within variable.bounds == elements_in bounds) && ((length variable.cells == elements_in bounds) && each))
    (cells-alike (shape-with Kind.K4 true (elements_in bounds)) (shape-with kind true (elements_in bounds)) (λ z. sym (truths-fit kind z)) variable.cells)

-- A store fits the shapes in a code just where it fits the declared ones.
pub shapes-alike : (symbols : List Symbol) (number : ℕ) (store : Store) → store_fits (map shape_of (outsides_from number symbols)) store ≡ store_fits (filter_map declared_shape symbols) store
shapes-alike [] number [] = refl
shapes-alike [] number (variable ∷ store) = refl
shapes-alike (first ∷ rest) number store = by first.role refl store (λ n others. shapes-alike rest n others)
  where
    by : (role : Role) → first.role ≡ role → (store : Store) → ((n : ℕ) (others : Store) → store_fits (map shape_of (outsides_from n rest)) others ≡ store_fits (filter_map declared_shape rest) others)
        → store_fits (map shape_of (outsides_from number (first ∷ rest))) store ≡ store_fits (filter_map declared_shape (first ∷ rest)) store
    by (Role.Variable logical kind bounds initial) is [] later = rw is refl
    by (Role.Variable logical kind bounds initial) is (variable ∷ store) later =
        rw is (ap₂ (λ a b. a && b) (variable-alike logical kind bounds first.name number variable) (later (suc number) store))
    by (Role.Constant logical kind value) is store later = rw is (later number store)
    by (Role.Dummy place logical kind intent) is store later = rw is (later number store)
    by (Role.Result logical kind) is store later = rw is (later number store)
    by (Role.Function procedure) is store later = rw is (later number store)
    by (Role.Subroutine procedure) is store later = rw is (later number store)
