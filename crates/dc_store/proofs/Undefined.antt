-- The store of which nothing is defined: its rows, and that it fits.
use Rattle.std.proofs.Common.{◌≡◌, ℕ, zero, suc, ◌≤◌, true, ◌&&◌, List, [], ◌∷◌, map, replicate, Option, Some, None, refl, ap, ap₂, ◌∙◌, arith}
use Rattle.std.specs.Prelude.{ℤ, pos, ◌+ℤ◌}
use Rattle.std.specs.Int.{int_gap}
use Rattle.std.specs.List.{list_all}
use Rattle.std.proofs.lemmas.Bool.{eq-eqb}
use Rattle.std.proofs.lemmas.Int.{ints}
use Rattle.std.proofs.lemmas.List.{length-replicate}
use Rattle.dc_int.specs.declared.variable.Shape.{Shape}
use Rattle.dc_int.specs.Shapes.{cell_fits, variable_fits, store_fits}
use Rattle.dc_int.specs.Store.{elements_in}
use Rattle.dc_store.specs.Rows.{variable_with}
use Rattle.dc_store.specs.Shaped.{IsFitting, elements_together, one_dimension, undefined_variable, undefined_store}

-- Undefined cells, and their bounds.
pub undefined-cells : (shape : Shape) (cells : List (Option ℤ)) → cells ≡ replicate shape.elements None → variable_with cells ≡ undefined_variable shape
undefined-cells shape cells is =
    ap variable_with is ∙ ap (λ n. record { bounds = Some (one_dimension n); cells = replicate shape.elements None }) (length-replicate shape.elements None)

gap-one : (n : ℕ) → int_gap (pos 1) (pos n +ℤ pos 1) ≡ n
gap-one n = omega (arith, ints)

elements-one_dimension : (n : ℕ) → elements_in (one_dimension n) ≡ n
elements-one_dimension n = let gap = gap-one n in omega (arith, gap)

all-undefined : (shape : Shape) (n : ℕ) → list_all (cell_fits shape) (replicate n None) ≡ true
all-undefined shape zero = refl
all-undefined shape (suc n) = all-undefined shape n

both : {a b : _} → a ≡ true → b ≡ true → (a && b) ≡ true
both one other = ap₂ (λ a b. a && b) one other

undefined-fits : (shape : Shape) → variable_fits shape (undefined_variable shape) ≡ true
undefined-fits shape =
    both (eq-eqb _ _ (elements-one_dimension shape.elements))
    (both (eq-eqb _ _ (length-replicate shape.elements None)) (all-undefined shape shape.elements))

all-fit : (shapes : List Shape) → store_fits shapes (map undefined_variable shapes) ≡ true
all-fit [] = refl
all-fit (shape ∷ shapes) = both (undefined-fits shape) (all-fit shapes)

-- It fits its shapes.
pub fitting-undefined : (shapes : List Shape) → elements_together shapes ≤ 4194304 → IsFitting (undefined_store shapes)
fitting-undefined shapes few = record { fits = all-fit shapes; few = few }
