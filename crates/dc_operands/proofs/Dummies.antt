-- Arguments and dummies, from a place on.
use Rattle.std.proofs.Common.{◌≡◌, ℕ, ◌+◌, ◌<◌, ◌≤◌, false, List, [], ◌∷◌, length, drop, refl, sym, ap, ◌∙◌, arith}
use Rattle.std.specs.Prelude.{nat_le}
use Rattle.std.proofs.lemmas.List.{drop_all, length-drop}
use Rattle.dc_sorts.specs.declared.meaning.Meaning.{Meaning}
use Rattle.dc_operands.specs.declared.argument.Argument.{Argument}
use Rattle.dc_operands.specs.Arguments.{fit_all, some_breaks_fixed}

fixed-none : (dummies : List Meaning) → some_breaks_fixed dummies [] ≡ false
fixed-none [] = refl
fixed-none (dummy ∷ dummies) = refl

-- behind the last argument
pub fixed-end : (dummies : List Meaning) (arguments : List Argument) (place : ℕ) → length arguments ≤ place → some_breaks_fixed (drop place dummies) (drop place arguments) ≡ false
fixed-end dummies arguments place past = ap (some_breaks_fixed (drop place dummies)) (drop_all place arguments past) ∙ fixed-none (drop place dummies)

fit-behind : (count : ℕ) (dummies : List Meaning) → nat_le (count + length dummies) count ≡ fit_all dummies []
fit-behind count [] = grind arith
fit-behind count (dummy ∷ dummies) = grind arith

-- behind the last argument, with as many dummies or more
pub fit-end : (dummies : List Meaning) (arguments : List Argument) (place : ℕ) → length arguments ≤ place → place ≤ length arguments → place ≤ length dummies
    → nat_le (length dummies) (length arguments) ≡ fit_all (drop place dummies) (drop place arguments)
fit-end dummies arguments place past within known =
    let count : length arguments + length (drop place dummies) ≡ length dummies = omega (arith, length-drop place dummies) in
    ap (λ n. nat_le n (length arguments)) (sym count) ∙ fit-behind (length arguments) (drop place dummies)
    ∙ ap (fit_all (drop place dummies)) (sym (drop_all place arguments past))

-- There are no more dummies.
pub fit-short : (dummies : List Meaning) (arguments : List Argument) (place : ℕ) → length dummies ≤ place → place < length arguments → fit_all (drop place dummies) (drop place arguments) ≡ false
fit-short dummies arguments place past within =
    ap (λ (ds : List Meaning). fit_all ds (drop place arguments)) (drop_all place dummies past) ∙ short (drop place arguments) (omega (arith, length-drop place arguments))
  where
    short : (rest : List Argument) → 0 < length rest → fit_all [] rest ≡ false
    short [] some = absurd (omega (arith, some))
    short (argument ∷ rest) some = refl
