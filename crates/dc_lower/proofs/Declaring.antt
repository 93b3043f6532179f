-- The outside variables that symbols declare, one symbol after the other.
use Rattle.std.proofs.Common.{◌≡◌, ℕ, suc, ◌≤◌, true, List, [], ◌∷◌, ◌++◌, map, refl, ap, ap₂, arith}
use Rattle.std.specs.Prelude.{nat_eq}
use Rattle.std.specs.List.{list_all}
use Rattle.std.proofs.lemmas.Bool.{and_parts}
use Rattle.dc_int.specs.Sorts.{Sort, sort_with}
use Rattle.dc_int.specs.Store.{Bounds}
use Rattle.dc_tree.specs.declared.symbols.Role.{Role}
use Rattle.dc_tree.specs.declared.symbols.Symbol.{Symbol}
use Rattle.dc_form.specs.BuiltPrograms.{is_built_symbol, is_built_role, elements_of_all}
use Rattle.dc_tree.specs.Entities.{symbols_in}
use Rattle.dc_tree.specs.Statements.{Name}
use Rattle.dc_meaning.specs.Concurrent.{Outside}
use Rattle.dc_meaning.specs.Programs.{outsides_from}
use Rattle.dc_lower.specs.Lowered.{shape_of}
use Rattle.dc_lower.specs.Variables.{shapes_of, bounds_of_all}

abbrev numbered : Name → Sort → Bounds → ℕ → Outside
numbered name sort bounds number = record { name = name; number = number; sort = sort; bounds = bounds }

-- What is told of variables whatever their numbers are.
module _ {A : Type 0} (tell : Outside → A) (alike : (name : Name) (sort : Sort) (bounds : Bounds) (n m : ℕ) → tell (numbered name sort bounds n) ≡ tell (numbered name sort bounds m)) where
  told-by : (n m : ℕ) (symbol : Symbol) (rest : List Symbol) (role : Role) → symbol.role ≡ role → ((n m : ℕ) → map tell (outsides_from n rest) ≡ map tell (outsides_from m rest))
      → map tell (outsides_from n (symbol ∷ rest)) ≡ map tell (outsides_from m (symbol ∷ rest))
  told-by n m symbol rest (Role.Variable logical kind bounds initial) is behind =
      rw is (ap₂ (λ (a : A) (l : List A). a ∷ l) (alike symbol.name (sort_with logical kind) bounds n m) (behind (suc n) (suc m)))
  told-by n m symbol rest (Role.Constant logical kind value) is behind = rw is (behind n m)
  told-by n m symbol rest (Role.Dummy place logical kind intent) is behind = rw is (behind n m)
  told-by n m symbol rest (Role.Result logical kind) is behind = rw is (behind n m)
  told-by n m symbol rest (Role.Function procedure) is behind = rw is (behind n m)
  told-by n m symbol rest (Role.Subroutine procedure) is behind = rw is (behind n m)

  told-alike : (n m : ℕ) (symbols : List Symbol) → map tell (outsides_from n symbols) ≡ map tell (outsides_from m symbols)
  told-alike n m [] = refl
  told-alike n m (symbol ∷ rest) = told-by n m symbol rest symbol.role refl (λ k l. told-alike k l rest)

  told-cons : (symbol : Symbol) (rest : List Symbol) (role : Role) → symbol.role ≡ role
      → map tell (outsides_from 0 (symbol ∷ rest)) ≡ map tell (outsides_from 0 (symbol ∷ [])) ++ map tell (outsides_from 0 rest)
  told-cons symbol rest (Role.Variable logical kind bounds initial) is =
      rw is (ap (λ (l : List A). tell (numbered symbol.name (sort_with logical kind) bounds 0) ∷ l) (told-alike 1 0 rest))
  told-cons symbol rest (Role.Constant logical kind value) is = rw is refl
  told-cons symbol rest (Role.Dummy place logical kind intent) is = rw is refl
  told-cons symbol rest (Role.Result logical kind) is = rw is refl
  told-cons symbol rest (Role.Function procedure) is = rw is refl
  told-cons symbol rest (Role.Subroutine procedure) is = rw is refl

  told-first : (symbol : Symbol) (rest : List Symbol) → nat_eq symbol.scope 0 ≡ true
      → map tell (outsides_from 0 (symbols_in 0 (symbol ∷ rest))) ≡ map tell (outsides_from 0 (symbols_in 0 (symbol ∷ []))) ++ map tell (outsides_from 0 (symbols_in 0 rest))
  told-first symbol rest here = rw here (told-cons symbol (symbols_in 0 rest) symbol.role refl)

pub shapes-first : (symbol : Symbol) (rest : List Symbol) → nat_eq symbol.scope 0 ≡ true → shapes_of (symbol ∷ rest) ≡ shapes_of (symbol ∷ []) ++ shapes_of rest
shapes-first symbol rest here = told-first shape_of (λ name sort bounds n m. refl) symbol rest here

pub bounds-first : (symbol : Symbol) (rest : List Symbol) → nat_eq symbol.scope 0 ≡ true → bounds_of_all (symbol ∷ rest) ≡ bounds_of_all (symbol ∷ []) ++ bounds_of_all rest
bounds-first symbol rest here = told-first (λ (variable : Outside). variable.bounds) (λ name sort bounds n m. refl) symbol rest here

pub built-first : (symbol : Symbol) (rest : List Symbol) → list_all is_built_symbol (symbol ∷ rest) ≡ true → (nat_eq symbol.scope 0 ≡ true) × (list_all is_built_symbol rest ≡ true)
built-first symbol rest built =
    let both = and_parts (is_built_symbol symbol) (list_all is_built_symbol rest) built in
    ((and_parts (nat_eq symbol.scope 0) (is_built_role symbol.role) both.0).0, both.1)

pub few-behind : (symbol : Symbol) (rest : List Symbol) → elements_of_all (symbol ∷ rest) ≤ 4194304 → elements_of_all rest ≤ 4194304
few-behind symbol rest few = omega (arith, few)
