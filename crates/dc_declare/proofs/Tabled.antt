-- The table of names says where each stands.
use Rattle.std.proofs.Common.{◌≡◌, ℕ, suc, Bool, true, false, ◌&&◌, cond, List, [], ◌∷◌, map, Option, Some, None, refl, sym, ap, ◌∙◌}
use Rattle.std.specs.Prelude.{nat_eq, bytes_eq, option_map}
use Rattle.std.specs.List.{list_all}
use Rattle.std.proofs.lemmas.Bool.{and_parts}
use Rattle.std.proofs.lemmas.Option.{none-some}
use Rattle.dc_tree.specs.declared.symbols.Symbol.{Symbol}
use Rattle.dc_tree.specs.Symbols.{declares, symbol_at}
use Rattle.dc_tree.specs.Places.{place_at}
use Rattle.dc_declare.specs.Names.{AreNames, symbol_name, place_of}

abbrev next : Option ℕ → Option ℕ
next place = option_map (λ p. suc p) place

next-none : (place : Option ℕ) → next place ≡ None → place ≡ None
next-none None is = refl
next-none (Some p) is = absurd (none-some (suc p) (sym is))

pub named_place : (symbols : List Symbol) (name : List ℕ) → AreNames symbols → place_at symbols 1 name ≡ place_of (map symbol_name symbols) name
named_place [] name are = refl
named_place (first ∷ rest) name are =
    let parts = and_parts (nat_eq first.scope 1) (list_all (λ (symbol : Symbol). nat_eq symbol.scope 1) rest) are in
    ap (λ b. cond (b && bytes_eq first.name name) (Some 0) (next (place_at rest 1 name))) parts.0
    ∙ ap (λ o. cond (bytes_eq first.name name) (Some 0) (next o)) (named_place rest name parts.1)

unplaced : (symbols : List Symbol) (scope : ℕ) (name : List ℕ) → place_at symbols scope name ≡ None → symbol_at symbols scope name ≡ None
unplaced [] scope name none = refl
unplaced (first ∷ rest) scope name none = by (declares scope name first) (unplaced rest scope name) none
  where
    by : (b : Bool) → (place_at rest scope name ≡ None → symbol_at rest scope name ≡ None) → cond b (Some 0) (next (place_at rest scope name)) ≡ None
        → cond b (Some first) (symbol_at rest scope name) ≡ None
    by true others none = absurd (none-some 0 (sym none))
    by false others none = others (next-none (place_at rest scope name) none)

-- A name that isn't there has no symbol.
pub unnamed : (symbols : List Symbol) (name : List ℕ) → AreNames symbols → place_of (map symbol_name symbols) name ≡ None → symbol_at symbols 1 name ≡ None
unnamed symbols name are none = unplaced symbols 1 name (named_place symbols name are ∙ none)
