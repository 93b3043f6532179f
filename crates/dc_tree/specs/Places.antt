-- Where the symbols stand, as the list says it and as the index does; and the results of functions.
use Rattle.std.specs.Prelude.{◌≡◌, ℕ, suc, Bool, ◌&&◌, nat_eq, bytes_eq, cond, IsTrue, List, [], ◌∷◌, Option, Some, None, slice_get, option_map, option_and_then}
use Rattle.std.specs.List.{list_all}
use Rattle.std.specs.Option.{option_or}
use Rattle.indexmap.specs.IndexMap.{get_by}
use Rattle.dc_int.specs.declared.kind.Kind.{Kind}
use Rattle.dc_int.specs.Sorts.{Sort}
use Rattle.dc_tree.specs.declared.symbols.NamedScope.{NamedScope}
use Rattle.dc_tree.specs.declared.symbols.Symbol.{Symbol}
use Rattle.dc_tree.specs.Entities.{symbols_in, result_in}
use Rattle.dc_tree.specs.Symbols.{declares, declared_sort, is_sound}

-- the place of a name's first symbol
abbrev pub place_at : List Symbol → ℕ → List ℕ → Option ℕ
place_at [] scope name = None
place_at (first ∷ rest) scope name = cond (declares scope name first) (Some 0) (option_map (λ place. suc place) (place_at rest scope name))

-- the place that the index has for a name
abbrev pub place_in : List NamedScope → ℕ → List ℕ → Option ℕ
place_in scopes scope name = option_and_then (λ (own : NamedScope). get_by (λ key. bytes_eq name key.items) own.names) (slice_get scopes scope)

-- the result that is noted for a scope
abbrev pub noted_in : List NamedScope → ℕ → Option Sort
noted_in scopes scope = option_and_then (λ (own : NamedScope). option_map declared_sort own.result) (slice_get scopes scope)

-- The index has the places of these symbols.
abbrev pub IsIndex : List NamedScope → List Symbol → Type 0
IsIndex scopes symbols = (scope : ℕ) (name : List ℕ) → place_in scopes scope name ≡ place_at symbols scope name

-- The results are those of these symbols.
abbrev pub HasResults : List NamedScope → List Symbol → Type 0
HasResults scopes symbols = (scope : ℕ) → noted_in scopes scope ≡ result_in (symbols_in scope symbols)

-- The scopes say of these symbols what they are.
pub record AreScopes (scopes : List NamedScope) (symbols : List Symbol) : Type 0 where
  pub index : IsIndex scopes symbols
  pub results : HasResults scopes symbols
  pub sound : IsTrue (list_all is_sound symbols)

-- Two indexes have the same places.
abbrev pub IsSameIndex : List NamedScope → List NamedScope → Type 0
IsSameIndex before after = (scope : ℕ) (name : List ℕ) → place_in after scope name ≡ place_in before scope name

-- The same results are noted.
abbrev pub HasSameResults : List NamedScope → List NamedScope → Type 0
HasSameResults before after = (scope : ℕ) → noted_in after scope ≡ noted_in before scope

-- The second index has one more place, of this name in this scope.
abbrev pub Adds : List NamedScope → ℕ → List ℕ → ℕ → List NamedScope → Type 0
Adds before scope name place after =
    (s : ℕ) (n : List ℕ) → place_in after s n ≡ cond (nat_eq scope s && bytes_eq name n) (Some place) (place_in before s n)

-- A scope that had no result may have one of this type.
abbrev pub AddsResult : List NamedScope → ℕ → Option (Bool × Kind) → List NamedScope → Type 0
AddsResult before scope form after =
    (s : ℕ) → noted_in after s ≡ cond (nat_eq scope s) (option_or (noted_in before s) (option_map declared_sort form)) (noted_in before s)
