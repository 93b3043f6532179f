-- What names stand for in a program without procedures: in the scope of an expression, and as the rules see it.
use Rattle.std.proofs.Common.{◌≡◌, ℕ, Bool, true, false, [], length, Option, Some, None, ap}
use Rattle.std.specs.Prelude.{ℤ}
use Rattle.dc_int.specs.declared.kind.Kind.{Kind}
use Rattle.dc_int.specs.Sorts.{whole, sort_with}
use Rattle.dc_int.specs.Store.{Bounds}
use Rattle.dc_tree.specs.declared.symbols.Role as roles
use Rattle.dc_tree.specs.declared.symbols.Symbol.{Symbol}
use Rattle.dc_tree.specs.Entities.{Entity, outside, slots, constant, nothing, Scope, entity}
use Rattle.dc_tree.specs.Statements.{Name}
use Rattle.dc_tree.specs.Syntax.{Tree}
use Rattle.dc_tree.specs.Typing.{sort_of, is_constant}
use Rattle.dc_sorts.specs.declared.known.Known.{Known}
use Rattle.dc_sorts.specs.declared.meaning.Meaning.{Meaning}
use Rattle.dc_sorts.specs.Forms.{form_of_sort, form_with}
use Rattle.dc_sorts.specs.Knowing.{known_of}
use Rattle.dc_sorts.specs.Meanings.{symbol_seen}
use Rattle.dc_sorts.specs.Standing.{Standing, meaning}
use Rattle.dc_operands.specs.Operands.{known_at}

-- A variable by its number; the index of a loop, in its block, and outside of it where its name is the variable's; a
-- named constant; or nothing.
pub data Thing : Type 0 where
  a_variable : ℕ → Bool → Kind → Bounds → Thing
  an_index : ℕ → Kind → Thing
  a_counter : ℕ → Kind → Thing
  a_constant : Bool → Kind → ℤ → Thing
  undeclared : Thing

abbrev pub entity_of : Thing → Entity
entity_of (a_variable number is_logical its_kind bounds) = outside number (sort_with is_logical its_kind) bounds
entity_of (an_index group its_kind) = slots group (whole its_kind) []
entity_of (a_counter number its_kind) = outside number (whole its_kind) []
entity_of (a_constant is_logical its_kind z) = constant (sort_with is_logical its_kind) z
entity_of undeclared = nothing

abbrev pub meaning_of : Thing → Meaning
meaning_of (a_variable number is_logical its_kind bounds) = Meaning.Variable (form_with is_logical its_kind) (length bounds)
meaning_of (an_index group its_kind) = Meaning.Index its_kind
meaning_of (a_counter number its_kind) = Meaning.Index its_kind
meaning_of (a_constant is_logical its_kind z) = Meaning.Constant (form_with is_logical its_kind) z
meaning_of undeclared = Meaning.Nothing

-- What is declared, other than by a loop.
abbrev pub is_declared : Thing → Bool
is_declared (an_index group its_kind) = false
is_declared (a_counter number its_kind) = false
is_declared other = true

abbrev pub bounds_in : Thing → Bounds
bounds_in (a_variable number is_logical its_kind bounds) = bounds
bounds_in other = []

abbrev pub role_bounds : roles.Role → Bounds
role_bounds (roles.Role.Variable is_logical its_kind bounds initial) = bounds
role_bounds other = []

abbrev pub symbol_bounds : Option Symbol → Bounds
symbol_bounds None = []
symbol_bounds (Some symbol) = role_bounds symbol.role

-- What a name is, in a scope and where an expression stands.
pub record IsThing (standing : Standing) (scope : Scope) (text : Name) : Type 0 where
  pub thing : Thing
  pub stands : entity scope text ≡ entity_of thing
  pub means : meaning standing text ≡ meaning_of thing
  pub bounded : is_declared thing ≡ true → symbol_bounds (symbol_seen standing.symbols standing.unit text) ≡ bounds_in thing

-- The rules know each name and each expression as they are in the scope.
pub record Knows (standing : Standing) (scope : Scope) : Type 0 where
  pub names : (text : Name) → IsThing standing scope text
  pub sorts : (tree : Tree) → known_at standing tree ≡ known_of scope tree

module _ (standing : Standing) (scope : Scope) (knows : Knows standing scope) where
  pub form-known : (tree : Tree) → (known_at standing tree).form ≡ form_of_sort (sort_of scope tree)
  form-known tree = ap (λ (k : Known). k.form) (knows.sorts tree)

  pub constant-known : (tree : Tree) → (known_at standing tree).constant ≡ is_constant scope tree
  constant-known tree = ap (λ (k : Known). k.constant) (knows.sorts tree)
