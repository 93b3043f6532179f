-- What a name stands for, as the code finds it. This project's own.
use Rattle.std.specs.Prelude.{◌≡◌, ℕ, ◌≤◌, List, [], length, IsTrue}
use Rattle.dc_int.specs.Sorts.{whole, sort_with}
use Rattle.dc_int.specs.Store.{Bounds}
use Rattle.dc_sorts.specs.declared.standing.Standing as code
use Rattle.dc_sorts.specs.Forms.{sort_of_form}
use Rattle.dc_tree.specs.declared.symbols.Role as roles
use Rattle.dc_form.specs.BuiltPrograms.{are_built_symbols}
use Rattle.dc_tree.specs.Entities.{Entity, outside, slots, constant, nothing}
use Rattle.dc_entities.specs.declared.found.Found.{Found}
use Rattle.dc_entities.specs.Numbering.{numbers_of}

abbrev pub entity_of : Found → Entity
entity_of (Found.Index kind) = slots 0 (whole kind) []
entity_of (Found.Variable number form bounds) = outside number (sort_of_form form) bounds.now
entity_of (Found.Constant form value) = constant (sort_of_form form) value
entity_of Found.Nothing = nothing

-- The bounds of a variable, and none of what isn't one.
abbrev pub bounds_found : Found → Bounds
bounds_found (Found.Variable number form bounds) = bounds.now
bounds_found found = []

-- What a declared name of this role and number stands for.
abbrev pub entity_at : ℕ → roles.Role → Entity
entity_at number (roles.Role.Variable logical kind bounds initial) = outside number (sort_with logical kind) bounds
entity_at number (roles.Role.Constant logical kind value) = constant (sort_with logical kind) value
entity_at number role = nothing

-- The names can be found: those of the main program, numbered, and the index of at most one loop.
pub record IsNamed (standing : code.Standing) (numbering : List ℕ) : Type 0 where
  pub symbols : IsTrue (are_built_symbols standing.symbols.now)
  pub numbers : numbering ≡ numbers_of standing.symbols.now
  pub unit : standing.unit ≡ 0
  pub one : length standing.indexes.now ≤ 1
