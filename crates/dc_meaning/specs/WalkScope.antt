-- Where a statement stands: what its names stand for, and the entities of its block, as the walker holds them.
-- This project's own.
use Rattle.std.specs.Prelude.{Bool, true, false, not, bytes_eq, List, [], ◌∷◌, map}
use Rattle.std.specs.List.{list_all}
use Rattle.dc_code.specs.Troubles.{Slots}
use Rattle.dc_int.specs.declared.kind.Kind.{Kind}
use Rattle.dc_int.specs.Sorts.{whole, kind_of}
use Rattle.dc_tree.specs.declared.symbols.Symbol.{Symbol}
use Rattle.dc_form.specs.BuiltPrograms.{spares}
use Rattle.dc_tree.specs.Entities.{Entity, Scope, slots, entity, main_scope, with_names}
use Rattle.dc_tree.specs.Statements.{Name, Statement}
use Rattle.dc_tree.specs.Typing.{sort_of_entity}
use Rattle.dc_entities.specs.Found.{IsNamed}
use Rattle.dc_sorts.specs.declared.standing.IndexName.{IndexName}
use Rattle.dc_sorts.specs.declared.standing.Standing.{Standing}
use Rattle.dc_sorts.specs.Standing.{standing_of, scope_at}
use Rattle.dc_meaning.specs.declared.walk.Walk.{Walk}
use Rattle.dc_meaning.specs.Concurrent.{index_slots}

abbrev pub scope_of : Walk → Scope
scope_of walk = scope_at (standing_of walk.standing)

-- The entities of the block: the indexes, with their values.
abbrev pub own_of : Walk → Slots
own_of walk = index_slots walk.values.now

-- The walker knows what the names stand for.
pub record IsWalk (walk : Walk) : Type 0 where
  pub named : IsNamed walk.standing walk.numbering.now

-- The names of the indexes, which a block doesn't define.
abbrev pub index_names : Standing → List Name
index_names standing = map (λ (index : IndexName). index.name) standing.indexes.now

abbrev pub spared : List Name → Statement → Bool
spared names says = list_all (λ name. spares name says) names

-- ---- the block of a loop with one index

abbrev pub kind_of_index : List Symbol → Name → Kind
kind_of_index symbols index = kind_of (sort_of_entity (entity (main_scope symbols) index))

abbrev pub index_scope : List Symbol → Name → Scope
index_scope symbols index = with_names ((index, slots 0 (whole (kind_of_index symbols index)) []) ∷ []) 1 (main_scope symbols)

-- ---- what is defined

-- An index is an entity of the iteration.
abbrev pub is_slots : Entity → Bool
is_slots (slots group sort bounds) = true
is_slots other = false

abbrev pub is_spared_name : List Name → Name → Bool
is_spared_name names name = list_all (λ index. not (bytes_eq name index)) names
