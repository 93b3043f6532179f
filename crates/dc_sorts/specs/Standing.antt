-- Where an expression stands: which names can be used there, and which of these may not be defined. After
-- ISO/IEC 1539-1:2023, clauses 11.1.7.2, 11.1.7.4.3 and 19.4.
use Rattle.std.specs.Prelude.{ℕ, zero, suc, Bool, ◌||◌, List, [], ◌∷◌, map, length, bytes_eq, Option, Some, None, if◌then◌else◌}
use Rattle.std.specs.List.{list_any}
use Rattle.dc_int.specs.declared.kind.Kind.{Kind}
use Rattle.dc_int.specs.Sorts.{whole}
use Rattle.dc_tree.specs.declared.symbols.Symbol.{Symbol}
use Rattle.dc_tree.specs.Entities.{Entity, slots, Scope, main_scope, procedure_scope, with_names}
use Rattle.dc_tree.specs.Statements.{Name}
use Rattle.dc_sorts.specs.declared.meaning.Meaning.{Meaning}
use Rattle.dc_sorts.specs.declared.standing.IndexName.{IndexName}
use Rattle.dc_sorts.specs.declared.standing.Standing as code
use Rattle.dc_sorts.specs.Meanings.{declared_meaning, is_fixed_meaning}

-- The declared names of all units; the unit, which is 0 in the main program; the indexes of the loops DO
-- CONCURRENT around, the innermost first; the variables of the counted DOs around; and of each procedure,
-- in their order, what its dummies mean in it.
pub record Standing : Type 0 where
  pub symbols : List Symbol
  pub unit : ℕ
  pub indexes : List IndexName
  pub counted : List Name
  pub callees : List (List Meaning)

-- what is seen of the code's
abbrev pub standing_of : code.Standing → Standing
standing_of standing = record {
  symbols = standing.symbols.now;
  unit = standing.unit;
  indexes = standing.indexes.now;
  counted = standing.counted.now;
  callees = standing.callees.now;
}

-- The kind of the innermost index of this name.
abbrev pub index_kind : List IndexName → Name → Option Kind
index_kind [] name = None
index_kind (index ∷ rest) name = if bytes_eq index.name name then Some index.kind else index_kind rest name

abbrev pub meaning_by : Option Kind → Meaning → Meaning
meaning_by (Some kind) declared = Meaning.Index kind
meaning_by None declared = declared

-- The meaning of a name: an index hides what is declared, and an inner one an outer one.
abbrev pub meaning : Standing → Name → Meaning
meaning standing name = meaning_by (index_kind standing.indexes name) (declared_meaning standing.symbols standing.unit name)

abbrev pub is_counted : List Name → Name → Bool
is_counted names name = list_any (λ counted. bytes_eq counted name) names

-- Whether a name may not be defined here. The variable of a counted DO may not be inside of that loop; an index
-- of that name is another entity, which may not be defined either.
abbrev pub is_fixed : Standing → Name → Bool
is_fixed standing name = is_fixed_meaning (meaning standing name) || is_counted standing.counted name

-- The scope of the names here, by which expressions have sorts and values.
abbrev pub unit_scope : List Symbol → ℕ → Scope
unit_scope symbols zero = main_scope symbols
unit_scope symbols (suc before) = procedure_scope symbols (suc before)

abbrev pub index_entity : IndexName → Name × Entity
index_entity index = (index.name, slots 0 (whole index.kind) [])

abbrev pub scope_at : Standing → Scope
scope_at standing = with_names (map index_entity standing.indexes) (length standing.indexes) (unit_scope standing.symbols standing.unit)
