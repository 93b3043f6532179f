-- The rules that the header of a DO CONCURRENT breaks by the names in it, and the names that stand for its indexes
-- in the loop. After ISO/IEC 1539-1:2023, clauses 11.1.7.2 and 19.4.
use Rattle.std.specs.Prelude.{ℕ, zero, Bool, false, ◌||◌, nat_lt, List, [], ◌∷◌, ◌++◌, length, map, bytes_eq, Option, Some, None, option_map, ℤ}
use Rattle.std.specs.List.{list_any}
use Rattle.dc_int.specs.declared.kind.Kind.{Kind}
use Rattle.dc_tree.specs.declared.fail.Refusal.{Refusal}
use Rattle.dc_tree.specs.declared.stmt.Local.{Local}
use Rattle.dc_tree.specs.Findings.{finding, finding_if}
use Rattle.dc_tree.specs.Literals.{kind_numbered}
use Rattle.dc_tree.specs.Statements.{Name, TypeForm, Ranging, logical, integer}
use Rattle.dc_tree.specs.Syntax.{Tree}
use Rattle.dc_sorts.specs.declared.form.Form.{Form}
use Rattle.dc_sorts.specs.declared.meaning.Meaning.{Meaning}
use Rattle.dc_sorts.specs.declared.standing.IndexName.{IndexName}
use Rattle.dc_sorts.specs.Standing.{Standing, meaning}
use Rattle.dc_uses.specs.Constants.{whole_constant, kind_findings}
use Rattle.dc_uses.specs.Uses.{undeclared_findings, use_findings}
use Rattle.dc_scope.specs.Deeds.{optional_findings}

-- ---- the names of the indexes

abbrev pub kind_of_number : Option ℤ → Kind
kind_of_number None = Kind.K4
kind_of_number (Some z) = kind_numbered z

-- The kind that a type names; the default kind is 4.
abbrev pub typed_kind : Standing → TypeForm → Kind
typed_kind standing (integer keyed (Some selector)) = kind_of_number (whole_constant standing selector)
typed_kind standing other = Kind.K4

-- The kind of an index without a type is that of the variable outside.
abbrev pub untyped_kind : Standing → Name → Kind
untyped_kind standing text = by (meaning standing text)
  where
    by : Meaning → Kind
    by (Meaning.Variable (Form.Whole kind) rank) = kind
    by (Meaning.Index kind) = kind
    by other = Kind.K4

-- The kind of an index, which is that of the type if there is one.
abbrev pub index_kind : Standing → Option Kind → Name → Kind
index_kind standing None text = untyped_kind standing text
index_kind standing (Some kind) text = kind

abbrev pub index_name : Standing → Option Kind → Ranging → IndexName
index_name standing typed ranging = record { name = ranging.name; kind = index_kind standing typed ranging.name }

-- The indexes of a header, in front of those around.
abbrev pub indexes_inside : Standing → Option TypeForm → List Ranging → List IndexName
indexes_inside standing form rangings = map (index_name standing (option_map (typed_kind standing) form)) rangings ++ standing.indexes

abbrev pub with_indexes : Standing → List IndexName → Standing
with_indexes standing indexes =
    record { symbols = standing.symbols; unit = standing.unit; indexes = indexes; counted = standing.counted; callees = standing.callees }

-- Where the header's limits and the block of the loop stand.
abbrev pub inside : Standing → Option TypeForm → List Ranging → Standing
inside standing form rangings = with_indexes standing (indexes_inside standing form rangings)

-- ---- what a header breaks

-- K22, K23: the type names no kind.
abbrev pub selector_findings : Standing → ℕ → Option Tree → List Refusal
selector_findings standing line None = []
selector_findings standing line (Some selector) = use_findings standing line selector ++ kind_findings standing line selector

abbrev pub type_findings : Standing → ℕ → TypeForm → List Refusal
type_findings standing line (integer keyed selector) = selector_findings standing line selector
type_findings standing line logical = []

-- An index without a type. K20: its name isn't declared. K21: it is no INTEGER scalar variable.
abbrev pub index_findings : Standing → ℕ → Name → List Refusal
index_findings standing line text = by (meaning standing text)
  where
    by : Meaning → List Refusal
    by Meaning.Nothing = undeclared_findings line text
    by (Meaning.Variable (Form.Whole kind) zero) = []
    by (Meaning.Index kind) = []
    by other = finding 21 line ∷ []

abbrev pub indexes_in : Standing → ℕ → List Ranging → List Refusal
indexes_in standing line [] = []
indexes_in standing line (first ∷ rest) = index_findings standing line first.name ++ indexes_in standing line rest

abbrev pub types_findings : Standing → ℕ → Option TypeForm → List Ranging → List Refusal
types_findings standing line None rangings = indexes_in standing line rangings
types_findings standing line (Some form) rangings = type_findings standing line form

abbrev pub is_named : Name → Ranging → Bool
is_named text ranging = bytes_eq ranging.name text

-- Some name is there twice.
abbrev pub has_twice : List Ranging → Bool
has_twice [] = false
has_twice (first ∷ rest) = list_any (is_named first.name) rest || has_twice rest

abbrev pub limit_findings : Standing → ℕ → Ranging → List Refusal
limit_findings standing line ranging =
    use_findings standing line ranging.first ++ (use_findings standing line ranging.last ++ optional_findings standing line ranging.step)

abbrev pub limits_in : Standing → ℕ → List Ranging → List Refusal
limits_in standing line [] = []
limits_in standing line (first ∷ rest) = limit_findings standing line first ++ limits_in standing line rest

-- A name in a locality list. K20: it isn't declared. K21: it is that of a function of the language.
abbrev pub listed_findings : Standing → ℕ → Name → List Refusal
listed_findings standing line text = by (meaning standing text)
  where
    by : Meaning → List Refusal
    by Meaning.Nothing = undeclared_findings line text
    by other = []

abbrev pub listed_in : Standing → ℕ → List Name → List Refusal
listed_in standing line [] = []
listed_in standing line (first ∷ rest) = listed_findings standing line first ++ listed_in standing line rest

abbrev pub local_findings : Standing → ℕ → Local → List Refusal
local_findings standing line (Local.Locals names) = listed_in standing line names
local_findings standing line (Local.Inits names) = listed_in standing line names
local_findings standing line (Local.Shared names) = listed_in standing line names
local_findings standing line (Local.Reduce op names) = listed_in standing line names
local_findings standing line Local.DefaultNone = []

abbrev pub locality_in : Standing → ℕ → List Local → List Refusal
locality_in standing line [] = []
locality_in standing line (first ∷ rest) = local_findings standing line first ++ locality_in standing line rest

-- the greatest number of indexes, this project's own
abbrev pub most_indexes : ℕ
most_indexes = 7

-- K19: a name is twice an index. K24: there are too many indexes.
abbrev pub names_findings : ℕ → List Ranging → List Refusal
names_findings line rangings = finding_if (has_twice rangings) 19 line ++ finding_if (nat_lt most_indexes (length rangings)) 24 line

-- what stands in the scope of the indexes
abbrev pub inner_findings : Standing → ℕ → List Ranging → Option Tree → List Local → List Refusal
inner_findings standing line rangings mask locality =
    limits_in standing line rangings ++ (optional_findings standing line mask ++ locality_in standing line locality)

-- what stands outside of it
abbrev pub outer_findings : Standing → ℕ → Option TypeForm → List Ranging → List Refusal
outer_findings standing line form rangings = types_findings standing line form rangings ++ names_findings line rangings

abbrev pub header_findings : Standing → ℕ → Option TypeForm → List Ranging → Option Tree → List Local → List Refusal
header_findings standing line form rangings mask locality =
    outer_findings standing line form rangings ++ inner_findings (inside standing form rangings) line rangings mask locality
