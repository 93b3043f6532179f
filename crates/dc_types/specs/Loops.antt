-- The rules that the headers of loops break by what their limits are, and which names stand inside of a loop. After
-- ISO/IEC 1539-1:2023, clauses 11.1.7.2, 11.1.7.4.2, 11.1.7.5 and 19.4.
use Rattle.std.specs.Prelude.{ℕ, Bool, List, [], ◌∷◌, ◌++◌, map, bytes_eq, Option, Some, None, ℤ, if◌then◌else◌}
use Rattle.std.specs.List.{list_any}
use Rattle.dc_int.specs.declared.kind.Kind.{Kind}
use Rattle.dc_tree.specs.declared.fail.Refusal.{Refusal}
use Rattle.dc_tree.specs.declared.stmt.Local.{Local}
use Rattle.dc_tree.specs.declared.symbols.Symbol.{Symbol}
use Rattle.dc_tree.specs.Findings.{finding_if}
use Rattle.dc_tree.specs.Literals.{kind_numbered}
use Rattle.dc_tree.specs.Statements.{Name, TypeForm, logical, integer, Ranging, Statement, do_line, concurrent}
use Rattle.dc_tree.specs.Syntax.{Tree, name}
use Rattle.dc_sorts.specs.declared.form.Form.{Form}
use Rattle.dc_sorts.specs.declared.meaning.Meaning.{Meaning}
use Rattle.dc_sorts.specs.declared.standing.IndexName.{IndexName}
use Rattle.dc_sorts.specs.Meanings.{declared_meaning}
use Rattle.dc_sorts.specs.Standing.{Standing}
use Rattle.dc_operands.specs.Arguments.{is_logical}
use Rattle.dc_operands.specs.Operands.{known_at, number_findings}
use Rattle.dc_types.specs.Actions.{form_at, test_findings, limit_findings, defined_findings}

-- ---- limits

abbrev pub step_findings : Standing → ℕ → Option Tree → List Refusal
step_findings standing line None = []
step_findings standing line (Some tree) = limit_findings standing line tree

-- K28: a limit or a step is no INTEGER.
abbrev pub limits_findings : Standing → ℕ → Tree → Tree → Option Tree → List Refusal
limits_findings standing line first last step =
    limit_findings standing line first ++ (limit_findings standing line last ++ step_findings standing line step)

abbrev pub ranging_findings : Standing → ℕ → Ranging → List Refusal
ranging_findings standing line ranging = limits_findings standing line ranging.first ranging.last ranging.step

abbrev pub each_ranging_findings : Standing → ℕ → List Ranging → List Refusal
each_ranging_findings standing line [] = []
each_ranging_findings standing line (ranging ∷ rest) = ranging_findings standing line ranging ++ each_ranging_findings standing line rest

-- K28: the variable of a counted DO is no INTEGER. K31: it may not be defined here.
abbrev pub counted_findings : Standing → ℕ → Option Ranging → List Refusal
counted_findings standing line None = []
counted_findings standing line (Some ranging) =
    ranging_findings standing line ranging
    ++ (finding_if (is_logical (form_at standing (name ranging.name))) 28 line ++ defined_findings standing line ranging.name)

-- ---- the indexes of a DO CONCURRENT

-- the kind of an INTEGER variable
abbrev pub kind_of_meaning : Meaning → Kind
kind_of_meaning (Meaning.Variable (Form.Whole kind) rank) = kind
kind_of_meaning other = Kind.K4

abbrev pub kind_of_value : Option ℤ → Kind
kind_of_value (Some value) = kind_numbered value
kind_of_value None = Kind.K4

-- The kind that the type in a header gives its indexes.
abbrev pub typed_kind : Standing → Option TypeForm → Option Kind
typed_kind standing None = None
typed_kind standing (Some logical) = Some Kind.K4
typed_kind standing (Some (integer keyed None)) = Some Kind.K4
typed_kind standing (Some (integer keyed (Some tree))) = Some (kind_of_value (known_at standing tree).value)

-- An index has this kind, or else that of the variable of its name in the unit.
abbrev pub index_kind : List Symbol → ℕ → Option Kind → Name → Kind
index_kind symbols unit (Some kind) text = kind
index_kind symbols unit None text = kind_of_meaning (declared_meaning symbols unit text)

abbrev pub index_name : List Symbol → ℕ → Option Kind → Ranging → IndexName
index_name symbols unit typed ranging = record { name = ranging.name; kind = index_kind symbols unit typed ranging.name }

abbrev pub index_names : Standing → Option Kind → List Ranging → List IndexName
index_names standing typed names = map (index_name standing.symbols standing.unit typed) names

-- ---- the names inside of a loop

abbrev pub local_names : Local → List Name
local_names (Local.Locals names) = names
local_names (Local.Inits names) = names
local_names other = []

abbrev pub is_among : List Name → Name → Bool
is_among names text = list_any (λ other. bytes_eq other text) names

-- A name that is LOCAL or LOCAL_INIT is another entity inside of the loop.
abbrev pub is_local : List Local → Name → Bool
is_local locality text = list_any (λ local. is_among (local_names local) text) locality

abbrev pub still_counted : List Local → List Name → List Name
still_counted locality [] = []
still_counted locality (text ∷ rest) = if is_local locality text then still_counted locality rest else text ∷ still_counted locality rest

abbrev pub still_indexes : List Local → List IndexName → List IndexName
still_indexes locality [] = []
still_indexes locality (index ∷ rest) = if is_local locality index.name then still_indexes locality rest else index ∷ still_indexes locality rest

-- The names around, but with these indexes and variables of counted DOs.
abbrev pub with_loops : Standing → List IndexName → List Name → Standing
with_loops standing indexes counted = record standing { indexes = indexes; counted = counted }

-- The names in the block of a DO CONCURRENT, and in its mask: its indexes are in front of those around.
abbrev pub in_concurrent : Standing → Option TypeForm → List Ranging → List Local → Standing
in_concurrent standing form names locality =
    with_loops standing (index_names standing (typed_kind standing form) names ++ still_indexes locality standing.indexes) (still_counted locality standing.counted)

-- The names in the block of a counted DO: its variable may not be defined there.
abbrev pub in_counted : Standing → Option Ranging → Standing
in_counted standing None = standing
in_counted standing (Some ranging) = with_loops standing standing.indexes (ranging.name ∷ standing.counted)

abbrev pub inside : Standing → Statement → Standing
inside standing (do_line label counted) = in_counted standing counted
inside standing (concurrent label form names mask locality) = in_concurrent standing form names locality
inside standing other = standing

-- ---- the header of a DO CONCURRENT

-- K29: a number in a type isn't in the range of its kind.
abbrev pub type_numbers : Standing → ℕ → TypeForm → List Refusal
type_numbers standing line (integer keyed (Some tree)) = number_findings standing line tree
type_numbers standing line other = []

abbrev pub header_type : Standing → ℕ → Option TypeForm → List Refusal
header_type standing line None = []
header_type standing line (Some form) = type_numbers standing line form

abbrev pub mask_findings : Standing → ℕ → Option Tree → List Refusal
mask_findings standing line None = []
mask_findings standing line (Some tree) = test_findings standing line tree

-- In the limits nothing is LOCAL yet.
abbrev pub header_findings : Standing → ℕ → Option TypeForm → List Ranging → Option Tree → List Local → List Refusal
header_findings standing line form names mask locality =
    header_type standing line form
    ++ (each_ranging_findings (in_concurrent standing form names []) line names ++ mask_findings (in_concurrent standing form names locality) line mask)
