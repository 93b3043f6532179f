-- The rules that a program breaks by what its expressions are, and by what it defines. The variable of a counted DO
-- may not be defined in the loop, and the indexes of a DO CONCURRENT may not either. After ISO/IEC 1539-1:2023,
-- clauses 7.4.3.1, 10.1.5, 10.2.1.2, 11.1, 15.5.2 and 16.9.
use Rattle.std.specs.Prelude.{◌≡◌, ℕ, ◌+◌, nat_lt, List, [], ◌∷◌, ◌++◌, map, Option, Some, None, Result, Ok, Err, if◌then◌else◌}
use Rattle.dc_tree.specs.declared.fail.Fail.{Fail}
use Rattle.dc_tree.specs.declared.fail.Refusal.{Refusal}
use Rattle.dc_tree.specs.declared.symbols.Symbol.{Symbol}
use Rattle.dc_tree.specs.Blocks.{Line, Item, Items, Arms, plain, branch, select, loop, none, and_then, no_arms, arm, Subprogram, Source}
use Rattle.dc_tree.specs.Findings.{IsFirst, found_in}
use Rattle.dc_tree.specs.Statements.{Name, Deed, TypeForm, Dimension, Attribute, dimension, Initial, scalar, listed, Declared, Prefixed, typed, CaseRange, only, from, up_to, between, Statement, declare, procedure_line, if_then, else_if, if_action, select_case, case, do_line, do_while, concurrent, act}
use Rattle.dc_tree.specs.Syntax.{Tree}
use Rattle.dc_sorts.specs.declared.form.Form.{Form}
use Rattle.dc_sorts.specs.declared.meaning.Meaning.{Meaning}
use Rattle.dc_sorts.specs.Meanings.{declared_meaning}
use Rattle.dc_sorts.specs.Standing.{Standing}
use Rattle.dc_operands.specs.Operands.{number_findings, each_number_findings}
use Rattle.dc_types.specs.Actions.{form_at, expression_findings, test_findings, value_findings, deed_findings}
use Rattle.dc_types.specs.Loops.{counted_findings, header_findings, inside, type_numbers}

-- ---- statements

abbrev pub guarded_findings : Standing → ℕ → Tree → Deed → List Refusal
guarded_findings standing line test deed = test_findings standing line test ++ deed_findings standing line deed

-- K28: a condition isn't LOGICAL. What a loop's header breaks stands with the loops.
abbrev pub statement_findings : Standing → ℕ → Statement → List Refusal
statement_findings standing line (if_then test) = test_findings standing line test
statement_findings standing line (else_if test) = test_findings standing line test
statement_findings standing line (if_action test deed) = guarded_findings standing line test deed
statement_findings standing line (select_case selector) = expression_findings standing line selector
statement_findings standing line (do_line label counted) = counted_findings standing line counted
statement_findings standing line (do_while label test) = test_findings standing line test
statement_findings standing line (concurrent label form names mask locality) = header_findings standing line form names mask locality
statement_findings standing line (act deed) = deed_findings standing line deed
statement_findings standing line other = []

-- ---- the values of a SELECT CASE

-- K28: a value isn't of the selector's type.
abbrev pub range_findings : Standing → ℕ → Form → CaseRange → List Refusal
range_findings standing line form (only value) = value_findings standing line form value
range_findings standing line form (from low) = value_findings standing line form low
range_findings standing line form (up_to high) = value_findings standing line form high
range_findings standing line form (between low high) = value_findings standing line form low ++ value_findings standing line form high

abbrev pub each_range_findings : Standing → ℕ → Form → List CaseRange → List Refusal
each_range_findings standing line form [] = []
each_range_findings standing line form (range ∷ rest) = range_findings standing line form range ++ each_range_findings standing line form rest

-- The form of the selector that a statement has.
abbrev pub selector_form : Standing → Statement → Option Form
selector_form standing (select_case selector) = Some (form_at standing selector)
selector_form standing other = None

-- what stands in front of an arm, where a selector is of this form
abbrev pub case_findings : Standing → Form → ℕ → Statement → List Refusal
case_findings standing form line (case ranges) = each_range_findings standing line form ranges
case_findings standing form line other = statement_findings standing line other

-- What stands in front of an arm; in a SELECT CASE there is a selector of this form.
abbrev pub head_findings : Standing → Option Form → ℕ → Statement → List Refusal
head_findings standing None line says = statement_findings standing line says
head_findings standing (Some form) line says = case_findings standing form line says

-- ---- blocks

abbrev mutual
  pub item_findings : Standing → Item → List Refusal
  item_findings standing (plain line) = statement_findings standing line.line line.says
  item_findings standing (branch arms close) = arm_findings standing None arms
  item_findings standing (select head arms close) =
      statement_findings standing head.line head.says ++ arm_findings standing (selector_form standing head.says) arms
  item_findings standing (loop head body close) = statement_findings standing head.line head.says ++ items_findings (inside standing head.says) body

  pub items_findings : Standing → Items → List Refusal
  items_findings standing none = []
  items_findings standing (and_then item rest) = item_findings standing item ++ items_findings standing rest

  pub arm_findings : Standing → Option Form → Arms → List Refusal
  arm_findings standing selector no_arms = []
  arm_findings standing selector (arm head body rest) =
      head_findings standing selector head.line head.says ++ (items_findings standing body ++ arm_findings standing selector rest)

-- ---- declarations. K29: a number in one isn't in the range of its kind.

abbrev pub optional_numbers : Standing → ℕ → Option Tree → List Refusal
optional_numbers standing line None = []
optional_numbers standing line (Some tree) = number_findings standing line tree

abbrev pub dimension_numbers : Standing → ℕ → List Dimension → List Refusal
dimension_numbers standing line [] = []
dimension_numbers standing line (one ∷ rest) =
    optional_numbers standing line one.low ++ (number_findings standing line one.high ++ dimension_numbers standing line rest)

abbrev pub attribute_numbers : Standing → ℕ → Attribute → List Refusal
attribute_numbers standing line (dimension dimensions) = dimension_numbers standing line dimensions
attribute_numbers standing line other = []

abbrev pub each_attribute_numbers : Standing → ℕ → List Attribute → List Refusal
each_attribute_numbers standing line [] = []
each_attribute_numbers standing line (attribute ∷ rest) = attribute_numbers standing line attribute ++ each_attribute_numbers standing line rest

abbrev pub bounds_numbers : Standing → ℕ → Option (List Dimension) → List Refusal
bounds_numbers standing line None = []
bounds_numbers standing line (Some dimensions) = dimension_numbers standing line dimensions

abbrev pub initial_numbers : Standing → ℕ → Initial → List Refusal
initial_numbers standing line (scalar tree) = number_findings standing line tree
initial_numbers standing line (listed trees) = each_number_findings standing line trees
initial_numbers standing line other = []

abbrev pub entity_numbers : Standing → ℕ → List Declared → List Refusal
entity_numbers standing line [] = []
entity_numbers standing line (entity ∷ rest) =
    bounds_numbers standing line entity.bounds ++ (initial_numbers standing line entity.initial ++ entity_numbers standing line rest)

abbrev pub prefix_numbers : Standing → ℕ → Prefixed → List Refusal
prefix_numbers standing line (typed form) = type_numbers standing line form
prefix_numbers standing line other = []

abbrev pub each_prefix_numbers : Standing → ℕ → List Prefixed → List Refusal
each_prefix_numbers standing line [] = []
each_prefix_numbers standing line (prefix ∷ rest) = prefix_numbers standing line prefix ++ each_prefix_numbers standing line rest

abbrev pub declaration_numbers : Standing → ℕ → TypeForm → List Attribute → List Declared → List Refusal
declaration_numbers standing line form attributes entities =
    type_numbers standing line form ++ (each_attribute_numbers standing line attributes ++ entity_numbers standing line entities)

abbrev pub declared_numbers : Standing → ℕ → Statement → List Refusal
declared_numbers standing line (declare form attributes colons entities) = declaration_numbers standing line form attributes entities
declared_numbers standing line (procedure_line prefix function text brackets dummies result) = each_prefix_numbers standing line prefix
declared_numbers standing line other = []

abbrev pub front_numbers : Standing → List Line → List Refusal
front_numbers standing [] = []
front_numbers standing (line ∷ rest) = declared_numbers standing line.line line.says ++ front_numbers standing rest

-- ---- programs

abbrev pub dummies_in : Statement → List Name
dummies_in (procedure_line prefix function text brackets dummies result) = dummies
dummies_in other = []

-- the number of the next procedure, which is less than 2 ^ 32
abbrev pub number_behind : ℕ → ℕ
number_behind number = if nat_lt number 4294967295 then number + 1 else number

-- What the dummies of each procedure mean in it, where the first has this number.
abbrev pub callees_from : List Symbol → ℕ → List Subprogram → List (List Meaning)
callees_from symbols number [] = []
callees_from symbols number (procedure ∷ rest) =
    map (declared_meaning symbols number) (dummies_in procedure.head.says) ∷ callees_from symbols (number_behind number) rest

-- The names in a unit, outside of its loops.
abbrev pub standing_in : List Symbol → List (List Meaning) → ℕ → Standing
standing_in symbols callees unit = record { symbols = symbols; unit = unit; indexes = []; counted = []; callees = callees }

abbrev pub unit_findings : Standing → List Line → Items → List Refusal
unit_findings standing front body = front_numbers standing front ++ items_findings standing body

abbrev pub procedure_findings : Standing → Subprogram → List Refusal
procedure_findings standing procedure =
    declared_numbers standing procedure.head.line procedure.head.says ++ unit_findings standing procedure.front procedure.body

abbrev pub procedures_findings : List Symbol → List (List Meaning) → ℕ → List Subprogram → List Refusal
procedures_findings symbols callees number [] = []
procedures_findings symbols callees number (procedure ∷ rest) =
    procedure_findings (standing_in symbols callees number) procedure ++ procedures_findings symbols callees (number_behind number) rest

-- Of a whole program: the main program is unit 0, and the procedures are units 1, 2 and so on.
abbrev pub type_findings : List Symbol → Source → List Refusal
type_findings symbols source =
    let callees = callees_from symbols 1 source.procedures in
    unit_findings (standing_in symbols callees 0) source.front source.body ++ procedures_findings symbols callees 1 source.procedures

-- What a check of a program with these declared names answers.
abbrev pub Answers : List Symbol → Source → Result (Unit {0}) Fail → Type 0
Answers symbols source (Ok done) = type_findings symbols source ≡ []
Answers symbols source (Err (Fail.Refused refusal)) = IsFirst (found_in (type_findings symbols source)) refusal
Answers symbols source (Err Fail.NoMemory) = Unit {0}
