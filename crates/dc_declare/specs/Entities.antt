-- What declarations make of their names. After ISO/IEC 1539-1:2023, clauses 8.2, 8.5.10 and 8.5.13.
use Rattle.std.specs.Prelude.{ℕ, zero, suc, Bool, true, false, not, ◌&&◌, ◌||◌, bytes_eq, is_some, is_none, List, [], ◌∷◌, ◌++◌, Option, Some, None, if◌then◌else◌, ℤ}
use Rattle.dc_int.specs.Store.{Bounds}
use Rattle.dc_tree.specs.declared.fail.Refusal.{Refusal}
use Rattle.dc_tree.specs.declared.stmt.Intent.{Intent}
use Rattle.dc_tree.specs.declared.symbols.Role as roles
use Rattle.dc_tree.specs.Findings.{finding_if}
use Rattle.dc_tree.specs.Statements.{Name, Attribute, parameter, dimension, intent, Dimension, Declared, Initial}
use Rattle.dc_sorts.specs.Standing.{Standing}
use Rattle.dc_declare.specs.declared.entry.Entry.{Entry}
use Rattle.dc_declare.specs.declared.entry.Nature.{Nature}
use Rattle.dc_declare.specs.declared.given.Given.{Given}
use Rattle.dc_declare.specs.declared.heading.Heading.{Heading}
use Rattle.dc_declare.specs.declared.scan.Scan.{Scan}
use Rattle.dc_declare.specs.declared.types.ElementType.{ElementType}
use Rattle.dc_declare.specs.Bounds.{all_bounds, all_dimensions, is_array, shared}
use Rattle.dc_declare.specs.Names.{place_of}
use Rattle.dc_declare.specs.Tables.{declaring, symbol_with, with_symbol, taken_findings}
use Rattle.dc_declare.specs.Totals.{size_of, total_with, is_over}
use Rattle.dc_declare.specs.Values.{values_in, initial_findings, list_findings, first_value, filled, is_valued}

-- ---- attributes

-- a type with no attributes
abbrev pub plainly : ElementType → Given
plainly type = record { form = type; constant = false; bounds = []; intent = None }

-- One attribute more: of several DIMENSION or INTENT the last counts.
abbrev pub with_attribute : Standing → Given → Attribute → Given
with_attribute standing given parameter = record { form = given.form; constant = true; bounds = given.bounds; intent = given.intent }
with_attribute standing given (dimension dimensions) =
    record { form = given.form; constant = given.constant; bounds = all_bounds standing dimensions; intent = given.intent }
with_attribute standing given (intent its_intent) = record { form = given.form; constant = given.constant; bounds = given.bounds; intent = Some its_intent }

abbrev pub with_attributes : Standing → Given → List Attribute → Given
with_attributes standing given [] = given
with_attributes standing given (attribute ∷ rest) = with_attributes standing (with_attribute standing given attribute) rest

abbrev pub attribute_findings : Standing → ℕ → Attribute → List Refusal
attribute_findings standing line (dimension dimensions) = all_dimensions standing line dimensions
attribute_findings standing line other = []

abbrev pub each_attribute : Standing → ℕ → List Attribute → List Refusal
each_attribute standing line [] = []
each_attribute standing line (attribute ∷ rest) = attribute_findings standing line attribute ++ each_attribute standing line rest

-- ---- natures

abbrev pub is_result : Option Name → Name → Bool
is_result None name = false
is_result (Some result) name = bytes_eq result name

abbrev pub nature_by : Bool → Option ℕ → Bool → Nature
nature_by constant (Some place) result = Nature.Dummy place
nature_by constant None true = Nature.Result
nature_by true None false = Nature.Constant
nature_by false None false = Nature.Variable

-- What a name is in a unit: in a procedure a dummy or the result, by its first line, and else a constant where it is
-- a PARAMETER, or a variable.
abbrev pub nature_in : ℕ → Heading → Bool → Name → Nature
nature_in zero heading constant name = nature_by constant None false
nature_in (suc before) heading constant name = nature_by constant (place_of heading.dummies name) (is_result heading.result name)

abbrev pub nature_of : Heading → Bool → Name → Nature
nature_of heading constant name = nature_in heading.unit heading constant name

abbrev pub is_variable : Nature → Bool
is_variable Nature.Variable = true
is_variable other = false

-- What a name may not have. K21: a result that is an array or a PARAMETER. K26: a dummy that is an array or a
-- PARAMETER, or that has no INTENT; a PARAMETER that is an array or has no value; INTENT of another name than a
-- dummy's.
abbrev pub nature_findings : ℕ → Nature → Given → Bool → Bool → List Refusal
nature_findings line (Nature.Dummy place) given array valued = finding_if (given.constant || array || is_none given.intent) 26 line
nature_findings line Nature.Result given array valued = finding_if (given.constant || array) 21 line ++ finding_if (is_some given.intent) 26 line
nature_findings line Nature.Constant given array valued = finding_if (array || not valued || is_some given.intent) 26 line
nature_findings line Nature.Variable given array valued = finding_if (is_some given.intent) 26 line

-- ---- one name

-- The bounds of a name are its own, or else those of the attribute.
abbrev pub bounds_in : Standing → Given → Option (List Dimension) → Bounds
bounds_in standing given None = shared given.bounds
bounds_in standing given (Some dimensions) = all_bounds standing dimensions

abbrev pub own_findings : Standing → ℕ → Option (List Dimension) → List Refusal
own_findings standing line None = []
own_findings standing line (Some dimensions) = all_dimensions standing line dimensions

abbrev pub intent_or_in : Option Intent → Intent
intent_or_in None = Intent.Into
intent_or_in (Some its_intent) = its_intent

-- What a name is, with its bounds and values.
abbrev pub entry_of : Heading → Standing → Given → Declared → Entry
entry_of heading standing given declared = record {
  nature = nature_of heading given.constant declared.name;
  bounds = bounds_in standing given declared.bounds;
  values = values_in standing given.form declared.initial;
}

-- the rules that its bounds and values break by themselves
abbrev pub entry_findings : Standing → ℕ → Given → Declared → List Refusal
entry_findings standing line given declared =
    own_findings standing line declared.bounds ++ initial_findings standing line given.form declared.initial

-- the elements of the unit's variables, with those of one name
abbrev pub total_after : ℕ → Entry → ℕ
total_after elements entry = if is_variable entry.nature then total_with elements (size_of entry.bounds) else elements

abbrev pub is_too_much : ℕ → ℕ → Entry → Bool
is_too_much unit total entry = is_variable entry.nature && is_over unit total

-- K24: the variables of the unit have too many elements with it.
abbrev pub total_findings : ℕ → ℕ → ℕ → Entry → List Refusal
total_findings line unit total entry = finding_if (is_too_much unit total entry) 24 line

-- The initial values of a variable. Those in a procedure, which another rule refuses, aren't kept.
abbrev pub initial_of : ℕ → ℕ → Initial → Entry → List ℤ
initial_of zero total initial entry = filled (is_over zero total) (is_array entry.bounds) (size_of entry.bounds) initial entry.values
initial_of (suc before) total initial entry = []

abbrev pub role_of : ℕ → ℕ → Given → Initial → Entry → roles.Role
role_of unit total given initial entry = by entry.nature
  where
    by : Nature → roles.Role
    by (Nature.Dummy place) = roles.Role.Dummy place given.form.logical given.form.kind (intent_or_in given.intent)
    by Nature.Result = roles.Role.Result given.form.logical given.form.kind
    by Nature.Constant = roles.Role.Constant given.form.logical given.form.kind (first_value entry.values)
    by Nature.Variable = roles.Role.Variable given.form.logical given.form.kind entry.bounds (initial_of unit total initial entry)

-- ---- the names of a statement

abbrev pub after_entry : ℕ → Scan → Given → Declared → Entry → Scan
after_entry unit scan given declared entry =
    let total = total_after scan.elements entry in
    record { symbols = with_symbol scan.symbols (symbol_with unit declared.name (role_of unit total given declared.initial entry)); elements = total }

abbrev pub after_entity : Heading → Scan → Given → Declared → Scan
after_entity heading scan given declared =
    after_entry heading.unit scan given declared (entry_of heading (declaring scan.symbols heading.unit) given declared)

-- What a name breaks by what it is, where the variables of the unit have so many elements with it.
abbrev pub made_findings : ℕ → ℕ → ℕ → Given → Declared → Entry → List Refusal
made_findings line unit total given declared entry =
    nature_findings line entry.nature given (is_array entry.bounds) (is_valued declared.initial)
    ++ (list_findings line (is_array entry.bounds) (size_of entry.bounds) declared.initial ++ total_findings line unit total entry)

abbrev pub found_entry : ℕ → ℕ → Scan → Given → Declared → Entry → List Refusal
found_entry unit line scan given declared entry =
    made_findings line unit (total_after scan.elements entry) given declared entry ++ taken_findings line scan.symbols unit declared.name

abbrev pub entity_findings : Heading → ℕ → Scan → Given → Declared → List Refusal
entity_findings heading line scan given declared =
    entry_findings (declaring scan.symbols heading.unit) line given declared
    ++ found_entry heading.unit line scan given declared (entry_of heading (declaring scan.symbols heading.unit) given declared)

abbrev pub after_entities : Heading → Scan → Given → List Declared → Scan
after_entities heading scan given [] = scan
after_entities heading scan given (declared ∷ rest) = after_entities heading (after_entity heading scan given declared) given rest

abbrev pub entities_findings : Heading → ℕ → Scan → Given → List Declared → List Refusal
entities_findings heading line scan given [] = []
entities_findings heading line scan given (declared ∷ rest) =
    entity_findings heading line scan given declared ++ entities_findings heading line (after_entity heading scan given declared) given rest
