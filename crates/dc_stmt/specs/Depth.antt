-- The greatest depth of the expressions in a statement; 0 where it has none. This project's own.
use Rattle.std.specs.Prelude.{ℕ, max, List, [], ◌∷◌, Option, None, Some}
use Rattle.dc_tree.specs.Syntax.{Tree}
use Rattle.dc_tree.specs.Grammar.{depth}
use Rattle.dc_tree.specs.Statements.{TypeForm, Dimension, Attribute, Initial, Declared, Ranging, CaseRange, Prefixed, Target, Deed, Statement}
use Rattle.dc_tree.specs.Statements.{logical, integer, parameter, dimension, intent, absent, scalar, listed, typed}
use Rattle.dc_tree.specs.Statements.{only, from, up_to, between}
use Rattle.dc_tree.specs.Statements.{assign, fill, call, print, read}
use Rattle.dc_tree.specs.Statements.{declare, procedure_line}
use Rattle.dc_tree.specs.Statements.{if_then, else_if, if_action, select_case, case}
use Rattle.dc_tree.specs.Statements.{do_line, do_while, concurrent, act}

-- the greatest depth in a list, and that of a part that may be absent
abbrev pub deepest_of : {A : Type 0} → (A → ℕ) → List A → ℕ
deepest_of depth_of [] = 0
deepest_of depth_of (first ∷ rest) = max (depth_of first) (deepest_of depth_of rest)

abbrev pub depth_within : {A : Type 0} → (A → ℕ) → Option A → ℕ
depth_within depth_of None = 0
depth_within depth_of (Some part) = depth_of part

abbrev pub type_depth : TypeForm → ℕ
type_depth logical = 0
type_depth (integer keyed kind) = depth_within depth kind

abbrev pub dimension_depth : Dimension → ℕ
dimension_depth bounds = max (depth_within depth bounds.low) (depth bounds.high)

abbrev pub attribute_depth : Attribute → ℕ
attribute_depth parameter = 0
attribute_depth (dimension bounds) = deepest_of dimension_depth bounds
attribute_depth (intent given) = 0

abbrev pub initial_depth : Initial → ℕ
initial_depth absent = 0
initial_depth (scalar value) = depth value
initial_depth (listed values) = deepest_of depth values

abbrev pub declared_depth : Declared → ℕ
declared_depth entity = max (depth_within (deepest_of dimension_depth) entity.bounds) (initial_depth entity.initial)

abbrev pub ranging_depth : Ranging → ℕ
ranging_depth range = max (depth range.first) (max (depth range.last) (depth_within depth range.step))

abbrev pub case_depth : CaseRange → ℕ
case_depth (only value) = depth value
case_depth (from low) = depth low
case_depth (up_to high) = depth high
case_depth (between low high) = max (depth low) (depth high)

abbrev pub prefix_depth : Prefixed → ℕ
prefix_depth (typed form) = type_depth form
prefix_depth word = 0

abbrev pub target_depth : Target → ℕ
target_depth target = depth_within (deepest_of depth) target.subscripts

abbrev pub deed_depth : Deed → ℕ
deed_depth (assign target value) = max (target_depth target) (depth value)
deed_depth (fill array values) = deepest_of depth values
deed_depth (call callee brackets values) = deepest_of depth values
deed_depth (print written items) = deepest_of depth items
deed_depth (read bracketed targets) = deepest_of target_depth targets
deed_depth deed = 0

-- the indexes of a header, and its mask
abbrev pub header_depth : List Ranging → Option Tree → ℕ
header_depth [] mask = depth_within depth mask
header_depth (index ∷ indexes) mask = max (ranging_depth index) (header_depth indexes mask)

abbrev pub statement_depth : Statement → ℕ
statement_depth (declare form attributes colons entities) =
    max (type_depth form) (max (deepest_of attribute_depth attributes) (deepest_of declared_depth entities))
statement_depth (procedure_line prefixes function name brackets dummies result) = deepest_of prefix_depth prefixes
statement_depth (if_then test) = depth test
statement_depth (else_if test) = depth test
statement_depth (if_action test deed) = max (depth test) (deed_depth deed)
statement_depth (select_case selector) = depth selector
statement_depth (case ranges) = deepest_of case_depth ranges
statement_depth (do_line label counted) = depth_within ranging_depth counted
statement_depth (do_while label test) = depth test
statement_depth (concurrent label form indexes mask locality) = max (depth_within type_depth form) (header_depth indexes mask)
statement_depth (act deed) = deed_depth deed
statement_depth other = 0
