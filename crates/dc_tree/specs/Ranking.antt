-- Which statements the grammar gives. Their expressions are ranked, their names are no reserved words,
-- a list has an item where one is asked for, and what a form doesn't spell is absent, empty or false.
-- After ISO/IEC 1539-1:2023, clauses 8, 10.2, 11, 12.6, 14 and 15; reserved words are this project's own.
use Rattle.std.specs.Prelude.{Bool, true, false, not, ◌&&◌, ◌||◌, IsTrue, IsFalse, List, [], ◌∷◌, Option, None, Some, IfSome, is_none}
use Rattle.std.specs.List.{list_any}
use Rattle.dc_tree.specs.declared.stmt.Local.{Local}
use Rattle.dc_tree.specs.declared.stmt.Unit as units
use Rattle.dc_tree.specs.Names.{is_name}
use Rattle.dc_tree.specs.Syntax.{Tree, chars}
use Rattle.dc_tree.specs.Grammar.{Ranked}
use Rattle.dc_tree.specs.Statements.{Name, TypeForm, Dimension, Attribute, Initial, Declared, Ranging, CaseRange, Prefixed, Target, Deed, Statement}
use Rattle.dc_tree.specs.Statements.{logical, integer, parameter, dimension, intent, absent, scalar, listed, pure, recursive, typed}
use Rattle.dc_tree.specs.Statements.{only, from, up_to, between}
use Rattle.dc_tree.specs.Statements.{assign, fill, call, cycle, exit, return, continue, stop, error_stop, print, read}
use Rattle.dc_tree.specs.Statements.{program_line, use_line, implicit_none, declare, contains_line, procedure_line, end_line}
use Rattle.dc_tree.specs.Statements.{if_then, else_if, else_line, end_if, if_action, select_case, case, case_default, end_select}
use Rattle.dc_tree.specs.Statements.{do_line, do_while, concurrent, end_do, act}

-- ---- lists and names

abbrev pub is_empty : {A : Type 0} → List A → Bool
is_empty [] = true
is_empty (first ∷ rest) = false

-- Each item of a list fits.
abbrev pub Each : {A : Type 0} → (A → Type 0) → List A → Type 0
Each Fits [] = Unit {0}
Each Fits (first ∷ rest) = Fits first × Each Fits rest

-- Each item fits, and there is one at least.
abbrev pub OneOrMore : {A : Type 0} → (A → Type 0) → List A → Type 0
OneOrMore Fits [] = ⊥
OneOrMore Fits (first ∷ rest) = Fits first × Each Fits rest

abbrev pub IsName : Name → Type 0
IsName text = IsTrue (is_name text)

-- ---- declarations

-- `kind =` stands before a kind alone.
abbrev pub RankedType : TypeForm → Type 0
RankedType logical = Unit {0}
RankedType (integer keyed None) = IsFalse keyed
RankedType (integer keyed (Some kind)) = Ranked kind

abbrev pub RankedDimension : Dimension → Type 0
RankedDimension bounds = IfSome bounds.low Ranked × Ranked bounds.high

abbrev pub RankedAttribute : Attribute → Type 0
RankedAttribute parameter = Unit {0}
RankedAttribute (dimension bounds) = OneOrMore RankedDimension bounds
RankedAttribute (intent given) = Unit {0}

abbrev pub RankedInitial : Initial → Type 0
RankedInitial absent = Unit {0}
RankedInitial (scalar value) = Ranked value
RankedInitial (listed values) = OneOrMore Ranked values

abbrev pub RankedDeclared : Declared → Type 0
RankedDeclared entity = IsName entity.name × IfSome entity.bounds (OneOrMore RankedDimension) × RankedInitial entity.initial

abbrev pub has_initial : Declared → Bool
has_initial entity = elim entity.initial [ absent ↦ false | scalar value ↦ true | listed values ↦ true ]

-- A declaration with an attribute or an initial value has `::`.
abbrev pub needs_colons : List Attribute → List Declared → Bool
needs_colons attributes entities = not (is_empty attributes) || list_any has_initial entities

-- ---- heads of procedures

abbrev pub RankedPrefix : Prefixed → Type 0
RankedPrefix pure = Unit {0}
RankedPrefix recursive = Unit {0}
RankedPrefix (typed form) = RankedType form

abbrev pub is_typed : Prefixed → Bool
is_typed (typed form) = true
is_typed other = false

-- two prefixes of one word, or two types
abbrev pub same_prefix : Prefixed → Prefixed → Bool
same_prefix pure pure = true
same_prefix recursive recursive = true
same_prefix (typed form) (typed other) = true
same_prefix one other = false

-- Each word stands once at most, and one type at most.
abbrev pub each_once : List Prefixed → Bool
each_once [] = true
each_once (first ∷ rest) = not (list_any (same_prefix first) rest) && each_once rest

-- A function, at true, has brackets. A subroutine has no type and no result, and its dummies stand in
-- brackets.
abbrev pub fits_heading : Bool → List Prefixed → Bool → List Name → Option Name → Bool
fits_heading true prefixes brackets dummies result = brackets
fits_heading false prefixes brackets dummies result =
    not (list_any is_typed prefixes) && (brackets || is_empty dummies) && is_none result

-- ---- constructs

abbrev pub RankedRanging : Ranging → Type 0
RankedRanging range = IsName range.name × Ranked range.first × Ranked range.last × IfSome range.step Ranked

abbrev pub RankedCase : CaseRange → Type 0
RankedCase (only value) = Ranked value
RankedCase (from low) = Ranked low
RankedCase (up_to high) = Ranked high
RankedCase (between low high) = Ranked low × Ranked high

-- The type of a loop's indexes is INTEGER.
abbrev pub RankedIndexType : TypeForm → Type 0
RankedIndexType logical = ⊥
RankedIndexType (integer keyed kind) = RankedType (integer keyed kind)

abbrev pub RankedLocal : Local → Type 0
RankedLocal (Local.Locals names) = OneOrMore IsName names
RankedLocal (Local.Inits names) = OneOrMore IsName names
RankedLocal (Local.Shared names) = OneOrMore IsName names
RankedLocal (Local.Reduce operation names) = OneOrMore IsName names
RankedLocal Local.DefaultNone = Unit {0}

-- ---- statements

abbrev pub RankedTarget : Target → Type 0
RankedTarget target = IsName target.name × IfSome target.subscripts (OneOrMore Ranked)

-- What is written: an expression, or a character literal alone.
abbrev pub RankedItem : Tree → Type 0
RankedItem (chars text) = Unit {0}
RankedItem value = Ranked value

-- The grammar gives the action, which an IF statement may hold too. A CALL without brackets has no arguments.
abbrev pub RankedDeed : Deed → Type 0
RankedDeed (assign target value) = RankedTarget target × Ranked value
RankedDeed (fill array values) = IsName array × OneOrMore Ranked values
RankedDeed (call callee brackets values) = IsName callee × IsTrue (brackets || is_empty values) × Each Ranked values
RankedDeed (cycle label) = IfSome label IsName
RankedDeed (exit label) = IfSome label IsName
RankedDeed return = Unit {0}
RankedDeed continue = Unit {0}
RankedDeed stop = Unit {0}
RankedDeed error_stop = Unit {0}
RankedDeed (print written items) = Each RankedItem items
RankedDeed (read bracketed targets) = Each RankedTarget targets

-- An END that doesn't say what it ends has no name.
abbrev pub RankedEnd : Option units.Unit → Option Name → Type 0
RankedEnd None text = IsTrue (is_none text)
RankedEnd (Some unit) text = IfSome text IsName

-- The grammar gives the statement.
abbrev pub RankedStatement : Statement → Type 0
RankedStatement (program_line text) = IsName text
RankedStatement (use_line form text names) = IsName text × OneOrMore IsName names
RankedStatement implicit_none = Unit {0}
RankedStatement (declare form attributes colons entities) =
    RankedType form × Each RankedAttribute attributes × OneOrMore RankedDeclared entities × IsTrue (colons || not (needs_colons attributes entities))
RankedStatement contains_line = Unit {0}
RankedStatement (procedure_line prefixes function text brackets dummies result) =
    Each RankedPrefix prefixes × IsTrue (each_once prefixes) × IsName text × Each IsName dummies × IfSome result IsName
    × IsTrue (fits_heading function prefixes brackets dummies result)
RankedStatement (end_line unit text) = RankedEnd unit text
RankedStatement (if_then test) = Ranked test
RankedStatement (else_if test) = Ranked test
RankedStatement else_line = Unit {0}
RankedStatement end_if = Unit {0}
RankedStatement (if_action test action) = Ranked test × RankedDeed action
RankedStatement (select_case selector) = Ranked selector
RankedStatement (case ranges) = OneOrMore RankedCase ranges
RankedStatement case_default = Unit {0}
RankedStatement end_select = Unit {0}
RankedStatement (do_line label counted) = IfSome label IsName × IfSome counted RankedRanging
RankedStatement (do_while label test) = IfSome label IsName × Ranked test
RankedStatement (concurrent label form indexes mask locality) =
    IfSome label IsName × IfSome form RankedIndexType × OneOrMore RankedRanging indexes × IfSome mask Ranked × Each RankedLocal locality
RankedStatement (end_do label) = IfSome label IsName
RankedStatement (act action) = RankedDeed action
