-- The statements for definitions: plain data, with trees in the place of the code's expressions, and
-- the views that take the code's statements to it.
use Rattle.std.specs.Prelude.{ℕ, Bool, List, map, Option, option_map}
use Rattle.dc_tree.specs.declared.stmt.TypeSpec as types
use Rattle.dc_tree.specs.declared.stmt.Bound as bounds
use Rattle.dc_tree.specs.declared.stmt.Intent.{Intent}
use Rattle.dc_tree.specs.declared.stmt.Attr as attributes
use Rattle.dc_tree.specs.declared.stmt.Init as initials
use Rattle.dc_tree.specs.declared.stmt.Entity as entities
use Rattle.dc_tree.specs.declared.stmt.Index as indexes
use Rattle.dc_tree.specs.declared.stmt.Local.{Local}
use Rattle.dc_tree.specs.declared.stmt.Range as ranges
use Rattle.dc_tree.specs.declared.stmt.Prefix as prefixes
use Rattle.dc_tree.specs.declared.stmt.UseForm.{UseForm}
use Rattle.dc_tree.specs.declared.stmt.Unit as units
use Rattle.dc_tree.specs.declared.stmt.Target as targets
use Rattle.dc_tree.specs.declared.stmt.Counted as counted_loops
use Rattle.dc_tree.specs.declared.stmt.Action as actions
use Rattle.dc_tree.specs.declared.stmt.Stmt as statements
use Rattle.dc_tree.specs.Syntax.{Tree, tree}

-- A name, by its bytes.
abbrev pub Name : Type 0
Name = List ℕ

-- A type: LOGICAL, or INTEGER with its kind, and whether `kind =` stands before that.
pub data TypeForm : Type 0 where
  logical : TypeForm
  integer : Bool → Option Tree → TypeForm

-- The bounds of one dimension.
pub record Dimension : Type 0 where
  pub low : Option Tree
  pub high : Tree

pub data Attribute : Type 0 where
  parameter : Attribute
  dimension : List Dimension → Attribute
  intent : Intent → Attribute

-- What follows `=` in a declaration: nothing, one value, or a list.
pub data Initial : Type 0 where
  absent : Initial
  scalar : Tree → Initial
  listed : List Tree → Initial

-- One name of a declaration.
pub record Declared : Type 0 where
  pub name : Name
  pub bounds : Option (List Dimension)
  pub initial : Initial

-- A name with its limits: an index of a DO CONCURRENT, or the variable of a counted DO.
pub record Ranging : Type 0 where
  pub name : Name
  pub first : Tree
  pub last : Tree
  pub step : Option Tree

-- One range of a CASE: a value, from a value on, up to a value, or between two.
pub data CaseRange : Type 0 where
  only : Tree → CaseRange
  from : Tree → CaseRange
  up_to : Tree → CaseRange
  between : Tree → Tree → CaseRange

-- A word, or the type, in front of FUNCTION or SUBROUTINE.
pub data Prefixed : Type 0 where
  pure : Prefixed
  recursive : Prefixed
  typed : TypeForm → Prefixed

-- What is assigned or read: a whole variable, or the element with these subscripts.
pub record Target : Type 0 where
  pub name : Name
  pub subscripts : Option (List Tree)

-- A statement that an IF statement may hold too.
pub data Deed : Type 0 where
  assign : Target → Tree → Deed
  fill : Name → List Tree → Deed
  call : Name → Bool → List Tree → Deed
  cycle : Option Name → Deed
  exit : Option Name → Deed
  return : Deed
  continue : Deed
  stop : Deed
  error_stop : Deed
  print : Bool → List Tree → Deed
  read : Bool → List Target → Deed

-- A statement. Behind a word of the standard `_line` says that it is that statement alone.
pub data Statement : Type 0 where
  program_line : Name → Statement
  use_line : UseForm → Name → List Name → Statement
  implicit_none : Statement
  declare : TypeForm → List Attribute → Bool → List Declared → Statement
  contains_line : Statement
  procedure_line : List Prefixed → Bool → Name → Bool → List Name → Option Name → Statement
  end_line : Option units.Unit → Option Name → Statement
  if_then : Tree → Statement
  else_if : Tree → Statement
  else_line : Statement
  end_if : Statement
  if_action : Tree → Deed → Statement
  select_case : Tree → Statement
  case : List CaseRange → Statement
  case_default : Statement
  end_select : Statement
  do_line : Option Name → Option Ranging → Statement
  do_while : Option Name → Tree → Statement
  concurrent : Option Name → Option TypeForm → List Ranging → Option Tree → List Local → Statement
  end_do : Option Name → Statement
  act : Deed → Statement

-- ---- the views

abbrev pub type_form : types.TypeSpec → TypeForm
type_form types.TypeSpec.Logical = logical
type_form (types.TypeSpec.Integer keyed selector) = integer keyed (option_map tree selector)

abbrev pub dimension_of : bounds.Bound → Dimension
dimension_of bound = record { low = option_map tree bound.low; high = tree bound.high }

abbrev pub attribute : attributes.Attr → Attribute
attribute attributes.Attr.Parameter = parameter
attribute (attributes.Attr.Dimension dimensions) = dimension (map dimension_of dimensions)
attribute (attributes.Attr.Intent given) = intent given

abbrev pub initial : initials.Init → Initial
initial initials.Init.Absent = absent
initial (initials.Init.Scalar value) = scalar (tree value)
initial (initials.Init.Listed values) = listed (map tree values)

abbrev pub declared_of : entities.Entity → Declared
declared_of entity = record { name = entity.name; bounds = option_map (map dimension_of) entity.bounds; initial = initial entity.init }

abbrev pub index_ranging : indexes.Index → Ranging
index_ranging index = record { name = index.name; first = tree index.first; last = tree index.last; step = option_map tree index.step }

abbrev pub counted_ranging : counted_loops.Counted → Ranging
counted_ranging counted = record { name = counted.name; first = tree counted.first; last = tree counted.last; step = option_map tree counted.step }

abbrev pub case_range : ranges.Range → CaseRange
case_range (ranges.Range.One value) = only (tree value)
case_range (ranges.Range.From low) = from (tree low)
case_range (ranges.Range.To high) = up_to (tree high)
case_range (ranges.Range.Both low high) = between (tree low) (tree high)

abbrev pub prefixed : prefixes.Prefix → Prefixed
prefixed prefixes.Prefix.Pure = pure
prefixed prefixes.Prefix.Recursive = recursive
prefixed (prefixes.Prefix.Typed form) = typed (type_form form)

abbrev pub target_of : targets.Target → Target
target_of target = record { name = target.name; subscripts = option_map (map tree) target.subscripts }

abbrev pub deed : actions.Action → Deed
deed (actions.Action.Assign left right) = assign (target_of left) (tree right)
deed (actions.Action.Fill name values) = fill name (map tree values)
deed (actions.Action.Call name brackets args) = call name brackets (map tree args)
deed (actions.Action.Cycle label) = cycle label
deed (actions.Action.Exit label) = exit label
deed actions.Action.Return = return
deed actions.Action.Continue = continue
deed actions.Action.Stop = stop
deed actions.Action.ErrorStop = error_stop
deed (actions.Action.Print written values) = print written (map tree values)
deed (actions.Action.Read bracketed places) = read bracketed (map target_of places)

-- The statement of the code's.
abbrev pub statement : statements.Stmt → Statement
statement (statements.Stmt.Program name) = program_line name
statement (statements.Stmt.Use form taken names) = use_line form taken names
statement statements.Stmt.ImplicitNone = implicit_none
statement (statements.Stmt.Declare spec attrs colons names) = declare (type_form spec) (map attribute attrs) colons (map declared_of names)
statement statements.Stmt.Contains = contains_line
statement (statements.Stmt.Procedure prefix function name brackets dummies result) = procedure_line (map prefixed prefix) function name brackets dummies result
statement (statements.Stmt.End unit name) = end_line unit name
statement (statements.Stmt.IfThen test) = if_then (tree test)
statement (statements.Stmt.ElseIf test) = else_if (tree test)
statement statements.Stmt.Else = else_line
statement statements.Stmt.EndIf = end_if
statement (statements.Stmt.IfAction test action) = if_action (tree test) (deed action)
statement (statements.Stmt.Select selector) = select_case (tree selector)
statement (statements.Stmt.Case values) = case (map case_range values)
statement statements.Stmt.CaseDefault = case_default
statement statements.Stmt.EndSelect = end_select
statement (statements.Stmt.Do label counted) = do_line label (option_map counted_ranging counted)
statement (statements.Stmt.DoWhile label test) = do_while label (tree test)
statement (statements.Stmt.Concurrent label spec names mask locality) = concurrent label (option_map type_form spec) (map index_ranging names) (option_map tree mask) locality
statement (statements.Stmt.EndDo label) = end_do label
statement (statements.Stmt.Act action) = act (deed action)
