-- The way back from the data of statements, blocks and programs to those of the code. So the views of
-- them lose nothing.
use Rattle.std.specs.Prelude.{◌≡◌, List, [], ◌∷◌, map, option_map}
use Rattle.dc_tree.specs.declared.stmt.TypeSpec as types
use Rattle.dc_tree.specs.declared.stmt.Bound as bounds
use Rattle.dc_tree.specs.declared.stmt.Attr as attributes
use Rattle.dc_tree.specs.declared.stmt.Init as initials
use Rattle.dc_tree.specs.declared.stmt.Entity as entities
use Rattle.dc_tree.specs.declared.stmt.Index as indexes
use Rattle.dc_tree.specs.declared.stmt.Range as ranges
use Rattle.dc_tree.specs.declared.stmt.Prefix as prefixes
use Rattle.dc_tree.specs.declared.stmt.Target as targets
use Rattle.dc_tree.specs.declared.stmt.Counted as counted_loops
use Rattle.dc_tree.specs.declared.stmt.Action as actions
use Rattle.dc_tree.specs.declared.stmt.Stmt as statements
use Rattle.dc_tree.specs.declared.program.Lined as lines
use Rattle.dc_tree.specs.declared.program.Block.{Block, roll-Block}
use Rattle.dc_tree.specs.declared.program.Node.{Node, Plain, If, Select, Loop}
use Rattle.dc_tree.specs.declared.program.Part.{Part, roll-Part}
use Rattle.dc_tree.specs.declared.program.Procedure as procedures
use Rattle.dc_tree.specs.declared.program.Program as programs
use Rattle.dc_tree.specs.Back.{back}
use Rattle.dc_tree.specs.Statements.{TypeForm, Dimension, Attribute, Initial, Declared, Ranging, CaseRange, Prefixed, Target}
use Rattle.dc_tree.specs.Statements.{Deed, Statement, statement}
use Rattle.dc_tree.specs.Statements.{logical, integer, parameter, dimension, intent, absent, scalar, listed, pure, recursive, typed}
use Rattle.dc_tree.specs.Statements.{only, from, up_to, between}
use Rattle.dc_tree.specs.Statements.{assign, fill, call, cycle, exit, return, continue, stop, error_stop, print, read}
use Rattle.dc_tree.specs.Statements.{program_line, use_line, implicit_none, declare, contains_line, procedure_line, end_line}
use Rattle.dc_tree.specs.Statements.{if_then, else_if, else_line, end_if, if_action, select_case, case, case_default, end_select}
use Rattle.dc_tree.specs.Statements.{do_line, do_while, concurrent, end_do, act}
use Rattle.dc_tree.specs.Blocks.{Line, Item, Items, Arms, plain, branch, select, loop, none, and_then, no_arms, arm, Subprogram, Source, source_of}

-- ---- statements

abbrev pub back_type : TypeForm → types.TypeSpec
back_type logical = types.TypeSpec.Logical
back_type (integer keyed kind) = types.TypeSpec.Integer keyed (option_map back kind)

abbrev pub back_dimension : Dimension → bounds.Bound
back_dimension bound = record { low = option_map back bound.low; high = back bound.high }

abbrev pub back_attribute : Attribute → attributes.Attr
back_attribute parameter = attributes.Attr.Parameter
back_attribute (dimension dimensions) = attributes.Attr.Dimension (map back_dimension dimensions)
back_attribute (intent given) = attributes.Attr.Intent given

abbrev pub back_initial : Initial → initials.Init
back_initial absent = initials.Init.Absent
back_initial (scalar value) = initials.Init.Scalar (back value)
back_initial (listed values) = initials.Init.Listed (map back values)

abbrev pub back_declared : Declared → entities.Entity
back_declared entity = record { name = entity.name; bounds = option_map (map back_dimension) entity.bounds; init = back_initial entity.initial }

abbrev pub back_index : Ranging → indexes.Index
back_index range = record { name = range.name; first = back range.first; last = back range.last; step = option_map back range.step }

abbrev pub back_counted : Ranging → counted_loops.Counted
back_counted range = record { name = range.name; first = back range.first; last = back range.last; step = option_map back range.step }

abbrev pub back_case : CaseRange → ranges.Range
back_case (only value) = ranges.Range.One (back value)
back_case (from low) = ranges.Range.From (back low)
back_case (up_to high) = ranges.Range.To (back high)
back_case (between low high) = ranges.Range.Both (back low) (back high)

abbrev pub back_prefix : Prefixed → prefixes.Prefix
back_prefix pure = prefixes.Prefix.Pure
back_prefix recursive = prefixes.Prefix.Recursive
back_prefix (typed form) = prefixes.Prefix.Typed (back_type form)

abbrev pub back_target : Target → targets.Target
back_target target = record { name = target.name; subscripts = option_map (map back) target.subscripts }

abbrev pub back_deed : Deed → actions.Action
back_deed (assign left right) = actions.Action.Assign (back_target left) (back right)
back_deed (fill array values) = actions.Action.Fill array (map back values)
back_deed (call callee brackets values) = actions.Action.Call callee brackets (map back values)
back_deed (cycle label) = actions.Action.Cycle label
back_deed (exit label) = actions.Action.Exit label
back_deed return = actions.Action.Return
back_deed continue = actions.Action.Continue
back_deed stop = actions.Action.Stop
back_deed error_stop = actions.Action.ErrorStop
back_deed (print written values) = actions.Action.Print written (map back values)
back_deed (read bracketed places) = actions.Action.Read bracketed (map back_target places)

abbrev pub back_statement : Statement → statements.Stmt
back_statement (program_line text) = statements.Stmt.Program text
back_statement (use_line form text names) = statements.Stmt.Use form text names
back_statement implicit_none = statements.Stmt.ImplicitNone
back_statement (declare form given colons names) =
    statements.Stmt.Declare (back_type form) (map back_attribute given) colons (map back_declared names)
back_statement contains_line = statements.Stmt.Contains
back_statement (procedure_line given function text brackets dummies result) =
    statements.Stmt.Procedure (map back_prefix given) function text brackets dummies result
back_statement (end_line unit text) = statements.Stmt.End unit text
back_statement (if_then test) = statements.Stmt.IfThen (back test)
back_statement (else_if test) = statements.Stmt.ElseIf (back test)
back_statement else_line = statements.Stmt.Else
back_statement end_if = statements.Stmt.EndIf
back_statement (if_action test action) = statements.Stmt.IfAction (back test) (back_deed action)
back_statement (select_case selector) = statements.Stmt.Select (back selector)
back_statement (case values) = statements.Stmt.Case (map back_case values)
back_statement case_default = statements.Stmt.CaseDefault
back_statement end_select = statements.Stmt.EndSelect
back_statement (do_line label counted) = statements.Stmt.Do label (option_map back_counted counted)
back_statement (do_while label test) = statements.Stmt.DoWhile label (back test)
back_statement (concurrent label form names mask locality) =
    statements.Stmt.Concurrent label (option_map back_type form) (map back_index names) (option_map back mask) locality
back_statement (end_do label) = statements.Stmt.EndDo label
back_statement (act action) = statements.Stmt.Act (back_deed action)

-- ---- blocks and programs

abbrev pub back_line : Line → lines.Lined
back_line line = record { line = line.line; stmt = back_statement line.says }

abbrev mutual
  pub back_item : Item → Node
  back_item (plain line) = Plain (back_line line)
  back_item (branch arms close) = If (back_arms arms) (back_line close)
  back_item (select head arms close) = Select (back_line head) (back_arms arms) (back_line close)
  back_item (loop head body close) = Loop (back_line head) (roll-Block (record { nodes = back_items body })) (back_line close)

  pub back_items : Items → List Node
  back_items none = []
  back_items (and_then first rest) = back_item first ∷ back_items rest

  pub back_arms : Arms → List Part
  back_arms no_arms = []
  back_arms (arm head body rest) =
      roll-Part (record { head = back_line head; body = roll-Block (record { nodes = back_items body }) }) ∷ back_arms rest

abbrev pub back_block : Items → Block
back_block body = roll-Block (record { nodes = back_items body })

abbrev pub back_subprogram : Subprogram → procedures.Procedure
back_subprogram subprogram = record {
  head = back_line subprogram.head;
  front = map back_line subprogram.front;
  body = back_block subprogram.body;
  close = back_line subprogram.close;
}

abbrev pub back_source : Source → programs.Program
back_source source = record {
  head = back_line source.head;
  front = map back_line source.front;
  body = back_block source.body;
  contains = source.contains;
  procedures = map back_subprogram source.procedures;
  close = back_line source.close;
}

-- ---- the laws

-- Two statements that are seen as one are one.
abbrev pub IsStatementToldApart : statements.Stmt → statements.Stmt → Type 0
IsStatementToldApart a b = statement a ≡ statement b → a ≡ b

-- Two programs that are seen as one are one.
abbrev pub IsProgramToldApart : programs.Program → programs.Program → Type 0
IsProgramToldApart a b = source_of a ≡ source_of b → a ≡ b
