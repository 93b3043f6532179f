-- Where a statement stands, which statements a place allows, and the place behind one. The order of statements is
-- after ISO/IEC 1539-1:2023, clauses 5.1 and 5.3.2, constructs after 11.1, and procedures after 15.6.2. That a procedure
-- has no USE, and that nothing but declarations stands in front of executable statements, are this project's own.
use Rattle.std.specs.Prelude.{Bool, true, false, not, ◌&&◌, List, [], ◌∷◌, slice_get, Option, None, Some}
use Rattle.std.specs.Option.{option_map_or}
use Rattle.dc_tree.specs.declared.stmt.Unit.{Unit}
use Rattle.dc_tree.specs.Statements.{Name, Statement, program_line, use_line, implicit_none, declare, contains_line, procedure_line, end_line}
use Rattle.dc_tree.specs.Statements.{if_then, else_if, else_line, end_if, if_action, select_case, case, case_default, end_select}
use Rattle.dc_tree.specs.Statements.{do_line, do_while, concurrent, end_do, act}
use Rattle.dc_nest.specs.declared.place.Construct.{Construct}
use Rattle.dc_nest.specs.declared.place.Front.{Front}
use Rattle.dc_nest.specs.declared.place.Position.{Position}
use Rattle.dc_nest.specs.declared.place.Heading.{Heading}
use Rattle.dc_nest.specs.declared.place.Scope.{Scope}
use Rattle.dc_nest.specs.declared.place.Place.{Place}

-- ---- what is known of a place

abbrev pub under_top : {T : Type 0} → List T → List T
under_top [] = []
under_top (first ∷ rest) = rest

-- the open constructs, the innermost first
abbrev pub open_in : Position → List Construct
open_in (Position.Front front) = []
open_in (Position.Body around) = around

abbrev pub open_at : Place → List Construct
open_at (Place.Within scope position) = open_in position
open_at _ = []

abbrev pub innermost : Position → Option Construct
innermost position = slice_get (open_in position) 0

-- whether the innermost open construct is such a one
abbrev pub directly_in : (Construct → Bool) → Position → Bool
directly_in test position = option_map_or test (innermost position) false

abbrev pub is_if : Construct → Bool
is_if (Construct.If otherwise) = true
is_if _ = false

abbrev pub is_before_else : Construct → Bool
is_before_else (Construct.If otherwise) = not otherwise
is_before_else _ = false

abbrev pub is_select : Construct → Bool
is_select (Construct.Select cased) = true
is_select _ = false

abbrev pub is_loop : Construct → Bool
is_loop (Construct.Loop label) = true
is_loop (Construct.Concurrent label) = true
is_loop _ = false

-- No statement stands between SELECT CASE and its first CASE (11.1.9.1).
abbrev pub is_block : Construct → Bool
is_block (Construct.Select cased) = cased
is_block _ = true

abbrev pub may_use : Position → Bool
may_use (Position.Front Front.Uses) = true
may_use _ = false

abbrev pub may_be_implicit : Position → Bool
may_be_implicit (Position.Front Front.Uses) = true
may_be_implicit (Position.Front Front.Implicit) = true
may_be_implicit _ = false

abbrev pub may_declare : Position → Bool
may_declare (Position.Front front) = true
may_declare _ = false

abbrev pub may_execute : Position → Bool
may_execute position = option_map_or is_block (innermost position) true

-- No construct is open, so that CONTAINS or END may follow.
abbrev pub is_closed : Position → Bool
is_closed position = option_map_or (λ construct. false) (innermost position) true

abbrev pub is_program : Scope → Bool
is_program scope = option_map_or (λ heading. false) scope.procedure true

abbrev pub main_of : Name → Scope
main_of name = record { program = name; procedure = None }

abbrev pub procedure_of : Name → Bool → Name → Scope
procedure_of program function name = record { program = program; procedure = Some (record { function = function; name = name }) }

-- An END that says a unit ends a unit of that kind alone. A bare END ends the program or a procedure.
abbrev pub ends : Option Unit → Scope → Bool
ends None scope = true
ends (Some Unit.Program) scope = is_program scope
ends (Some Unit.Function) scope = option_map_or (λ (heading : Heading). heading.function) scope.procedure false
ends (Some Unit.Subroutine) scope = option_map_or (λ (heading : Heading). not heading.function) scope.procedure false

-- An END ends the program.
abbrev pub ends_program : Option Unit → Bool
ends_program None = true
ends_program (Some Unit.Program) = true
ends_program _ = false

-- ---- which statements a place allows

-- at a position in a unit, the statements of its front and its body
abbrev pub allows_inside : Position → Statement → Bool
allows_inside position (use_line form used names) = may_use position
allows_inside position implicit_none = may_be_implicit position
allows_inside position (declare form attributes colons names) = may_declare position
allows_inside position (if_then test) = may_execute position
allows_inside position (else_if test) = directly_in is_before_else position
allows_inside position else_line = directly_in is_before_else position
allows_inside position end_if = directly_in is_if position
allows_inside position (if_action test action) = may_execute position
allows_inside position (select_case selector) = may_execute position
allows_inside position (case values) = directly_in is_select position
allows_inside position case_default = directly_in is_select position
allows_inside position end_select = directly_in is_select position
allows_inside position (do_line label counted) = may_execute position
allows_inside position (do_while label test) = may_execute position
allows_inside position (concurrent label form indexes mask locality) = may_execute position
allows_inside position (end_do label) = directly_in is_loop position
allows_inside position (act action) = may_execute position
allows_inside position _ = false

-- In front of everything stands the program line. A unit goes on, ends, or, where it is the program, has CONTAINS.
-- Between procedures another may begin, or the program ends. Nothing stands behind that.
abbrev pub allows : Place → Statement → Bool
allows Place.Outset (program_line name) = true
allows Place.Outset _ = false
allows (Place.Within scope position) contains_line = is_program scope && is_closed position
allows (Place.Within scope position) (end_line unit name) = ends unit scope && is_closed position
allows (Place.Within scope position) says = allows_inside position says
allows (Place.Between program) (procedure_line prefixes function name brackets dummies given) = true
allows (Place.Between program) (end_line unit name) = ends_program unit
allows (Place.Between program) _ = false
allows Place.Ended says = false

-- ---- the place behind a statement that is allowed

abbrev pub inside : Construct → Position → Position
inside construct position = Position.Body (construct ∷ open_in position)

-- the innermost construct, with this known of it
abbrev pub known : Construct → Position → Position
known construct position = Position.Body (construct ∷ under_top (open_in position))

abbrev pub outside : Position → Position
outside position = Position.Body (under_top (open_in position))

abbrev pub behind_inside : Position → Statement → Position
behind_inside position implicit_none = Position.Front Front.Declarations
behind_inside position (declare form attributes colons names) = Position.Front Front.Declarations
behind_inside position (if_then test) = inside (Construct.If false) position
behind_inside position else_line = known (Construct.If true) position
behind_inside position end_if = outside position
behind_inside position (if_action test action) = Position.Body (open_in position)
behind_inside position (select_case selector) = inside (Construct.Select false) position
behind_inside position (case values) = known (Construct.Select true) position
behind_inside position case_default = known (Construct.Select true) position
behind_inside position end_select = outside position
behind_inside position (do_line label counted) = inside (Construct.Loop label) position
behind_inside position (do_while label test) = inside (Construct.Loop label) position
behind_inside position (concurrent label form indexes mask locality) = inside (Construct.Concurrent label) position
behind_inside position (end_do label) = outside position
behind_inside position (act action) = Position.Body (open_in position)
behind_inside position _ = position

-- The end of a procedure leads back to the program, behind its CONTAINS.
abbrev pub behind_end : Scope → Place
behind_end scope = option_map_or (λ heading. Place.Between scope.program) scope.procedure Place.Ended

abbrev pub behind : Place → Statement → Place
behind Place.Outset (program_line name) = Place.Within (main_of name) (Position.Front Front.Uses)
behind Place.Outset _ = Place.Outset
behind (Place.Within scope position) contains_line = Place.Between scope.program
behind (Place.Within scope position) (end_line unit name) = behind_end scope
behind (Place.Within scope position) says = Place.Within scope (behind_inside position says)
behind (Place.Between program) (procedure_line prefixes function name brackets dummies given) =
    Place.Within (procedure_of program function name) (Position.Front Front.Implicit)
behind (Place.Between program) _ = Place.Ended
behind Place.Ended says = Place.Ended

abbrev pub is_ended : Place → Bool
is_ended Place.Ended = true
is_ended _ = false
