-- The rules of nesting, K13 to K18. The names at ends are after ISO/IEC 1539-1:2023, 11.1.7.2, 14.1 and 15.6.2, the loops of
-- CYCLE and EXIT, and that these leave no DO CONCURRENT, after 11.1.7.4.4 and 11.1.12, and RETURN after 15.6.2.7. The limit of
-- K14, K18, the numbers of the rules, and the lines that they name, are this project's own.
use Rattle.std.specs.Prelude.{ℕ, Bool, true, false, not, ◌&&◌, ◌||◌, cond, ◌==◌, nat_le, List, [], ◌∷◌, length, slice_get, Option, None, Some, IsTrue}
use Rattle.std.specs.List.{list_any}
use Rattle.std.specs.Option.{option_map_or}
use Rattle.std.specs.Str.{bytes_eq}
use Rattle.dc_tree.specs.Statements.{Name, Deed, cycle, exit, return, Statement, end_line, if_then, if_action, select_case}
use Rattle.dc_tree.specs.Statements.{do_line, do_while, concurrent, end_do, act}
use Rattle.dc_tree.specs.Blocks.{Line}
use Rattle.dc_nest.specs.declared.place.Construct.{Construct}
use Rattle.dc_nest.specs.declared.place.Heading.{Heading}
use Rattle.dc_nest.specs.declared.place.Scope.{Scope}
use Rattle.dc_nest.specs.declared.place.Place.{Place}
use Rattle.dc_nest.specs.declared.place.Aim.{Aim}
use Rattle.dc_nest.specs.declared.rule.Rule.{Rule}
use Rattle.dc_nest.specs.Places.{open_at, is_program, allows, behind, is_ended}

-- ---- what one statement may break where it stands

-- It begins an IF, SELECT CASE or DO construct.
abbrev pub is_opening : Statement → Bool
is_opening (if_then test) = true
is_opening (select_case selector) = true
is_opening (do_line label counted) = true
is_opening (do_while label test) = true
is_opening (concurrent label form indexes mask locality) = true
is_opening _ = false

-- It begins a construct inside of 64.
abbrev pub is_too_deep : Place → Statement → Bool
is_too_deep place says = is_opening says && nat_le 64 (length (open_at place))

abbrev pub is_same_label : Option Name → Option Name → Bool
is_same_label None None = true
is_same_label (Some a) (Some b) = bytes_eq a b
is_same_label _ _ = false

abbrev pub label_of : Construct → Option Name
label_of (Construct.Loop label) = label
label_of (Construct.Concurrent label) = label
label_of _ = None

-- the name of the innermost construct, if it has one
abbrev pub label_at : Place → Option Name
label_at place = option_map_or label_of (slice_get (open_at place) 0) None

abbrev pub name_of : Scope → Name
name_of scope = option_map_or (λ (heading : Heading). heading.name) scope.procedure scope.program

-- the name of the unit that an END would end
abbrev pub unit_at : Place → Name
unit_at (Place.Within scope position) = name_of scope
unit_at (Place.Between program) = program
unit_at _ = []

-- The name at an end isn't that at its beginning. A named loop has its name at its end; a unit may.
abbrev pub has_other_name : Place → Statement → Bool
has_other_name place (end_do label) = not (is_same_label label (label_at place))
has_other_name place (end_line unit (Some name)) = not (bytes_eq name (unit_at place))
has_other_name place _ = false

abbrev pub is_concurrent : Construct → Bool
is_concurrent (Construct.Concurrent label) = true
is_concurrent _ = false

-- the loop with this name, or any loop where there is no name
abbrev pub is_meant : Option Name → Construct → Bool
is_meant label (Construct.Loop name) = option_map_or (λ asked. is_same_label (Some asked) name) label true
is_meant label (Construct.Concurrent name) = option_map_or (λ asked. is_same_label (Some asked) name) label true
is_meant label _ = false

-- It stands outside of a DO CONCURRENT.
abbrev pub crossed : Aim → Aim
crossed Aim.Nothing = Aim.Nothing
crossed (Aim.At is_one outer) = Aim.At is_one true

-- The loop to which CYCLE or EXIT belongs: of the open constructs, the innermost first, the first loop that is meant.
abbrev pub aim : Option Name → List Construct → Aim
aim label [] = Aim.Nothing
aim label (construct ∷ around) =
    cond (is_meant label construct) (Aim.At (is_concurrent construct) false) (cond (is_concurrent construct) (crossed (aim label around)) (aim label around))

abbrev pub is_nothing : Aim → Bool
is_nothing Aim.Nothing = true
is_nothing _ = false

abbrev pub is_crossed : Aim → Bool
is_crossed (Aim.At is_one outer) = outer
is_crossed _ = false

abbrev pub is_at_concurrent : Aim → Bool
is_at_concurrent (Aim.At is_one outer) = is_one
is_at_concurrent _ = false

-- what a statement does, also as the action of an IF statement
abbrev pub deed_of : Statement → Option Deed
deed_of (act action) = Some action
deed_of (if_action test action) = Some action
deed_of _ = None

abbrev pub has_no_loop : Place → Deed → Bool
has_no_loop place (cycle label) = is_nothing (aim label (open_at place))
has_no_loop place (exit label) = is_nothing (aim label (open_at place))
has_no_loop place _ = false

abbrev pub is_in_procedure : Place → Bool
is_in_procedure (Place.Within scope position) = not (is_program scope)
is_in_procedure _ = false

abbrev pub strays : Place → Deed → Bool
strays place (cycle label) = is_crossed (aim label (open_at place))
strays place (exit label) = is_at_concurrent (aim label (open_at place)) || is_crossed (aim label (open_at place))
strays place return = not (is_in_procedure place)
strays place _ = false

abbrev pub is_concurrent_line : Statement → Bool
is_concurrent_line (concurrent label form indexes mask locality) = true
is_concurrent_line _ = false

-- Whether a statement breaks a rule in its place.
abbrev pub breaks_at : Rule → Place → Statement → Bool
-- K13: It closes nothing, or isn't allowed there.
breaks_at Rule.Misplaced place says = not (allows place says)
-- K14: With it more than 64 constructs are open.
breaks_at Rule.TooDeep place says = is_too_deep place says
-- K15: The name at an end differs from that at its beginning, or is missing after a named loop.
breaks_at Rule.OtherName place says = has_other_name place says
-- K16: CYCLE or EXIT belongs to no loop, or names none around it.
breaks_at Rule.NoLoop place says = option_map_or (has_no_loop place) (deed_of says) false
-- K17: EXIT belongs to a DO CONCURRENT, CYCLE or EXIT belongs to a loop outside of a DO CONCURRENT around it, or RETURN stands
-- outside of a procedure.
breaks_at Rule.Strays place says = option_map_or (strays place) (deed_of says) false
-- K18: A DO CONCURRENT stands in a procedure, or in another.
breaks_at Rule.Confined place says = is_concurrent_line says && (is_in_procedure place || list_any is_concurrent (open_at place))

-- ---- what a list of statements may break

-- a statement with the place in which it stands
pub record Placed : Type 0 where
  pub place : Place
  pub line : ℕ
  pub says : Statement

-- The statements from a place on, up to the first that isn't allowed where it stands. Behind that nothing has a place.
abbrev pub placed_from : Place → List Line → List Placed
placed_from place [] = []
placed_from place (first ∷ rest) =
    record { place = place; line = first.line; says = first.says } ∷ cond (allows place first.says) (placed_from (behind place first.says) rest) []

-- Each statement is allowed where it stands, and the program isn't ended behind the last.
abbrev pub is_open_behind : Place → List Line → Bool
is_open_behind place [] = not (is_ended place)
is_open_behind place (first ∷ rest) = allows place first.says && is_open_behind (behind place first.says) rest

-- the line of the last statement, or another one where there is none
abbrev pub last_line : ℕ → List Line → ℕ
last_line line [] = line
last_line line (first ∷ rest) = last_line first.line rest

-- K13 is broken at the end too, where something is open behind the last statement.
abbrev pub is_of_the_end : Rule → Bool
is_of_the_end Rule.Misplaced = true
is_of_the_end _ = false

-- Whether a rule is broken on the line of this number, by the statements from a place on, in front of which stands this line.
abbrev pub breaks_from : Place → ℕ → Rule → List Line → ℕ → Bool
breaks_from place line rule list number =
    list_any (λ (p : Placed). p.line == number && breaks_at rule p.place p.says) (placed_from place list)
    || ((is_of_the_end rule && is_open_behind place list) && number == last_line line list)

-- Whether a list of statements breaks a rule on the line of this number. What is open behind the last statement is on the
-- line of that, or on line 1 where there is no statement.
abbrev pub Breaks : Rule → List Line → ℕ → Type 0
Breaks rule list number = IsTrue (breaks_from Place.Outset 1 rule list number)

abbrev pub number_of : Rule → ℕ
number_of Rule.Misplaced = 13
number_of Rule.TooDeep = 14
number_of Rule.OtherName = 15
number_of Rule.NoLoop = 16
number_of Rule.Strays = 17
number_of Rule.Confined = 18
