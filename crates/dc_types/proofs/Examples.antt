-- Statements, each written in full. The main program declares the variables n and k of kind 4, m of kind 2, i of kind
-- 8 and b, LOGICAL, the array v of 3, the constant c, and the subroutine p, whose one dummy d is INTENT(OUT).
use Rattle.std.proofs.Common.{◌≡◌, true, false, List, [], ◌∷◌, Some, None, refl}
use Rattle.std.specs.Prelude.{ℕ, Bool, Option, pos, codes}
use Rattle.dc_int.specs.declared.kind.Kind.{Kind}
use Rattle.dc_tree.specs.declared.fail.Refusal.{Refusal}
use Rattle.dc_tree.specs.declared.stmt.Intent.{Intent}
use Rattle.dc_tree.specs.declared.stmt.Local.{Local}
use Rattle.dc_tree.specs.declared.symbols.Role as roles
use Rattle.dc_tree.specs.declared.symbols.Symbol.{Symbol}
use Rattle.dc_tree.specs.declared.token.Mark.{Mark}
use Rattle.dc_tree.specs.declared.token.Suffix.{Suffix}
use Rattle.dc_tree.specs.Blocks.{Line, Item, Items, plain, branch, select, loop, none, and_then, no_arms, arm, Source}
use Rattle.dc_tree.specs.Findings.{finding}
use Rattle.dc_tree.specs.Statements.{Name, TypeForm, integer, Ranging, Statement, Target, scalar, assign, fill, call, print, read, program_line, procedure_line, declare, if_then, if_action, continue, end_if, select_case, case, only, between, end_select, do_line, do_while, concurrent, end_do, act, end_line}
use Rattle.dc_tree.specs.Syntax.{Tree, number, truth, chars, name, refer, binary, no_args, arg}
use Rattle.dc_types.specs.Types.{items_findings, standing_in, type_findings}

abbrev symbol : ℕ → Name → roles.Role → Symbol
symbol scope its_name role = record { scope = scope; name = its_name; role = role }

abbrev variable : Name → Bool → Kind → Symbol
variable its_name is_logical kind = symbol 0 its_name (roles.Role.Variable is_logical kind [] [])

abbrev symbols : List Symbol
symbols =
    variable (codes "n") false Kind.K4 ∷ variable (codes "k") false Kind.K4 ∷ variable (codes "m") false Kind.K2 ∷ variable (codes "i") false Kind.K8
    ∷ variable (codes "b") true Kind.K4 ∷ symbol 0 (codes "v") (roles.Role.Variable false Kind.K4 ((pos 1, pos 3) ∷ []) [])
    ∷ symbol 0 (codes "c") (roles.Role.Constant false Kind.K4 (pos 1)) ∷ symbol 0 (codes "p") (roles.Role.Subroutine 1)
    ∷ symbol 1 (codes "d") (roles.Role.Dummy 0 false Kind.K4 Intent.Out) ∷ []

abbrev n : Tree
n = name (codes "n")

abbrev m : Tree
m = name (codes "m")

abbrev b : Tree
b = name (codes "b")

abbrev one : Tree
one = number (codes "1") Suffix.Absent

abbrev at : ℕ → Statement → Line
at line says = record { line = line; says = says }

abbrev stmt : ℕ → Statement → Item
stmt line says = plain (at line says)

abbrev whole : Name → Target
whole its_name = record { name = its_name; subscripts = None }

abbrev sets : ℕ → Name → Tree → Item
sets line its_name value = stmt line (act (assign (whole its_name) value))

abbrev block : List Item → Items
block [] = none
block (first ∷ rest) = and_then first (block rest)

abbrev ranging : Name → Tree → Ranging
ranging its_name last = record { name = its_name; first = one; last = last; step = None }

abbrev counting : Name → Tree → List Item → Item
counting its_name last inside = loop (at 1 (do_line None (Some (ranging its_name last)))) (block inside) (at 9 (end_do None))

abbrev looping : Option TypeForm → Name → Option Tree → List Local → List Item → Item
looping form its_name mask locality inside = loop (at 1 (concurrent None form (ranging its_name one ∷ []) mask locality)) (block inside) (at 9 (end_do None))

-- What some statements of the main program break.
abbrev broken : List Item → List Refusal
broken list = items_findings (standing_in symbols [] 0) (block list)

-- ---- assignments, actions

kinds_may_differ : broken (sets 1 (codes "n") m ∷ []) ≡ []
kinds_may_differ = refl

types_may_not : broken (sets 1 (codes "n") b ∷ sets 2 (codes "b") n ∷ []) ≡ finding 28 1 ∷ finding 28 2 ∷ []
types_may_not = refl

a_constant_is_defined : broken (sets 1 (codes "c") one ∷ []) ≡ finding 31 1 ∷ []
a_constant_is_defined = refl

a_logical_subscript : broken (stmt 1 (act (assign (record { name = codes "v"; subscripts = Some (b ∷ []) }) one)) ∷ []) ≡ finding 28 1 ∷ []
a_logical_subscript = refl

a_logical_item : broken (stmt 1 (act (fill (codes "v") (one ∷ m ∷ b ∷ []))) ∷ []) ≡ finding 28 1 ∷ []
a_logical_item = refl

anything_is_printed : broken (stmt 1 (act (print false (chars (codes "a") ∷ name (codes "v") ∷ b ∷ []))) ∷ []) ≡ []
anything_is_printed = refl

a_constant_is_read : broken (stmt 1 (act (read false (whole (codes "n") ∷ whole (codes "c") ∷ []))) ∷ []) ≡ finding 31 1 ∷ []
a_constant_is_read = refl

a_number_is_too_great : broken (sets 1 (codes "n") (number (codes "128") (Suffix.Digits (codes "1"))) ∷ []) ≡ finding 29 1 ∷ []
a_number_is_too_great = refl

-- ---- conditions, cases

a_number_is_no_condition :
    broken (stmt 1 (if_action n continue) ∷ branch (arm (at 2 (if_then n)) none no_arms) (at 3 end_if) ∷ loop (at 4 (do_while None n)) none (at 5 (end_do None)) ∷ [])
    ≡ finding 28 1 ∷ finding 28 2 ∷ finding 28 4 ∷ []
a_number_is_no_condition = refl

cases_of_any_kind : broken (select (at 1 (select_case m)) (arm (at 2 (case (only one ∷ []))) none no_arms) (at 3 end_select) ∷ []) ≡ []
cases_of_any_kind = refl

a_case_of_another_type :
    broken (select (at 1 (select_case b)) (arm (at 2 (case (only (truth true) ∷ []))) none (arm (at 3 (case (only one ∷ []))) none no_arms)) (at 4 end_select) ∷ [])
    ≡ finding 28 3 ∷ []
a_case_of_another_type = refl

both_ends_are_asked :
    broken (select (at 1 (select_case n)) (arm (at 2 (case (between one b ∷ []))) none no_arms) (at 3 end_select) ∷ []) ≡ finding 28 2 ∷ []
both_ends_are_asked = refl

-- ---- counted loops

the_variable_in_its_loop : broken (counting (codes "n") one (sets 2 (codes "n") one ∷ []) ∷ sets 10 (codes "n") one ∷ []) ≡ finding 31 2 ∷ []
the_variable_in_its_loop = refl

the_variable_again : broken (counting (codes "n") one (counting (codes "n") one [] ∷ []) ∷ []) ≡ finding 31 1 ∷ []
the_variable_again = refl

a_logical_variable : broken (counting (codes "b") one [] ∷ []) ≡ finding 28 1 ∷ []
a_logical_variable = refl

a_logical_limit : broken (counting (codes "n") b [] ∷ []) ≡ finding 28 1 ∷ []
a_logical_limit = refl

-- ---- DO CONCURRENT

an_index_is_defined : broken (looping None (codes "n") None [] (sets 2 (codes "n") one ∷ []) ∷ []) ≡ finding 31 2 ∷ []
an_index_is_defined = refl

-- MOD asks for one kind: that of the outside variable of the index's name, or that of the header.
abbrev mod_with_one : Name → Tree
mod_with_one its_name = refer (codes "mod") (arg false (name its_name) (arg false one no_args))

the_kind_of_the_outside_variable : broken (looping None (codes "i") None [] (sets 2 (codes "k") (mod_with_one (codes "i")) ∷ []) ∷ []) ≡ finding 30 2 ∷ []
the_kind_of_the_outside_variable = refl

the_kind_of_the_header :
    broken (looping (Some (integer false (Some (number (codes "4") Suffix.Absent)))) (codes "i") None [] (sets 2 (codes "k") (mod_with_one (codes "i")) ∷ []) ∷ []) ≡ []
the_kind_of_the_header = refl

a_number_is_no_mask : broken (looping None (codes "i") (Some n) [] [] ∷ []) ≡ finding 28 1 ∷ []
a_number_is_no_mask = refl

an_index_stands_in_the_mask :
    broken (looping (Some (integer false None)) (codes "b") (Some (binary Mark.Lt b one)) [] [] ∷ []) ≡ []
an_index_stands_in_the_mask = refl

a_local_name_is_another :
    broken (counting (codes "n") one (looping None (codes "i") None (Local.Locals (codes "n" ∷ []) ∷ []) (sets 2 (codes "n") one ∷ []) ∷ []) ∷ []) ≡ []
a_local_name_is_another = refl

a_shared_name_is_not :
    broken (counting (codes "n") one (looping None (codes "i") None (Local.Shared (codes "n" ∷ []) ∷ []) (sets 2 (codes "n") one ∷ []) ∷ []) ∷ [])
    ≡ finding 31 2 ∷ []
a_shared_name_is_not = refl

-- ---- programs

-- n is declared with the value HUGE of a number; p is called with an argument, and defines d.
abbrev program : Tree → Tree → Tree → Source
program asked argument value = record {
  head = at 1 (program_line (codes "t"));
  front =
      at 2 (declare (integer false None) [] true (record { name = codes "n"; bounds = None; initial = scalar (refer (codes "huge") (arg false asked no_args)) } ∷ [])) ∷ [];
  body = block (stmt 3 (act (call (codes "p") true (argument ∷ []))) ∷ []);
  contains = Some 4;
  procedures =
      record {
        head = at 5 (procedure_line [] false (codes "p") true (codes "d" ∷ []) None);
        front = [];
        body = block (sets 7 (codes "d") value ∷ []);
        close = at 8 (end_line None None);
      } ∷ [];
  close = at 9 (end_line None None);
}

nothing_is_broken : type_findings symbols (program one n one) ≡ []
nothing_is_broken = refl

each_unit_is_read : type_findings symbols (program (number (codes "300") (Suffix.Digits (codes "1"))) m b) ≡ finding 29 2 ∷ finding 30 3 ∷ finding 28 7 ∷ []
each_unit_is_read = refl
