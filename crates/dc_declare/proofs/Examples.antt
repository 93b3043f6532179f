-- Small programs: the symbols that their declarations make, and the rules that these break.
use Rattle.std.proofs.Common.{◌≡◌, ℕ, true, false, List, [], ◌∷◌, Some, None, refl}
use Rattle.std.specs.Prelude.{codes, ℤ, pos}
use Rattle.std.specs.Int.{int_wrap}
use Rattle.dc_int.specs.declared.kind.Kind.{Kind}
use Rattle.dc_int.specs.Store.{Bounds}
use Rattle.dc_tree.specs.declared.stmt.Intent.{Intent}
use Rattle.dc_tree.specs.declared.stmt.UseForm.{UseForm}
use Rattle.dc_tree.specs.declared.symbols.Role as roles
use Rattle.dc_tree.specs.declared.symbols.Symbol.{Symbol}
use Rattle.dc_tree.specs.declared.token.Mark.{Mark}
use Rattle.dc_tree.specs.declared.token.Suffix.{Suffix}
use Rattle.dc_tree.specs.Blocks.{Line, none, Subprogram, Source}
use Rattle.dc_tree.specs.Findings.{finding}
use Rattle.dc_tree.specs.Statements.{Name, TypeForm, logical, integer, Dimension, Attribute, parameter, dimension, intent, Initial, absent, scalar, listed, Declared}
use Rattle.dc_tree.specs.Statements.{pure, typed, Statement, program_line, use_line, declare, procedure_line, end_line}
use Rattle.dc_tree.specs.Syntax.{Tree, number, truth, name, binary}
use Rattle.dc_declare.specs.Declarations.{symbols_of, declaration_findings}

-- ---- programs

abbrev at : ℕ → Statement → Line
at line says = record { line = line; says = says }

abbrev unit : ℕ → Statement → List Line → Subprogram
unit line head front = record { head = at line head; front = front; body = none; close = at 99 (end_line None None) }

abbrev program : List Line → List Subprogram → Source
program front procedures = record {
  head = at 1 (program_line (codes "p"));
  front = front;
  body = none;
  contains = None;
  procedures = procedures;
  close = at 99 (end_line None None);
}

abbrev main : List Line → Source
main front = program front []

abbrev whole : TypeForm
whole = integer false None

abbrev of_kind : Tree → TypeForm
of_kind kind = integer false (Some kind)

abbrev numeral : Name → Tree
numeral digits = number digits Suffix.Absent

abbrev declares : TypeForm → List Attribute → List Declared → Statement
declares form attributes names = declare form attributes true names

abbrev plain : Name → Declared
plain its_name = record { name = its_name; bounds = None; initial = absent }

abbrev valued : Name → Tree → Declared
valued its_name value = record { name = its_name; bounds = None; initial = scalar value }

abbrev up_to : Tree → Dimension
up_to high = record { low = None; high = high }

abbrev array : Name → List Dimension → Initial → Declared
array its_name dimensions its_initial = record { name = its_name; bounds = Some dimensions; initial = its_initial }

abbrev vector : Name → Name → Initial → Declared
vector its_name digits its_initial = array its_name (up_to (numeral digits) ∷ []) its_initial

abbrev a : Name
a = codes "a"

abbrev b : Name
b = codes "b"

abbrev n : Name
n = codes "n"

abbrev f : Name
f = codes "f"

abbrev default : Name → Bounds → List ℤ → Symbol
default its_name bounds values = record { scope = 0; name = its_name; role = roles.Role.Variable false Kind.K4 bounds values }

abbrev named : ℕ → Name → roles.Role → Symbol
named scope its_name role = record { scope = scope; name = its_name; role = role }

-- ---- constants, bounds and values

-- integer, parameter :: n = 2, a = n + 1; integer :: b(n) = 5
abbrev known_at_once : Source
known_at_once =
    main
    (at 2 (declares whole (parameter ∷ []) (valued n (numeral (codes "2")) ∷ valued a (binary Mark.Plus (name n) (numeral (codes "1"))) ∷ []))
    ∷ at 3 (declares whole [] (array b (up_to (name n) ∷ []) (scalar (numeral (codes "5"))) ∷ []))
    ∷ [])

constants_are_known : symbols_of known_at_once ≡ named 0 n (roles.Role.Constant false Kind.K4 (pos 2)) ∷ named 0 a (roles.Role.Constant false Kind.K4 (pos 3))
    ∷ default b ((pos 1, pos 2) ∷ []) (pos 5 ∷ pos 5 ∷ []) ∷ []
unfolding int_wrap
constants_are_known = refl

constants_break_nothing : declaration_findings known_at_once ≡ []
unfolding int_wrap
constants_break_nothing = refl

-- integer(1) :: a = 300
value_is_wrapped : symbols_of (main (at 2 (declares (of_kind (numeral (codes "1"))) [] (valued a (numeral (codes "300")) ∷ [])) ∷ []))
    ≡ named 0 a (roles.Role.Variable false Kind.K1 [] (pos 44 ∷ [])) ∷ []
unfolding int_wrap
value_is_wrapped = refl

-- integer, dimension(2) :: a, b(3)
own_bounds_first : symbols_of
    (main (at 2 (declares whole (dimension (up_to (numeral (codes "2")) ∷ []) ∷ []) (plain a ∷ vector b (codes "3") absent ∷ [])) ∷ []))
    ≡ default a ((pos 1, pos 2) ∷ []) [] ∷ default b ((pos 1, pos 3) ∷ []) [] ∷ []
own_bounds_first = refl

-- integer :: a = .true.
value_of_another_sort : declaration_findings (main (at 2 (declares whole [] (valued a (truth true) ∷ [])) ∷ [])) ≡ finding 23 2 ∷ []
value_of_another_sort = refl

-- integer(3) :: a
no_kind : declaration_findings (main (at 2 (declares (of_kind (numeral (codes "3"))) [] (plain a ∷ [])) ∷ [])) ≡ finding 22 2 ∷ []
no_kind = refl

-- integer :: a(n)
bound_undeclared : declaration_findings (main (at 2 (declares whole [] (array a (up_to (name n) ∷ []) absent ∷ [])) ∷ [])) ≡ finding 20 2 ∷ finding 23 2 ∷ []
bound_undeclared = refl

-- ---- lists

-- integer :: a(2) = [1, 2]
list_fills : symbols_of
    (main (at 2 (declares whole [] (vector a (codes "2") (listed (numeral (codes "1") ∷ numeral (codes "2") ∷ [])) ∷ [])) ∷ []))
    ≡ default a ((pos 1, pos 2) ∷ []) (pos 1 ∷ pos 2 ∷ []) ∷ []
unfolding int_wrap
list_fills = refl

-- integer :: a(3) = [1, 2]
list_too_short : declaration_findings
    (main (at 2 (declares whole [] (vector a (codes "3") (listed (numeral (codes "1") ∷ numeral (codes "2") ∷ [])) ∷ [])) ∷ []))
    ≡ finding 25 2 ∷ []
list_too_short = refl

-- integer :: a = [1]
list_for_scalar : declaration_findings
    (main (at 2 (declares whole [] (record { name = a; bounds = None; initial = listed (numeral (codes "1") ∷ []) } ∷ [])) ∷ []))
    ≡ finding 25 2 ∷ []
list_for_scalar = refl

-- ---- totals

-- so many elements, and one more
abbrev of_size : Name → Name → Source
of_size digits more = main (at 2 (declares whole [] (vector a digits absent ∷ [])) ∷ at 3 (declares whole [] (vector b more absent ∷ [])) ∷ [])

as_many_as_may_be : declaration_findings (of_size (codes "4194303") (codes "1")) ≡ []
as_many_as_may_be = refl

one_element_more : declaration_findings (of_size (codes "4194303") (codes "2")) ≡ finding 24 3 ∷ []
one_element_more = refl

none_of_many : declaration_findings (main (at 2 (declares whole [] (array a (up_to (numeral (codes "9999999")) ∷ up_to (numeral (codes "0")) ∷ []) absent ∷ [])) ∷ [])) ≡ []
none_of_many = refl

abbrev subroutine : List Name → Statement
subroutine dummies = procedure_line (pure ∷ []) false f true dummies None

abbrev local : Name → Source
local digits = program [] (unit 3 (subroutine []) (at 4 (declares whole [] (vector a digits absent ∷ [])) ∷ []) ∷ [])

as_many_as_a_procedure_may : declaration_findings (local (codes "4096")) ≡ []
as_many_as_a_procedure_may = refl

one_more_in_a_procedure : declaration_findings (local (codes "4097")) ≡ finding 24 4 ∷ []
one_more_in_a_procedure = refl

-- an initial value in a procedure isn't kept
local_value : symbols_of (program [] (unit 3 (subroutine []) (at 4 (declares whole [] (valued a (numeral (codes "7")) ∷ [])) ∷ []) ∷ []))
    ≡ named 0 f (roles.Role.Subroutine 1) ∷ named 1 a (roles.Role.Variable false Kind.K4 [] []) ∷ []
local_value = refl

-- ---- names twice, and names of a module

abbrev twice : Source
twice = main (at 2 (declares whole [] (plain a ∷ [])) ∷ at 3 (declares logical [] (plain a ∷ [])) ∷ [])

declared_twice : declaration_findings twice ≡ finding 19 3 ∷ []
declared_twice = refl

first_stands : symbols_of twice ≡ default a [] [] ∷ []
first_stands = refl

kinds_are_used : symbols_of (main (at 2 (use_line UseForm.Intrinsic (codes "iso_fortran_env") (codes "int8" ∷ codes "int64" ∷ [])) ∷ []))
    ≡ named 0 (codes "int8") (roles.Role.Constant false Kind.K4 (pos 1)) ∷ named 0 (codes "int64") (roles.Role.Constant false Kind.K4 (pos 8)) ∷ []
kinds_are_used = refl

other_module : declaration_findings (main (at 2 (use_line UseForm.Plain (codes "iso_c_binding") (codes "int8" ∷ codes "int8" ∷ [])) ∷ []))
    ≡ finding 22 2 ∷ finding 19 2 ∷ []
other_module = refl

other_kind : declaration_findings (main (at 2 (use_line UseForm.Plain (codes "iso_fortran_env") (codes "real32" ∷ [])) ∷ [])) ≡ finding 22 2 ∷ []
other_kind = refl

-- ---- attributes

parameter_without_value : declaration_findings (main (at 2 (declares whole (parameter ∷ []) (plain a ∷ [])) ∷ [])) ≡ finding 26 2 ∷ []
parameter_without_value = refl

intent_in_main : declaration_findings (main (at 2 (declares whole (intent Intent.Into ∷ []) (plain a ∷ [])) ∷ [])) ≡ finding 26 2 ∷ []
intent_in_main = refl

-- ---- procedures

-- integer function f(a) with integer, intent(inout) :: a
abbrev whole_function : Source
whole_function =
    program []
    (unit 3 (procedure_line (typed whole ∷ []) true f true (b ∷ a ∷ []) None) (at 4 (declares whole (intent Intent.InOut ∷ []) (plain a ∷ plain b ∷ [])) ∷ []) ∷ [])

function_with_dummies : symbols_of whole_function ≡ named 0 f (roles.Role.Function 1) ∷ named 1 f (roles.Role.Result false Kind.K4)
    ∷ named 1 a (roles.Role.Dummy 1 false Kind.K4 Intent.InOut) ∷ named 1 b (roles.Role.Dummy 0 false Kind.K4 Intent.InOut) ∷ []
function_with_dummies = refl

function_breaks_nothing : declaration_findings whole_function ≡ []
function_breaks_nothing = refl

abbrev with_dummy : List Line → Source
with_dummy front = program [] (unit 3 (subroutine (a ∷ [])) front ∷ [])

dummy_without_intent : declaration_findings (with_dummy (at 4 (declares whole [] (plain a ∷ [])) ∷ [])) ≡ finding 26 4 ∷ []
dummy_without_intent = refl

dummy_undeclared : declaration_findings (with_dummy []) ≡ finding 26 3 ∷ []
dummy_undeclared = refl

dummy_twice : declaration_findings (program [] (unit 3 (subroutine (a ∷ a ∷ [])) (at 4 (declares whole (intent Intent.Into ∷ []) (plain a ∷ [])) ∷ []) ∷ []))
    ≡ finding 19 3 ∷ []
dummy_twice = refl

-- function f() result(b)
abbrev returning : List Line → Source
returning front = program [] (unit 3 (procedure_line (pure ∷ []) true f true [] (Some b)) front ∷ [])

result_untyped : declaration_findings (returning []) ≡ finding 20 3 ∷ []
result_untyped = refl

result_declared : symbols_of (returning (at 4 (declares logical [] (plain b ∷ [])) ∷ []))
    ≡ named 0 f (roles.Role.Function 1) ∷ named 1 b (roles.Role.Result true Kind.K4) ∷ []
result_declared = refl

result_array : declaration_findings (returning (at 4 (declares whole [] (vector b (codes "2") absent ∷ [])) ∷ [])) ≡ finding 21 4 ∷ []
result_array = refl

procedure_twice : declaration_findings (program [] (unit 3 (subroutine []) [] ∷ unit 5 (subroutine []) [] ∷ [])) ≡ finding 19 5 ∷ []
procedure_twice = refl
