-- What small statements break by the names in them.
use Rattle.std.proofs.Common.{◌≡◌, ℕ, true, false, List, [], ◌∷◌, Option, Some, None, refl}
use Rattle.std.specs.Prelude.{codes, pos}
use Rattle.dc_int.specs.declared.kind.Kind.{Kind}
use Rattle.dc_tree.specs.declared.fail.Refusal.{Refusal}
use Rattle.dc_tree.specs.declared.stmt.Local.{Local}
use Rattle.dc_tree.specs.declared.symbols.Role as roles
use Rattle.dc_tree.specs.declared.symbols.Symbol.{Symbol}
use Rattle.dc_tree.specs.declared.token.Mark.{Mark}
use Rattle.dc_tree.specs.declared.token.Suffix.{Suffix}
use Rattle.dc_tree.specs.Blocks.{Line, Item, Items, Source, plain, select, loop, none, and_then, no_arms, arm}
use Rattle.dc_tree.specs.Findings.{finding}
use Rattle.dc_tree.specs.Statements.{Name, TypeForm, Ranging, Target, CaseRange, Statement, integer, only, from, up_to, between, assign, fill, call, print, act, case, case_default, select_case, end_select, concurrent, end_do, program_line, end_line, procedure_line}
use Rattle.dc_tree.specs.Syntax.{Tree, number, truth, chars, name, refer, binary, no_args, arg}
use Rattle.dc_sorts.specs.Standing.{Standing}
use Rattle.dc_scope.specs.Deeds.{deed_findings, do_findings}
use Rattle.dc_scope.specs.Headers.{header_findings}
use Rattle.dc_scope.specs.Scope.{one_findings, unit_standing, statement_findings}

-- a scalar `n`, an array `a` of three elements, a LOGICAL `t`, a constant `k`, a subroutine `s` in which `l` is
-- declared, and a function `f`
abbrev symbols : List Symbol
symbols =
    record { scope = 0; name = codes "n"; role = roles.Role.Variable false Kind.K4 [] [] }
    ∷ record { scope = 0; name = codes "a"; role = roles.Role.Variable false Kind.K4 ((pos 2, pos 4) ∷ []) [] }
    ∷ record { scope = 0; name = codes "t"; role = roles.Role.Variable true Kind.K4 [] [] }
    ∷ record { scope = 0; name = codes "k"; role = roles.Role.Constant false Kind.K4 (pos 8) }
    ∷ record { scope = 0; name = codes "s"; role = roles.Role.Subroutine 1 }
    ∷ record { scope = 1; name = codes "l"; role = roles.Role.Variable false Kind.K4 [] [] }
    ∷ record { scope = 0; name = codes "f"; role = roles.Role.Function 2 }
    ∷ []

abbrev here : Standing
here = unit_standing symbols 0

abbrev one : Tree
one = number (codes "1") Suffix.Absent

abbrev two : Tree
two = number (codes "2") Suffix.Absent

abbrev three : Tree
three = number (codes "3") Suffix.Absent

abbrev whole : Name → Target
whole text = record { name = text; subscripts = None }

abbrev element : Name → List Tree → Target
element text subscripts = record { name = text; subscripts = Some subscripts }

abbrev broken : ℕ → List Refusal
broken rule = finding rule 3 ∷ []

-- ---- actions

scalar_target : deed_findings here 3 (assign (whole (codes "n")) one) ≡ []
scalar_target = refl

array_target : deed_findings here 3 (assign (whole (codes "a")) one) ≡ []
array_target = refl

undeclared_target : deed_findings here 3 (assign (whole (codes "m")) one) ≡ broken 20
undeclared_target = refl

function_target : deed_findings here 3 (assign (whole (codes "abs")) one) ≡ broken 21
function_target = refl

procedure_target : deed_findings here 3 (assign (whole (codes "s")) one) ≡ broken 21
procedure_target = refl

element_target : deed_findings here 3 (assign (element (codes "a") (two ∷ [])) one) ≡ []
element_target = refl

rank_of_target : deed_findings here 3 (assign (element (codes "a") (two ∷ two ∷ [])) one) ≡ broken 21
rank_of_target = refl

element_of_scalar : deed_findings here 3 (assign (element (codes "n") (two ∷ [])) one) ≡ broken 21
element_of_scalar = refl

undeclared_subscript : deed_findings here 3 (assign (element (codes "a") (name (codes "m") ∷ [])) one) ≡ broken 20
undeclared_subscript = refl

array_assigned : deed_findings here 3 (assign (whole (codes "n")) (name (codes "a"))) ≡ broken 21
array_assigned = refl

array_printed : deed_findings here 3 (print false (name (codes "a") ∷ chars (codes "x") ∷ name (codes "k") ∷ [])) ≡ []
array_printed = refl

array_joined : deed_findings here 3 (print false (binary Mark.Plus (name (codes "a")) one ∷ [])) ≡ broken 21
array_joined = refl

procedure_printed : deed_findings here 3 (print false (name (codes "f") ∷ [])) ≡ broken 21
procedure_printed = refl

as_many : deed_findings here 3 (fill (codes "a") (one ∷ two ∷ three ∷ [])) ≡ []
as_many = refl

too_few : deed_findings here 3 (fill (codes "a") (one ∷ two ∷ [])) ≡ broken 25
too_few = refl

too_many : deed_findings here 3 (fill (codes "a") (one ∷ two ∷ three ∷ three ∷ [])) ≡ broken 25
too_many = refl

list_for_scalar : deed_findings here 3 (fill (codes "n") (one ∷ [])) ≡ broken 21
list_for_scalar = refl

called : deed_findings here 3 (call (codes "s") true (one ∷ name (codes "n") ∷ [])) ≡ []
called = refl

function_called : deed_findings here 3 (call (codes "f") true []) ≡ broken 21
function_called = refl

undeclared_called : deed_findings here 3 (call (codes "m") true []) ≡ broken 20
undeclared_called = refl

array_given : deed_findings here 3 (call (codes "s") true (name (codes "a") ∷ [])) ≡ broken 21
array_given = refl

-- ---- loops

abbrev ranging : Name → Ranging
ranging text = record { name = text; first = one; last = three; step = None }

counted : do_findings here 3 (Some (ranging (codes "n"))) ≡ []
counted = refl

counted_by_array : do_findings here 3 (Some (ranging (codes "a"))) ≡ broken 21
counted_by_array = refl

abbrev typed : Option TypeForm
typed = Some (integer false None)

untyped_index : header_findings here 3 None (ranging (codes "n") ∷ []) None [] ≡ []
untyped_index = refl

undeclared_index : header_findings here 3 None (ranging (codes "i") ∷ []) None [] ≡ broken 20
undeclared_index = refl

logical_index : header_findings here 3 None (ranging (codes "t") ∷ []) None [] ≡ broken 21
logical_index = refl

typed_index : header_findings here 3 typed (ranging (codes "i") ∷ []) (Some (binary Mark.Gt (name (codes "i")) one)) [] ≡ []
typed_index = refl

no_kind : header_findings here 3 (Some (integer false (Some three))) (ranging (codes "i") ∷ []) None [] ≡ broken 22
no_kind = refl

twice_index : header_findings here 3 typed (ranging (codes "i") ∷ ranging (codes "j") ∷ ranging (codes "i") ∷ []) None [] ≡ broken 19
twice_index = refl

abbrev six : List Ranging
six =
    ranging (codes "b") ∷ ranging (codes "c") ∷ ranging (codes "d") ∷ ranging (codes "e") ∷ ranging (codes "g") ∷ ranging (codes "h") ∷ []

seven_indexes : header_findings here 3 typed (ranging (codes "i") ∷ six) None [] ≡ []
seven_indexes = refl

eight_indexes : header_findings here 3 typed (ranging (codes "j") ∷ ranging (codes "i") ∷ six) None [] ≡ broken 24
eight_indexes = refl

listed : header_findings here 3 typed (ranging (codes "i") ∷ []) None (Local.Locals (codes "n" ∷ []) ∷ Local.DefaultNone ∷ []) ≡ []
listed = refl

undeclared_listed : header_findings here 3 typed (ranging (codes "i") ∷ []) None (Local.Shared (codes "n" ∷ codes "m" ∷ []) ∷ []) ≡ broken 20
undeclared_listed = refl

-- ---- blocks

abbrev at : ℕ → Statement → Line
at line says = record { line = line; says = says }

abbrev assigning : Name → Tree → Items
assigning text value = and_then (plain (at 3 (act (assign (whole text) value)))) none

abbrev looped : Name → Items → Item
looped text body = loop (at 2 (concurrent None typed (ranging text ∷ []) None [])) body (at 4 (end_do None))

index_used : one_findings here (looped (codes "i") (assigning (codes "n") (name (codes "i")))) ≡ []
index_used = refl

-- The index `a` hides the array.
index_hides : one_findings here (looped (codes "a") (assigning (codes "n") (name (codes "a")))) ≡ []
index_hides = refl

index_in_front : one_findings here (looped (codes "a") (assigning (codes "n") (refer (codes "a") (arg false one no_args)))) ≡ broken 21
index_in_front = refl

-- ---- cases

abbrev selecting : List CaseRange → List CaseRange → Item
selecting first second =
    select (at 1 (select_case (name (codes "n")))) (arm (at 2 (case first)) none (arm (at 3 (case second)) none no_arms)) (at 4 end_select)

apart : one_findings here (selecting (up_to one ∷ []) (from two ∷ [])) ≡ []
apart = refl

meeting : one_findings here (selecting (up_to two ∷ []) (from two ∷ [])) ≡ broken 27
meeting = refl

same_value : one_findings here (selecting (only one ∷ only two ∷ []) (only three ∷ only one ∷ [])) ≡ broken 27
same_value = refl

meeting_within : one_findings here (selecting [] (only one ∷ only one ∷ [])) ≡ broken 27
meeting_within = refl

spanning : one_findings here (selecting (between one three ∷ []) (only two ∷ [])) ≡ broken 27
spanning = refl

empty_range : one_findings here (selecting (between three one ∷ []) (only two ∷ [])) ≡ []
empty_range = refl

truths : one_findings here (selecting (only (truth true) ∷ []) (only (truth false) ∷ [])) ≡ []
truths = refl

same_truth : one_findings here (selecting (only (truth true) ∷ []) (only (truth true) ∷ [])) ≡ broken 27
same_truth = refl

two_sorts : one_findings here (selecting (only (truth true) ∷ []) (only one ∷ [])) ≡ []
two_sorts = refl

range_of_truths : one_findings here (selecting [] (between (truth false) (truth true) ∷ [])) ≡ broken 27
range_of_truths = refl

varying_value : one_findings here (selecting [] (only (name (codes "n")) ∷ [])) ≡ broken 23
varying_value = refl

second_default : one_findings here (select (at 1 (select_case one)) (arm (at 2 case_default) none (arm (at 3 case_default) none no_arms)) (at 4 end_select)) ≡ broken 27
second_default = refl

-- ---- programs

abbrev ending : Line
ending = at 9 (end_line None None)

-- `l` is declared in the procedure alone.
abbrev source : Source
source = record {
  head = at 1 (program_line (codes "p"));
  front = [];
  body = assigning (codes "l") one;
  contains = Some 4;
  procedures = record { head = at 5 (procedure_line [] false (codes "s") false [] None); front = []; body = assigning (codes "l") one; close = ending } ∷ [];
  close = ending;
}

units_apart : statement_findings symbols source ≡ broken 20
units_apart = refl
