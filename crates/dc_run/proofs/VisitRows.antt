-- The loops that a run reaches: their numbers, the stores with which they are reached, and what is said of them.
use Rattle.std.proofs.Common.{◌≡◌, ℕ, List, [], ◌∷◌, Option, Some, None, refl}
use Rattle.std.proofs.lemmas.List.Elements.{All-nil, All-cons}
use Rattle.std.specs.Prelude.{◌++◌, map, codes, ℤ, pos}
use Rattle.std.specs.Fmt.{digits}
use Rattle.std.specs.Int.{int_wrap}
use Rattle.dc_int.specs.declared.access.Action.{Action}
use Rattle.dc_int.specs.declared.fault.FaultKind.{FaultKind}
use Rattle.dc_int.specs.declared.fault.Why.{Why}
use Rattle.dc_int.specs.Store.{Bounds, Variable, Store, value_at, cell_of, put_at}
use Rattle.dc_code.specs.declared.verdict.Race.{Race}
use Rattle.dc_code.specs.Inner.{judging}
use Rattle.dc_code.specs.Troubles as troubles
use Rattle.dc_code.specs.Troubles.{ended}
use Rattle.dc_code.specs.Verdicts.{Verdict, go_on, at_header, in_iteration, race, side}
use Rattle.dc_tree.specs.declared.symbols.Symbol.{Symbol}
use Rattle.dc_tree.specs.declared.token.Mark.{Mark}
use Rattle.dc_tree.specs.Blocks.{Item, Source}
use Rattle.dc_tree.specs.Statements as statements
use Rattle.dc_meaning.proofs.Sources.{a, i, j, n, t, zero, one, two, three, var, of, ◌plus◌, ◌minus◌, ◌over◌, joined, set_at, print, from_to, by_step, concurrent, masked, counted, if_else, if_arms, arm_if, arm_else_if, arm_else, case, default, select, scalar, scalar_with, array, declared, program}
use Rattle.dc_run.specs.Playing.{Visit, run}
use Rattle.dc_run.specs.ReportLine.{done, outside_names, report_line}
use Rattle.dc_run.specs.Visits.{WentOn, AllWentOn, StoppedAtLast}
use Rattle.dc_run.proofs.Telling.{judged}

abbrev visits_of : List Symbol → Source → List Visit
visits_of symbols source = (run judging symbols source 1000 []).visits

abbrev visit : ℕ → Store → Verdict → Store → Visit
visit number store verdict after = record { loop = number; inside = []; turns = 1000; opening = store; verdict = verdict; after = after }

abbrev with_cells : Bounds → List (Option ℤ) → Variable
with_cells bounds cells = record { bounds = Some bounds; cells = cells }

abbrev one_to_two : Bounds
one_to_two = (pos 1, pos 2) ∷ []

abbrev undefined : Variable
undefined = with_cells [] (None ∷ [])

-- ---- stores and verdicts

abbrev a_and_i : List Symbol
a_and_i = declared a (array 2) ∷ declared i scalar ∷ []

-- A loop that goes on, and one that races.
abbrev two_loops : Source
two_loops =
    program
    (concurrent 3 (from_to i one two ∷ []) [] (set_at 4 a (var i ∷ []) (var i) ∷ [])
    ∷ concurrent 6 (from_to i one two ∷ []) [] (set_at 7 a (two ∷ []) (of a (var i ∷ [])) ∷ [])
    ∷ concurrent 9 (from_to i one two ∷ []) [] [] ∷ [])

-- the store that the first of the two leaves
abbrev one_and_two : Store
one_and_two = with_cells one_to_two (Some (pos 1) ∷ Some (pos 2) ∷ []) ∷ undefined ∷ []

abbrev going_on : Visit
going_on = visit 0 (with_cells one_to_two (None ∷ None ∷ []) ∷ undefined ∷ []) go_on one_and_two

abbrev found : Race
found = record {
  element = record { variable = 0; position = 1 };
  first = record { iteration = 0; action = Action.Defines; line = 7 };
  second = record { iteration = 1; action = Action.Reads; line = 7 };
}

-- It is reached with the store that the first one left, and changes nothing.
abbrev racing : Visit
racing = visit 1 one_and_two (race found (pos 1 ∷ []) (pos 2 ∷ [])) one_and_two

two-loops : visits_of a_and_i two_loops ≡ going_on ∷ racing ∷ []
unfolding digits value_at cell_of put_at int_wrap
two-loops = refl

-- The run is stopped at the last of them.
stopped-at-last : StoppedAtLast (outside_names a_and_i) (visits_of a_and_i two_loops) (run judging a_and_i two_loops 1000 []).ending
unfolding digits value_at cell_of put_at int_wrap
stopped-at-last = record {
  before = going_on ∷ [];
  last = racing;
  are = refl;
  each = All-cons WentOn going_on [] refl (All-nil WentOn);
  trouble = troubles.raced found.element (side found.first (pos 1 ∷ [])) (side found.second (pos 2 ∷ [])) [];
  met = refl;
  ends = refl;
  told = refl;
}

-- Its trouble is what the line tells.
told-at-last : report_line (outside_names a_and_i) (run judging a_and_i two_loops 1000 []).ending ≡ codes "race: a(2): iteration (1) defines at line 7, iteration (2) reads at line 7" ++ 10 ∷ []
unfolding digits value_at cell_of put_at int_wrap
told-at-last = refl

-- The first loop by itself goes on, and the run comes to its end.
all-went-on : AllWentOn (visits_of a_and_i (program (concurrent 3 (from_to i one two ∷ []) [] (set_at 4 a (var i ∷ []) (var i) ∷ []) ∷ []))) done
unfolding digits value_at cell_of put_at int_wrap
all-went-on = record { each = All-cons WentOn going_on [] refl (All-nil WentOn); ends = tt }

-- A fault of an iteration.
bad-iteration : map (λ visited. visited.verdict)
    (visits_of a_and_i (program (concurrent 3 (from_to i one two ∷ []) [] (set_at 4 a (one ∷ []) (of a (var i ∷ [])) ∷ []) ∷ [])))
    ≡ in_iteration (ended (Why.Fault FaultKind.Undefined) 4 []) (pos 1 ∷ []) ∷ []
unfolding digits value_at cell_of put_at int_wrap
bad-iteration = refl

-- A fault of a mask.
bad-mask : map (λ visited. visited.verdict)
    (visits_of a_and_i (program (masked 3 (from_to i one two ∷ []) (joined Mark.Eq (one over (two minus var i)) one) [] [] ∷ [])))
    ≡ at_header (troubles.masked (Why.Fault FaultKind.DivideByZero) 3 [] (pos 2 ∷ [])) ∷ []
unfolding digits value_at cell_of put_at int_wrap
bad-mask = refl

-- A fault of a header.
bad-header : map (λ visited. visited.verdict) (visits_of a_and_i (program (concurrent 3 (by_step i one two zero ∷ []) [] [] ∷ [])))
    ≡ at_header (ended (Why.Fault FaultKind.StepZero) 3 []) ∷ []
unfolding digits value_at cell_of put_at int_wrap
bad-header = refl

-- ---- numbers

abbrev i_j_and_n : List Symbol
i_j_and_n = declared i scalar ∷ declared j scalar ∷ declared n (scalar_with (pos 0)) ∷ []

abbrev numbers_of : Source → List ℕ
numbers_of source = map (λ visited. visited.loop) (visits_of i_j_and_n source)

-- a loop of no iterations
abbrev empty : ℕ → Item
empty line = concurrent line (from_to i one zero ∷ []) [] []

-- Loops are numbered in the order of the text, those inside others included; these aren't visits. A loop that is reached
-- twice is visited twice.
numbers-in-order : numbers_of
    (program
    (concurrent 2 (from_to i one one ∷ []) [] (concurrent 3 (from_to j one one ∷ []) [] [] ∷ []) ∷ empty 6
    ∷ counted 8 None (from_to n one two) (empty 9 ∷ []) ∷ empty 12 ∷ []))
    ≡ 0 ∷ 2 ∷ 3 ∷ 3 ∷ 4 ∷ []
unfolding digits value_at cell_of put_at int_wrap
numbers-in-order = refl

-- Loops in arms that aren't taken are counted.
numbers-in-arms : numbers_of
    (program
    (if_arms (arm_if 2 (joined Mark.Eq (var n) one) (empty 3 ∷ []) ∷ arm_else_if 5 (joined Mark.Eq (var n) zero) (empty 6 ∷ [])
    ∷ arm_else 8 (empty 9 ∷ empty 11 ∷ []) ∷ [])
    ∷ select 14 (var n) (case 15 (statements.only one ∷ []) (empty 16 ∷ []) ∷ default 18 (empty 19 ∷ empty 21 ∷ [])
    ∷ case 23 (statements.only two ∷ []) (empty 24 ∷ []) ∷ [])
    ∷ empty 27 ∷ []))
    ≡ 1 ∷ 5 ∷ 6 ∷ 8 ∷ []
unfolding digits value_at cell_of put_at int_wrap
numbers-in-arms = refl

-- Each number leads to its own loop, also inside others and behind them.
numbers-lead-to-loops : judged (declared t (array 4) ∷ declared i scalar ∷ declared j scalar ∷ [])
    (program
    (concurrent 2 (from_to i one one ∷ []) []
    (if_else 3 (joined Mark.Eq (var i) two)
    (concurrent 4 (from_to j one one ∷ []) [] (set_at 5 t (var j ∷ []) zero ∷ []) ∷ [])
    (concurrent 8 (from_to j one one ∷ []) [] (set_at 9 t (var j ∷ []) one ∷ [])
    ∷ concurrent 11 (from_to j two two ∷ []) [] (set_at 12 t (var j ∷ []) two ∷ []) ∷ []) ∷ [])
    ∷ counted 16 None (from_to j one one)
    (select 17 (var j) (case 18 (statements.only zero ∷ [])
    (concurrent 19 (from_to i one one ∷ []) [] (set_at 20 t (var i ∷ []) zero ∷ []) ∷ []) ∷ default 22
    (concurrent 23 (from_to i three three ∷ []) [] (set_at 24 t (var i ∷ []) three ∷ []) ∷ []) ∷ []) ∷ [])
    ∷ concurrent 28 (from_to i one one ∷ []) [] (set_at 29 t (three plus var i ∷ []) (var i) ∷ [])
    ∷ print 31 (var t ∷ []) ∷ []))
    ≡ codes "1 2 3 1" ++ 10 ∷ []
unfolding digits value_at cell_of put_at int_wrap
numbers-lead-to-loops = refl

-- Also those inside a loop that stands behind others or in a later arm.
numbers-inside-later-loops : judged (declared t (array 3) ∷ declared i scalar ∷ declared j scalar ∷ [])
    (program
    (empty 2
    ∷ concurrent 4 (from_to i one one ∷ []) [] (concurrent 5 (from_to j one one ∷ []) [] (set_at 6 t (one ∷ []) one ∷ []) ∷ [])
    ∷ if_else 9 (joined Mark.Eq (of t (one ∷ [])) two)
    (empty 10 ∷ [])
    (empty 13 ∷ concurrent 15 (from_to i one one ∷ []) []
    (concurrent 16 (from_to j one two ∷ []) [] (set_at 17 t (var j plus one ∷ []) (var j plus one) ∷ []) ∷ []) ∷ [])
    ∷ print 21 (var t ∷ []) ∷ []))
    ≡ codes "1 2 3" ++ 10 ∷ []
unfolding digits value_at cell_of put_at int_wrap
numbers-inside-later-loops = refl
