-- Assignments, constructs, DO loops, turns and output in the main program and in iterations.
use Rattle.std.proofs.Common.{◌≡◌, List, [], ◌∷◌, None, refl}
use Rattle.std.specs.Prelude.{◌++◌, codes, pos}
use Rattle.std.specs.Fmt.{digits}
use Rattle.std.specs.Int.{int_wrap}
use Rattle.dc_int.specs.declared.kind.Kind.{Kind}
use Rattle.dc_int.specs.Store.{value_at, cell_of, put_at}
use Rattle.dc_tree.specs.declared.stmt.Local.{Local}
use Rattle.dc_tree.specs.declared.symbols.Symbol.{Symbol}
use Rattle.dc_tree.specs.declared.token.Mark.{Mark}
use Rattle.dc_tree.specs.Blocks.{Source}
use Rattle.dc_tree.specs.Statements as statements
use Rattle.dc_meaning.proofs.Sources.{a, b, i, j, m, n, num, zero, one, two, three, four, nine, ten, yes, no, literal, var, of, ◌plus◌, ◌over◌, joined, minus_of, doing, if_doing, set, set_at, set_all, print, from_to, by_step, concurrent, counted, numbers, scalar, scalar_with, array, array_with, declared, program}
use Rattle.dc_run.proofs.Telling.{judged, limited}

-- ---- assignments

abbrev assigning : List Symbol
assigning = declared a (array 3) ∷ declared n (scalar_with (pos 0)) ∷ declared b (numbers Kind.K1 [] []) ∷ []

-- An assignment wraps to the kind of its left side.
assignment-wraps : judged assigning (program (set 3 b (num (codes "200")) ∷ print 4 (var b ∷ []) ∷ [])) ≡ codes "-56" ++ 10 ∷ []
unfolding digits value_at cell_of put_at int_wrap
assignment-wraps = refl

-- A whole array takes one value, or a list.
whole-takes-one : judged assigning (program (set 3 a nine ∷ print 4 (var a ∷ []) ∷ [])) ≡ codes "9 9 9" ++ 10 ∷ []
unfolding digits value_at cell_of put_at int_wrap
whole-takes-one = refl

-- All values of a list are evaluated before the first element is defined.
list-is-evaluated-first : judged assigning
    (program (set_all 3 a (one ∷ two ∷ three ∷ []) ∷ set_all 4 a (of a (three ∷ []) ∷ of a (two ∷ []) ∷ of a (one ∷ []) ∷ [])
    ∷ print 5 (var a ∷ []) ∷ []))
    ≡ codes "3 2 1" ++ 10 ∷ []
unfolding digits value_at cell_of put_at int_wrap
list-is-evaluated-first = refl

-- The values of a list wrap to the kind of the array.
list-wraps : judged (declared b (numbers Kind.K1 ((pos 1, pos 2) ∷ []) []) ∷ [])
    (program (set_all 3 b (num (codes "127") ∷ num (codes "128") ∷ []) ∷ print 4 (var b ∷ []) ∷ []))
    ≡ codes "127 -128" ++ 10 ∷ []
unfolding digits value_at cell_of put_at int_wrap
list-wraps = refl

-- The right side is evaluated before the subscripts on the left.
right-side-first : judged assigning (program (set_at 3 a (four ∷ []) (one over var n) ∷ [])) ≡ codes "fault: DivideByZero: line 3" ++ 10 ∷ []
unfolding digits value_at cell_of put_at int_wrap
right-side-first = refl

-- A subscript on the left may be out of its bounds.
subscript-out-of-bounds : judged assigning (program (set_at 3 a (four ∷ []) one ∷ [])) ≡ codes "fault: Subscript: line 3" ++ 10 ∷ []
unfolding digits value_at cell_of put_at int_wrap
subscript-out-of-bounds = refl

-- The first subscript varies fastest, and bounds may begin anywhere.
first-subscript-fastest : judged (declared m (numbers Kind.K4 ((pos 0, pos 1) ∷ (pos 1, pos 3) ∷ []) []) ∷ [])
    (program (set_all 3 m (one ∷ two ∷ three ∷ four ∷ nine ∷ ten ∷ [])
    ∷ print 4 (of m (one ∷ one ∷ []) ∷ of m (zero ∷ two ∷ []) ∷ of m (one ∷ three ∷ []) ∷ []) ∷ []))
    ≡ codes "2 3 10" ++ 10 ∷ []
unfolding digits value_at cell_of put_at int_wrap
first-subscript-fastest = refl

-- ---- output

-- A literal stands as it is, a truth is a letter, and an empty array gives nothing.
output-items : judged (declared a (array 0) ∷ [])
    (program (print 3 (literal (codes "it's") ∷ var a ∷ yes ∷ no ∷ minus_of one ∷ []) ∷ print 4 [] ∷ []))
    ≡ codes "it's T F -1" ++ 10 ∷ 10 ∷ []
unfolding digits value_at cell_of put_at int_wrap
output-items = refl

-- An empty literal counts as an item, with a blank behind it.
empty-literal : judged [] (program (print 2 (literal [] ∷ one ∷ []) ∷ [])) ≡ codes " 1" ++ 10 ∷ []
unfolding digits value_at cell_of put_at int_wrap
empty-literal = refl

-- All items are evaluated before any of the line is written; earlier lines stand.
line-is-whole : judged assigning (program (print 3 (var n ∷ []) ∷ print 4 (one ∷ one over var n ∷ []) ∷ []))
    ≡ codes "0" ++ 10 ∷ (codes "fault: DivideByZero: line 4" ++ 10 ∷ [])
unfolding digits value_at cell_of put_at int_wrap
line-is-whole = refl

-- STOP ends a run well, also inside constructs.
stop-ends : judged assigning
    (program (print 3 (var n ∷ [])
    ∷ counted 4 None (from_to n one three) (if_doing 5 (joined Mark.Eq (var n) two) statements.stop ∷ print 6 (var n ∷ []) ∷ [])
    ∷ print 8 (nine ∷ []) ∷ []))
    ≡ codes "0" ++ 10 ∷ (codes "1" ++ 10 ∷ [])
unfolding digits value_at cell_of put_at int_wrap
stop-ends = refl

-- ERROR STOP is a fault.
error-stop : judged assigning (program (print 3 (var n ∷ []) ∷ doing 4 statements.error_stop ∷ print 5 (var n ∷ []) ∷ []))
    ≡ codes "0" ++ 10 ∷ (codes "fault: ErrorStop: line 4" ++ 10 ∷ [])
unfolding digits value_at cell_of put_at int_wrap
error-stop = refl

-- ---- counted DO

abbrev just_i : List Symbol
just_i = declared i scalar ∷ []

abbrev to_ten : Source
to_ten = program (counted 3 None (from_to i one ten) [] ∷ print 5 (var i ∷ []) ∷ [])

-- Each round spends a turn, so ten rounds need ten. The variable keeps the value that ended the loop.
ten-turns-suffice : limited 10 just_i to_ten ≡ codes "11" ++ 10 ∷ []
unfolding digits value_at cell_of put_at int_wrap
ten-turns-suffice = refl

-- With nine turns the tenth round has none left.
nine-turns-are-spent : limited 9 just_i to_ten ≡ codes "spent: line 3" ++ 10 ∷ []
unfolding digits value_at cell_of put_at int_wrap
nine-turns-are-spent = refl

-- A loop may step down.
steps-down : judged just_i (program (counted 3 None (by_step i three one (minus_of one)) (print 4 (var i ∷ []) ∷ []) ∷ print 6 (var i ∷ []) ∷ []))
    ≡ codes "3" ++ 10 ∷ (codes "2" ++ 10 ∷ (codes "1" ++ 10 ∷ (codes "0" ++ 10 ∷ [])))
unfolding digits value_at cell_of put_at int_wrap
steps-down = refl

-- A loop without a round gives its variable the first value.
no-round : judged just_i (program (counted 3 None (from_to i three one) (print 4 (var i ∷ []) ∷ []) ∷ print 6 (var i ∷ []) ∷ []))
    ≡ codes "3" ++ 10 ∷ []
unfolding digits value_at cell_of put_at int_wrap
no-round = refl

-- The last step may pass the last value.
uneven-steps : judged just_i (program (counted 3 None (by_step i one four two) (print 4 (var i ∷ []) ∷ []) ∷ print 6 (var i ∷ []) ∷ []))
    ≡ codes "1" ++ 10 ∷ (codes "3" ++ 10 ∷ (codes "5" ++ 10 ∷ []))
unfolding digits value_at cell_of put_at int_wrap
uneven-steps = refl

abbrev small_i : List Symbol
small_i = declared i (numbers Kind.K1 [] []) ∷ []

-- The variable steps with wrapping.
step-wraps : judged small_i
    (program (counted 3 None (from_to i (num (codes "126")) (num (codes "127"))) (print 4 (var i ∷ []) ∷ []) ∷ print 6 (var i ∷ []) ∷ []))
    ≡ codes "126" ++ 10 ∷ (codes "127" ++ 10 ∷ (codes "-128" ++ 10 ∷ []))
unfolding digits value_at cell_of put_at int_wrap
step-wraps = refl

-- Its limits and its step are wrapped to its kind: from -2 to 0 by 1.
limits-wrap : judged (declared n (scalar_with (pos 0)) ∷ small_i)
    (program (counted 3 None (by_step i (num (codes "254")) (num (codes "256")) (num (codes "257"))) (set 4 n (var n plus one) ∷ [])
    ∷ print 6 (var i ∷ var n ∷ []) ∷ []))
    ≡ codes "1 3" ++ 10 ∷ []
unfolding digits value_at cell_of put_at int_wrap
limits-wrap = refl

-- A step that wraps to zero is a fault.
step-of-zero : judged small_i (program (counted 3 None (by_step i one two (num (codes "256"))) [] ∷ [])) ≡ codes "fault: StepZero: line 3" ++ 10 ∷ []
unfolding digits value_at cell_of put_at int_wrap
step-of-zero = refl

-- The first value is evaluated before the last one.
first-before-last : judged assigning (program (counted 3 None (by_step n (of a (four ∷ [])) (one over zero) zero) [] ∷ []))
    ≡ codes "fault: Subscript: line 3" ++ 10 ∷ []
unfolding digits value_at cell_of put_at int_wrap
first-before-last = refl

-- The last value is evaluated before the step.
last-before-step : judged assigning (program (counted 3 None (by_step n one (one over zero) (of a (four ∷ []))) [] ∷ []))
    ≡ codes "fault: DivideByZero: line 3" ++ 10 ∷ []
unfolding digits value_at cell_of put_at int_wrap
last-before-step = refl

-- The limits are evaluated before the variable is defined.
limits-before-variable : judged assigning (program (set 3 n three ∷ counted 4 None (from_to n one (var n)) [] ∷ print 6 (var n ∷ []) ∷ []))
    ≡ codes "4" ++ 10 ∷ []
unfolding digits value_at cell_of put_at int_wrap
limits-before-variable = refl

-- In an iteration the variable is defined, and then read and defined at each step, at the line of the DO.
do-variable-is-defined : judged (declared j scalar ∷ declared i scalar ∷ [])
    (program (concurrent 3 (from_to i one two ∷ []) (Local.Shared (j ∷ []) ∷ []) (counted 4 None (from_to j one two) [] ∷ []) ∷ []))
    ≡ codes "race: j: iteration (1) defines at line 4, iteration (2) defines at line 4" ++ 10 ∷ []
unfolding digits value_at cell_of put_at int_wrap
do-variable-is-defined = refl

-- So it is a temporary, and undefined behind the loop.
do-variable-is-temporary : judged (declared a (array_with 2 (pos 0 ∷ pos 0 ∷ [])) ∷ declared j scalar ∷ declared i scalar ∷ [])
    (program
    (concurrent 3 (from_to i one two ∷ []) []
    (counted 4 None (from_to j one three) (set_at 5 a (var i ∷ []) (of a (var i ∷ []) plus var j) ∷ []) ∷ [])
    ∷ print 8 (var a ∷ []) ∷ print 9 (var j ∷ []) ∷ []))
    ≡ codes "6 6" ++ 10 ∷ (codes "fault: Undefined: line 9" ++ 10 ∷ [])
unfolding digits value_at cell_of put_at int_wrap
do-variable-is-temporary = refl
