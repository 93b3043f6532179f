-- IF, SELECT CASE, loops without a count, CYCLE and EXIT, and turns.
use Rattle.std.proofs.Common.{◌≡◌, ℕ, List, [], ◌∷◌, Some, None, refl}
use Rattle.std.specs.Prelude.{◌++◌, codes, pos}
use Rattle.std.specs.Fmt.{digits}
use Rattle.std.specs.Int.{int_wrap}
use Rattle.dc_int.specs.Store.{value_at, cell_of, put_at}
use Rattle.dc_tree.specs.declared.stmt.Intent.{Intent}
use Rattle.dc_tree.specs.declared.symbols.Role.{Role}
use Rattle.dc_tree.specs.declared.symbols.Symbol.{Symbol}
use Rattle.dc_tree.specs.declared.token.Mark.{Mark}
use Rattle.dc_tree.specs.Blocks.{Item, Source}
use Rattle.dc_tree.specs.Statements.{Name}
use Rattle.dc_tree.specs.Statements as statements
use Rattle.dc_tree.specs.Syntax.{Tree}
use Rattle.dc_meaning.proofs.Sources.{a, f, i, j, n, x, num, zero, one, two, three, four, nine, ten, yes, no, var, of, ◌plus◌, ◌minus◌, ◌times◌, ◌over◌, joined, minus_of, doing, if_doing, set, set_at, print, exit, from_to, concurrent, loop_with, counted, forever, while, if_then, if_arms, arm_if, arm_else_if, arm_else, case, default, select, scalar, scalar_with, array_with, declared, declared_in, result, dummy, subprogram, program, program_with}
use Rattle.dc_run.proofs.Telling.{judged, limited, ordered}

abbrev i_j_and_n : List Symbol
i_j_and_n = declared i scalar ∷ declared j scalar ∷ declared n (scalar_with (pos 0)) ∷ []

abbrev is_equal : Tree → Tree → Tree
is_equal left right = joined Mark.Eq left right

-- n counts on
abbrev counts : ℕ → Tree → Item
counts line by = set line n (var n plus by)

-- ---- IF

-- The first arm whose test is true, and ELSE where none is. Tests behind it aren't evaluated.
first-true-arm : judged i_j_and_n
    (program
    (counted 3 None (from_to i one three)
    (if_arms (arm_if 4 (is_equal (var i) one) (counts 5 one ∷ []) ∷ arm_else_if 6 (is_equal (one over (var i minus one)) one) (counts 7 ten ∷ [])
    ∷ arm_else 8 (counts 9 (num (codes "100")) ∷ []) ∷ []) ∷ [])
    ∷ print 12 (var n ∷ []) ∷ []))
    ≡ codes "111" ++ 10 ∷ []
unfolding digits value_at cell_of put_at int_wrap
first-true-arm = refl

-- An IF without ELSE may do nothing.
no-arm : judged i_j_and_n (program (if_then 3 no (counts 4 one ∷ []) ∷ if_doing 6 no (statements.error_stop) ∷ print 7 (var n ∷ []) ∷ []))
    ≡ codes "0" ++ 10 ∷ []
unfolding digits value_at cell_of put_at int_wrap
no-arm = refl

-- The fault of a test is at the line of its arm.
fault-of-an-arm : judged i_j_and_n (program (if_arms (arm_if 3 no (counts 4 one ∷ []) ∷ arm_else_if 5 (is_equal (one over var n) one) [] ∷ []) ∷ []))
    ≡ codes "fault: DivideByZero: line 5" ++ 10 ∷ []
unfolding digits value_at cell_of put_at int_wrap
fault-of-an-arm = refl

-- ---- SELECT CASE

-- Ranges of every form, several in one arm, and a default in the middle.
cases : judged i_j_and_n
    (program
    (counted 3 None (from_to i (minus_of one) ten)
    (select 4 (var i)
    (case 5 (statements.only one ∷ []) (print 6 (num (codes "61") ∷ []) ∷ [])
    ∷ default 7 (print 8 (var i ∷ []) ∷ [])
    ∷ case 9 (statements.up_to zero ∷ []) (counts 10 one ∷ [])
    ∷ case 11 (statements.only three ∷ statements.between (num (codes "5")) (num (codes "7")) ∷ []) (counts 12 ten ∷ [])
    ∷ case 13 (statements.from nine ∷ []) (counts 14 (num (codes "100")) ∷ []) ∷ []) ∷ [])
    ∷ print 17 (var n ∷ []) ∷ []))
    ≡ codes "61" ++ 10 ∷ (codes "2" ++ 10 ∷ (codes "4" ++ 10 ∷ (codes "8" ++ 10 ∷ (codes "242" ++ 10 ∷ []))))
unfolding digits value_at cell_of put_at int_wrap
cases = refl

-- Without a default nothing is done where no range has the selector.
no-case : judged i_j_and_n
    (program (select 3 (of (codes "int") (var n ∷ [])) (case 4 (statements.only one ∷ []) (counts 5 one ∷ []) ∷ []) ∷ print 7 (var n ∷ []) ∷ []))
    ≡ codes "0" ++ 10 ∷ []
unfolding digits value_at cell_of put_at int_wrap
no-case = refl

-- The selector may be a truth.
case-of-a-truth : judged i_j_and_n
    (program (select 2 (is_equal (var n) zero)
    (case 3 (statements.only no ∷ []) (print 4 (one ∷ []) ∷ []) ∷ case 5 (statements.only yes ∷ []) (print 6 (two ∷ []) ∷ []) ∷ []) ∷ []))
    ≡ codes "2" ++ 10 ∷ []
unfolding digits value_at cell_of put_at int_wrap
case-of-a-truth = refl

-- The selector is evaluated once, before any arm is looked at: the call in it has the only turn, and the second arm fits.
selector-is-evaluated-once : limited 1
    (declared f (Role.Function 1) ∷ declared_in 1 x (dummy 0 Intent.Into) ∷ declared_in 1 f result ∷ [])
    (program_with
    (select 2 (of f (three ∷ []))
    (case 3 (statements.only one ∷ []) (print 4 (one ∷ []) ∷ []) ∷ case 5 (statements.only three ∷ []) (print 6 (three ∷ []) ∷ []) ∷ []) ∷ [])
    (subprogram (set 11 f (var x) ∷ []) ∷ []))
    ≡ codes "3" ++ 10 ∷ []
unfolding digits value_at cell_of put_at int_wrap
selector-is-evaluated-once = refl

-- The fault of a selector is at the line of SELECT CASE.
fault-of-a-selector : judged i_j_and_n (program (select 3 (one over var n) (default 4 [] ∷ []) ∷ [])) ≡ codes "fault: DivideByZero: line 3" ++ 10 ∷ []
unfolding digits value_at cell_of put_at int_wrap
fault-of-a-selector = refl

-- ---- CYCLE and EXIT

abbrev outer : Name
outer = codes "outer"

-- Without a name they belong to the innermost loop.
innermost : judged i_j_and_n
    (program
    (counted 3 (Some outer) (from_to i one three)
    (counted 4 None (from_to j one three)
    (if_doing 5 (is_equal (var j) one) (statements.cycle None) ∷ if_doing 6 (is_equal (var i) two) (statements.exit None) ∷ counts 7 one ∷ [])
    ∷ counts 9 ten ∷ [])
    ∷ print 11 (var i ∷ var j ∷ var n ∷ []) ∷ []))
    ≡ codes "4 4 34" ++ 10 ∷ []
unfolding digits value_at cell_of put_at int_wrap
innermost = refl

-- With a name they belong to the loop of that name: it goes on with its next round, or ends.
named : judged i_j_and_n
    (program
    (counted 3 (Some outer) (from_to i one three)
    (counted 4 (Some (codes "inner")) (from_to j one three)
    (if_doing 5 (is_equal (var j) two) (statements.cycle (Some outer)) ∷ if_doing 6 (is_equal (var i) three) (statements.exit (Some outer))
    ∷ counts 7 one ∷ [])
    ∷ counts 9 ten ∷ [])
    ∷ print 11 (var i ∷ var j ∷ var n ∷ []) ∷ []))
    ≡ codes "3 1 2" ++ 10 ∷ []
unfolding digits value_at cell_of put_at int_wrap
named = refl

-- A loop without a name has nothing that is named.
named-past-unnamed : judged i_j_and_n
    (program
    (counted 3 (Some outer) (from_to i one three)
    (counted 4 None (from_to j one three)
    (if_doing 5 (is_equal (var j) two) (statements.cycle (Some outer)) ∷ if_doing 6 (is_equal (var i) three) (statements.exit (Some outer))
    ∷ counts 7 one ∷ [])
    ∷ counts 9 ten ∷ [])
    ∷ print 11 (var i ∷ var j ∷ var n ∷ []) ∷ []))
    ≡ codes "3 1 2" ++ 10 ∷ []
unfolding digits value_at cell_of put_at int_wrap
named-past-unnamed = refl

-- CYCLE that belongs to a DO CONCURRENT ends the iteration.
cycle-ends-the-iteration : judged (declared a (array_with 3 (pos 0 ∷ pos 0 ∷ pos 0 ∷ [])) ∷ declared i scalar ∷ [])
    (program
    (concurrent 3 (from_to i one three ∷ []) []
    (set_at 4 a (var i ∷ []) one ∷ if_doing 5 (is_equal (var i) two) (statements.cycle None) ∷ set_at 6 a (var i ∷ []) two ∷ [])
    ∷ print 8 (var a ∷ []) ∷ []))
    ≡ codes "2 1 2" ++ 10 ∷ []
unfolding digits value_at cell_of put_at int_wrap
cycle-ends-the-iteration = refl

-- So does one in a loop inside that names the DO CONCURRENT.
cycle-to-the-iteration : judged (declared a (array_with 3 (pos 0 ∷ pos 0 ∷ pos 0 ∷ [])) ∷ declared i scalar ∷ declared j scalar ∷ [])
    (program
    (loop_with 3 (statements.concurrent (Some outer) None (from_to i one three ∷ []) None [])
    (counted 4 None (from_to j one two)
    (set_at 5 a (var i ∷ []) (var j) ∷ if_doing 6 (is_equal (var i) two) (statements.cycle (Some outer)) ∷ [])
    ∷ set_at 8 a (var i ∷ []) (of a (var i ∷ []) plus ten) ∷ [])
    ∷ print 10 (var a ∷ []) ∷ []))
    ≡ codes "12 1 12" ++ 10 ∷ []
unfolding digits value_at cell_of put_at int_wrap
cycle-to-the-iteration = refl

-- ---- DO WHILE and DO

abbrev to_three : Source
to_three = program (while 3 None (joined Mark.Lt (var n) three) (counts 4 one ∷ []) ∷ print 6 (var n ∷ []) ∷ [])

-- Each round of DO WHILE spends a turn, behind the test that lets it start.
three-turns-suffice : limited 3 i_j_and_n to_three ≡ codes "3" ++ 10 ∷ []
unfolding digits value_at cell_of put_at int_wrap
three-turns-suffice = refl

-- With one turn less the loop is spent at its line.
two-turns-are-spent : limited 2 i_j_and_n to_three ≡ codes "spent: line 3" ++ 10 ∷ []
unfolding digits value_at cell_of put_at int_wrap
two-turns-are-spent = refl

-- The test is evaluated before the turn is spent.
test-before-turn : limited 2 i_j_and_n
    (program (while 3 None (joined Mark.Ge (one over (two minus var n)) zero) (counts 4 one ∷ []) ∷ []))
    ≡ codes "fault: DivideByZero: line 3" ++ 10 ∷ []
unfolding digits value_at cell_of put_at int_wrap
test-before-turn = refl

-- CYCLE and EXIT in a DO WHILE and in a DO without a test.
cycle-in-while : judged i_j_and_n
    (program
    (while 3 None (joined Mark.Lt (var n) four)
    (counts 4 one ∷ if_doing 5 (is_equal (var n) two) (statements.cycle None) ∷ print 6 (var n ∷ []) ∷ [])
    ∷ forever 8 None (counts 9 ten ∷ if_then 10 (joined Mark.Gt (var n) (num (codes "30"))) (exit 11 None ∷ [])
    ∷ doing 13 statements.continue ∷ [])
    ∷ print 15 (var n ∷ []) ∷ []))
    ≡ codes "1" ++ 10 ∷ (codes "3" ++ 10 ∷ (codes "4" ++ 10 ∷ (codes "34" ++ 10 ∷ [])))
unfolding digits value_at cell_of put_at int_wrap
cycle-in-while = refl

-- A DO without a test spends its turns too.
forever-is-spent : limited 4 i_j_and_n (program (forever 3 None (counts 4 one ∷ []) ∷ [])) ≡ codes "spent: line 3" ++ 10 ∷ []
unfolding digits value_at cell_of put_at int_wrap
forever-is-spent = refl

-- With many turns a loop that is left soon is run no longer than it is.
many-turns : limited 1000000000 i_j_and_n
    (program (forever 3 None (counts 4 one ∷ if_doing 5 (is_equal (var n) three) (statements.exit None) ∷ []) ∷ print 7 (var n ∷ []) ∷ []))
    ≡ codes "3" ++ 10 ∷ []
unfolding digits value_at cell_of put_at int_wrap
many-turns = refl

-- Nor is a counted DO with many rounds.
many-rounds : judged i_j_and_n
    (program (counted 3 None (from_to i one (num (codes "2000000000"))) (if_doing 4 (is_equal (var i) three) (statements.exit None) ∷ [])
    ∷ print 6 (var i ∷ []) ∷ []))
    ≡ codes "3" ++ 10 ∷ []
unfolding digits value_at cell_of put_at int_wrap
many-rounds = refl

-- ---- turns of iterations

-- An iteration that spends its turns ends the run.
iteration-is-spent : limited 10 i_j_and_n (program (concurrent 3 (from_to i one two ∷ []) [] (while 4 None yes [] ∷ []) ∷ []))
    ≡ codes "spent: iteration (1): line 4" ++ 10 ∷ []
unfolding digits value_at cell_of put_at int_wrap
iteration-is-spent = refl

-- Each iteration has all turns of its own, whatever the main program spent, and leaves those of the main program as they are.
turns-of-their-own : limited 4 i_j_and_n
    (program
    (counted 2 None (from_to n one three) []
    ∷ concurrent 4 (from_to i one three ∷ []) [] (counted 5 None (from_to j one four) [] ∷ [])
    ∷ counted 8 None (from_to i one one) [] ∷ print 10 (var i ∷ []) ∷ []))
    ≡ codes "2" ++ 10 ∷ []
unfolding digits value_at cell_of put_at int_wrap
turns-of-their-own = refl

-- An iteration has no more turns than these.
one-turn-too-few : limited 4 i_j_and_n
    (program (concurrent 3 (from_to i one three ∷ []) [] (counted 4 None (from_to j (var i) (num (codes "5"))) [] ∷ []) ∷ []))
    ≡ codes "spent: iteration (1): line 4" ++ 10 ∷ []
unfolding digits value_at cell_of put_at int_wrap
one-turn-too-few = refl

-- The least iteration that needs more than these is told.
turns-of-the-second : limited 5 i_j_and_n
    (program (concurrent 3 (from_to i three four ∷ []) [] (counted 4 None (from_to j three (var i plus var i)) [] ∷ []) ∷ []))
    ≡ codes "spent: iteration (4): line 4" ++ 10 ∷ []
unfolding digits value_at cell_of put_at int_wrap
turns-of-the-second = refl

-- In an order that isn't judged the first iteration of the order that ends badly is told.
first-of-the-order : ordered 1 i_j_and_n
    (program (concurrent 3 (from_to i one three ∷ []) [] (counts 4 (one over ((var i minus two) times (var i minus one))) ∷ []) ∷ []))
    ≡ codes "fault: DivideByZero: iteration (2): line 4" ++ 10 ∷ []
unfolding digits value_at cell_of put_at int_wrap
first-of-the-order = refl
