-- Which race a loop is reported for: whole programs whose loops break restrictions.
use Rattle.std.proofs.Common.{◌≡◌, ℕ, List, [], ◌∷◌, refl}
use Rattle.std.specs.Prelude.{◌++◌, codes, pos, negsuc}
use Rattle.std.specs.Fmt.{digits}
use Rattle.std.specs.Int.{int_wrap}
use Rattle.dc_int.specs.declared.kind.Kind.{Kind}
use Rattle.dc_int.specs.Store.{value_at, cell_of, put_at}
use Rattle.dc_tree.specs.declared.stmt.Local.{Local}
use Rattle.dc_tree.specs.declared.symbols.Symbol.{Symbol}
use Rattle.dc_tree.specs.declared.token.Mark.{Mark}
use Rattle.dc_tree.specs.Blocks.{Item, Source}
use Rattle.dc_tree.specs.Syntax.{Tree}
use Rattle.dc_meaning.proofs.Sources.{a, b, i, k, m, t, u, v, x, y, num, zero, one, two, three, four, nine, var, of, ◌plus◌, ◌minus◌, ◌times◌, ◌over◌, joined, in_brackets, set, set_at, print, from_to, concurrent, if_else, if_arms, arm_if, arm_else_if, arm_else, numbers, scalar, scalar_with, array, array_with, declared, program}
use Rattle.dc_run.proofs.Telling.{judged}

abbrev is_iteration : Tree → Tree
is_iteration which = joined Mark.Eq (var i) which

-- a loop at line 4 of two iterations, of which each does something else
abbrev one_and_other : List Local → List Item → List Item → Item
one_and_other locality first second = concurrent 4 (from_to i one two ∷ []) locality (if_else 5 (is_iteration one) first second ∷ [])

abbrev shared : List (List ℕ) → List Local
shared names = Local.Shared names ∷ []

-- ---- which access is named

-- The least clashing element is a(1). What is named is the first break when the two run in succession.
first-break-is-named : judged (declared a (array 2) ∷ declared k scalar ∷ declared b scalar ∷ declared i scalar ∷ [])
    (program
    (set 3 a zero ∷ set 4 k one
    ∷ concurrent 5 (from_to i one two ∷ []) []
    (if_else 6 (is_iteration one) (set 7 k two ∷ set_at 8 a (one ∷ []) nine ∷ []) (set 10 b (of a (var k ∷ [])) ∷ []) ∷ [])
    ∷ []))
    ≡ codes "race: k: iteration (1) defines at line 7, iteration (2) reads at line 10" ++ 10 ∷ []
unfolding digits value_at cell_of put_at int_wrap
first-break-is-named = refl

abbrev variables : List Symbol
variables = declared x (scalar_with (pos 0)) ∷ declared y (scalar_with (pos 0)) ∷ declared u scalar ∷ declared v scalar ∷ declared i scalar ∷ []

-- A break may be a touch: the first iteration's exposed read of the element is named beside it.
broken-by-a-touch : judged variables (program (one_and_other [] (set 6 u (var y) ∷ set 7 x one ∷ []) (set 9 y two ∷ set 10 v (var x) ∷ []) ∷ []))
    ≡ codes "race: y: iteration (1) reads at line 6, iteration (2) defines at line 9" ++ 10 ∷ []
unfolding digits value_at cell_of put_at int_wrap
broken-by-a-touch = refl

-- A touch of a SHARED element that the first iteration only reads: that read is named.
shared-read-is-named : judged variables
    (program (one_and_other (shared (x ∷ y ∷ [])) (set 6 u (var y) ∷ set 7 x one ∷ []) (set 9 y two ∷ set 10 x one ∷ []) ∷ []))
    ≡ codes "race: y: iteration (1) reads at line 6, iteration (2) defines at line 9" ++ 10 ∷ []
unfolding digits value_at cell_of put_at int_wrap
shared-read-is-named = refl

-- Where the first iteration reads and touches a SHARED element, its touch is named.
shared-touch-is-named : judged variables (program (one_and_other (shared (x ∷ [])) (set 6 u (var x) ∷ set 7 x one ∷ []) (set 9 x two ∷ []) ∷ []))
    ≡ codes "race: x: iteration (1) defines at line 7, iteration (2) defines at line 9" ++ 10 ∷ []
unfolding digits value_at cell_of put_at int_wrap
shared-touch-is-named = refl

-- A temporary that both define is no break: the race is named that stands beside it.
race-beside-temporary : judged variables
    (program (one_and_other [] (set 6 y one ∷ set 7 x (var y) ∷ []) (set 9 y two ∷ set 10 u (var y) ∷ set 11 v (var x) ∷ []) ∷ []))
    ≡ codes "race: x: iteration (1) defines at line 7, iteration (2) reads at line 11" ++ 10 ∷ []
unfolding digits value_at cell_of put_at int_wrap
race-beside-temporary = refl

-- The first break is named, and not what the second iteration would do behind it if it were alone.
second-runs-behind-first : judged variables
    (program (one_and_other [] (set 6 x one ∷ set 7 y one ∷ [])
    (set 9 u (var y) ∷ if_else 10 (joined Mark.Eq (var u) one) (set 11 v zero ∷ []) (set 13 v (var x) ∷ []) ∷ []) ∷ []))
    ≡ codes "race: y: iteration (1) defines at line 7, iteration (2) reads at line 9" ++ 10 ∷ []
unfolding digits value_at cell_of put_at int_wrap
second-runs-behind-first = refl

-- ---- which two iterations are named

-- A SHARED variable that one iteration defines and another reads.
shared-and-read : judged variables (program (one_and_other (shared (x ∷ [])) (set 6 x one ∷ []) (set 8 u (var x) ∷ []) ∷ []))
    ≡ codes "race: x: iteration (1) defines at line 6, iteration (2) reads at line 8" ++ 10 ∷ []
unfolding digits value_at cell_of put_at int_wrap
shared-and-read = refl

-- A SHARED variable that all read is no race.
shared-and-only-read : judged variables
    (program (one_and_other (shared (x ∷ [])) (set 6 u (var x) ∷ []) (set 8 v (var x) ∷ []) ∷ print 10 (var u ∷ var v ∷ []) ∷ []))
    ≡ codes "0 0" ++ 10 ∷ []
unfolding digits value_at cell_of put_at int_wrap
shared-and-only-read = refl

-- The first reader stands before the first toucher: the toucher is still run first.
reader-before-toucher : judged variables (program (one_and_other [] (set 6 u (var x) ∷ []) (set 8 x one ∷ []) ∷ []))
    ≡ codes "race: x: iteration (2) defines at line 8, iteration (1) reads at line 6" ++ 10 ∷ []
unfolding digits value_at cell_of put_at int_wrap
reader-before-toucher = refl

-- The first toucher is the first reader too: it is named with the last reader.
reads-its-own-and-is-read : judged variables (program (one_and_other [] (set 6 x (var x plus one) ∷ []) (set 8 u (var x) ∷ []) ∷ []))
    ≡ codes "race: x: iteration (1) defines at line 6, iteration (2) reads at line 8" ++ 10 ∷ []
unfolding digits value_at cell_of put_at int_wrap
reads-its-own-and-is-read = refl

-- The only reader is the first toucher: the last toucher is run before it.
last-toucher-and-first-reader : judged variables (program (one_and_other [] (set 6 x (var x plus one) ∷ []) (set 8 x two ∷ []) ∷ []))
    ≡ codes "race: x: iteration (2) defines at line 8, iteration (1) reads at line 6" ++ 10 ∷ []
unfolding digits value_at cell_of put_at int_wrap
last-toucher-and-first-reader = refl

-- a loop of four iterations, of which each does something else
abbrev four_iterations : List Item → List Item → List Item → List Item → Source
four_iterations first second third fourth = program
    (concurrent 3 (from_to i one four ∷ []) []
    (if_arms (arm_if 4 (is_iteration one) first ∷ arm_else_if 6 (is_iteration two) second ∷ arm_else_if 8 (is_iteration three) third
    ∷ arm_else 10 fourth ∷ []) ∷ [])
    ∷ [])

-- Of several touchers and readers the least of each are named.
least-of-each : judged variables (four_iterations (set 5 u zero ∷ []) (set 7 x one ∷ []) (set 9 u (var x) ∷ []) (set 11 u (var x) ∷ []))
    ≡ codes "race: x: iteration (2) defines at line 7, iteration (3) reads at line 9" ++ 10 ∷ []
unfolding digits value_at cell_of put_at int_wrap
least-of-each = refl

-- Where the least toucher is the least reader, the greatest reader is named.
greatest-reader : judged variables (four_iterations (set 5 x (var x plus one) ∷ []) (set 7 u (var x) ∷ []) (set 9 x one ∷ []) (set 11 v (var x) ∷ []))
    ≡ codes "race: x: iteration (1) defines at line 5, iteration (4) reads at line 11" ++ 10 ∷ []
unfolding digits value_at cell_of put_at int_wrap
greatest-reader = refl

-- Where the least toucher alone reads, the greatest toucher is named.
greatest-toucher : judged variables (four_iterations (set 5 x (var x plus one) ∷ []) (set 7 x two ∷ []) (set 9 x three ∷ []) (set 11 v one ∷ []))
    ≡ codes "race: x: iteration (3) defines at line 9, iteration (1) reads at line 5" ++ 10 ∷ []
unfolding digits value_at cell_of put_at int_wrap
greatest-toucher = refl

-- ---- which element clashes

-- Of several clashing variables the first declared decides, whichever iterations it is that clash.
first-declared-decides : judged variables (four_iterations (set 5 y one ∷ []) (set 7 u (var y) ∷ []) (set 9 x one ∷ []) (set 11 v (var x) ∷ []))
    ≡ codes "race: x: iteration (3) defines at line 9, iteration (4) reads at line 11" ++ 10 ∷ []
unfolding digits value_at cell_of put_at int_wrap
first-declared-decides = refl

-- Of the elements of an array the first decides.
first-element-decides : judged (declared a (array_with 2 (pos 1 ∷ pos 1 ∷ [])) ∷ declared u scalar ∷ declared v scalar ∷ declared i scalar ∷ [])
    (four_iterations (set_at 5 a (two ∷ []) one ∷ []) (set 7 u (of a (two ∷ [])) ∷ []) (set_at 9 a (one ∷ []) one ∷ [])
    (set 11 v (of a (one ∷ [])) ∷ []))
    ≡ codes "race: a(1): iteration (3) defines at line 9, iteration (4) reads at line 11" ++ 10 ∷ []
unfolding digits value_at cell_of put_at int_wrap
first-element-decides = refl

-- An element of several dimensions is named by its subscripts, which begin where the bounds do.
subscripts-are-named : judged (declared m (numbers Kind.K4 ((negsuc 0, pos 1) ∷ (pos 2, pos 3) ∷ []) []) ∷ declared i scalar ∷ [])
    (program (concurrent 3 (from_to i one two ∷ []) (shared (m ∷ [])) (set_at 4 m (zero ∷ three ∷ []) (var i) ∷ []) ∷ []))
    ≡ codes "race: m(0,3): iteration (1) defines at line 4, iteration (2) defines at line 4" ++ 10 ∷ []
unfolding digits value_at cell_of put_at int_wrap
subscripts-are-named = refl

-- A LOCAL variable clashes with nothing, whatever the iterations do with their entities.
local-never-clashes : judged variables
    (program (one_and_other (Local.Inits (x ∷ []) ∷ []) (set 6 x (var x plus one) ∷ []) (set 8 u (var x) ∷ []) ∷ print 10 (var x ∷ var u ∷ []) ∷ []))
    ≡ codes "0 0" ++ 10 ∷ []
unfolding digits value_at cell_of put_at int_wrap
local-never-clashes = refl

-- ---- iterations that don't end well

abbrev t_and_i : List Symbol
t_and_i = declared t scalar ∷ declared i scalar ∷ []

-- A fault comes before a race.
fault-before-race : judged t_and_i
    (program (concurrent 3 (from_to i one three ∷ []) (shared (t ∷ [])) (set 4 t (num (codes "6") over in_brackets (three minus var i)) ∷ []) ∷ []))
    ≡ codes "fault: DivideByZero: iteration (3): line 4" ++ 10 ∷ []
unfolding digits value_at cell_of put_at int_wrap
fault-before-race = refl

-- Of several the least iteration is told.
least-fault : judged t_and_i
    (program (concurrent 3 (from_to i one three ∷ []) (shared (t ∷ []))
    (set 4 t (one over in_brackets (in_brackets (two minus var i) times in_brackets (three minus var i))) ∷ []) ∷ []))
    ≡ codes "fault: DivideByZero: iteration (2): line 4" ++ 10 ∷ []
unfolding digits value_at cell_of put_at int_wrap
least-fault = refl

-- Each iteration is taken alone: what another one would define is not there.
undefined-alone : judged (declared x scalar ∷ declared u scalar ∷ declared i scalar ∷ [])
    (program (one_and_other [] (set 6 x one ∷ []) (set 8 u (var x) ∷ []) ∷ []))
    ≡ codes "fault: Undefined: iteration (2): line 8" ++ 10 ∷ []
unfolding digits value_at cell_of put_at int_wrap
undefined-alone = refl
