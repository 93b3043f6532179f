-- Loops inside the blocks of others: whole programs, what each writes, and how it ends.
use Rattle.std.proofs.Common.{◌≡◌, ℕ, List, [], ◌∷◌, None, refl}
use Rattle.std.specs.Prelude.{◌++◌, codes, pos}
use Rattle.std.specs.Fmt.{digits}
use Rattle.std.specs.Int.{int_wrap}
use Rattle.dc_int.specs.declared.kind.Kind.{Kind}
use Rattle.dc_int.specs.declared.operation.ReduceOp.{ReduceOp}
use Rattle.dc_int.specs.Store.{value_at, cell_of, put_at}
use Rattle.dc_tree.specs.declared.stmt.Intent.{Intent}
use Rattle.dc_tree.specs.declared.stmt.Local.{Local}
use Rattle.dc_tree.specs.declared.symbols.Role.{Role}
use Rattle.dc_tree.specs.declared.symbols.Symbol.{Symbol}
use Rattle.dc_tree.specs.declared.token.Mark.{Mark}
use Rattle.dc_tree.specs.Blocks.{Item}
use Rattle.dc_tree.specs.Syntax.{Tree}
use Rattle.dc_meaning.proofs.Sources.{a, b, f, i, j, k, m, n, r, s, t, u, x, num, zero, one, two, three, four, nine, ten, var, of, ◌plus◌, ◌minus◌, ◌times◌, ◌over◌, joined, in_brackets, if_set, set, set_at, print, from_to, by_step, concurrent, masked, while, if_then, if_else, numbers, scalar, scalar_with, array, array_with, declared, declared_in, result, dummy, subprogram, program, program_with}
use Rattle.dc_run.proofs.Telling.{judged, limited}

abbrev i_and_j : List Symbol
i_and_j = declared i scalar ∷ declared j scalar ∷ []

-- a matrix of two rows and three columns
abbrev matrix : Role
matrix = numbers Kind.K4 ((pos 1, pos 2) ∷ (pos 1, pos 3) ∷ []) []

-- the loops over i and over j, each from 1 on
abbrev over_i : ℕ → Tree → List Local → List Item → Item
over_i line last locality items = concurrent line (from_to i one last ∷ []) locality items

abbrev over_j : ℕ → Tree → List Local → List Item → Item
over_j line last locality items = concurrent line (from_to j one last ∷ []) locality items

abbrev sum_to : List ℕ → List Local
sum_to name = Local.Reduce ReduceOp.Add (name ∷ []) ∷ []

-- ---- an element for each pair of iterations

-- Each inner iteration defines an element of its own.
pairs-of-iterations : judged (declared m matrix ∷ i_and_j)
    (program (over_i 3 two [] (over_j 4 three [] (set_at 5 m (var i ∷ var j ∷ []) (ten times var i plus var j) ∷ []) ∷ [])
    ∷ print 8 (var m ∷ []) ∷ []))
    ≡ codes "11 21 12 22 13 23" ++ 10 ∷ []
unfolding digits value_at cell_of put_at int_wrap
pairs-of-iterations = refl

-- ---- races

-- A race of inner iterations is named with the iterations around them.
inner-race : judged (declared a (array 3) ∷ i_and_j)
    (program
    (set 3 a zero
    ∷ over_i 4 one [] (concurrent 5 (from_to j two three ∷ []) [] (set_at 6 a (var j ∷ []) (of a (var j minus one ∷ [])) ∷ []) ∷ []) ∷ []))
    ≡ codes "race: a(2): iteration (1)/(2) defines at line 6, iteration (1)/(3) reads at line 6" ++ 10 ∷ []
unfolding digits value_at cell_of put_at int_wrap
inner-race = refl

-- What the iterations of an inner loop do is what the iteration around them does.
outer-race : judged (declared a (array 2) ∷ i_and_j)
    (program (over_i 3 two (Local.Shared (a ∷ []) ∷ []) (over_j 4 two [] (set_at 5 a (var j ∷ []) (var i) ∷ []) ∷ []) ∷ []))
    ≡ codes "race: a(1): iteration (1) defines at line 5, iteration (2) defines at line 5" ++ 10 ∷ []
unfolding digits value_at cell_of put_at int_wrap
outer-race = refl

-- So are their exposed reads.
inner-read-is-exposed : judged (declared x (scalar_with (pos 1)) ∷ declared u scalar ∷ i_and_j)
    (program
    (over_i 3 two [] (if_else 4 (joined Mark.Eq (var i) one) (set 5 x two ∷ []) (over_j 7 one [] (set 8 u (var x) ∷ []) ∷ []) ∷ []) ∷ []))
    ≡ codes "race: x: iteration (1) defines at line 5, iteration (2) reads at line 8" ++ 10 ∷ []
unfolding digits value_at cell_of put_at int_wrap
inner-read-is-exposed = refl

-- What the block around defined before an inner loop is no exposed read there.
inner-read-is-no-race : judged (declared x (scalar_with (pos 1)) ∷ declared m matrix ∷ i_and_j)
    (program
    (over_i 3 two [] (set 4 x (var i) ∷ over_j 5 three [] (set_at 6 m (var i ∷ var j ∷ []) (var x) ∷ []) ∷ []) ∷ print 9 (var m ∷ []) ∷ []))
    ≡ codes "1 2 1 2 1 2" ++ 10 ∷ []
unfolding digits value_at cell_of put_at int_wrap
inner-read-is-no-race = refl

-- A SHARED variable of an inner loop.
inner-shared : judged (declared t scalar ∷ i_and_j)
    (program (over_i 3 one [] (over_j 4 two (Local.Shared (t ∷ []) ∷ []) (set 5 t (var j) ∷ []) ∷ []) ∷ []))
    ≡ codes "race: t: iteration (1)/(1) defines at line 5, iteration (1)/(2) defines at line 5" ++ 10 ∷ []
unfolding digits value_at cell_of put_at int_wrap
inner-shared = refl

-- Three levels: the path leads from the outermost loop inward.
three-levels : judged (declared t scalar ∷ declared k scalar ∷ i_and_j)
    (program
    (over_i 3 two []
    (if_then 4 (joined Mark.Eq (var i) two)
    (over_j 5 three []
    (masked 6 (from_to k one four ∷ []) (joined Mark.Gt (var k plus var j) four) (Local.Shared (t ∷ []) ∷ [])
    (set 7 t (var k) ∷ []) ∷ []) ∷ []) ∷ []) ∷ []))
    ≡ codes "race: t: iteration (2)/(2)/(3) defines at line 7, iteration (2)/(2)/(4) defines at line 7" ++ 10 ∷ []
unfolding digits value_at cell_of put_at int_wrap
three-levels = refl

-- ---- faults

-- A fault of an inner iteration is told with the index lists of both loops.
inner-fault : judged (declared a (array 3) ∷ i_and_j)
    (program (over_i 3 two [] (over_j 4 three [] (set_at 5 a (var j ∷ []) (one over in_brackets (var i times var j minus four)) ∷ []) ∷ []) ∷ []))
    ≡ codes "fault: DivideByZero: iteration (2)/(2): line 5" ++ 10 ∷ []
unfolding digits value_at cell_of put_at int_wrap
inner-fault = refl

-- A fault of an inner iteration comes before a race of the loop around.
inner-fault-before-race : judged (declared t scalar ∷ i_and_j)
    (program (over_i 3 two (Local.Shared (t ∷ []) ∷ [])
    (set 4 t one ∷ over_j 5 one [] (set 6 t (one over in_brackets (var i minus two)) ∷ []) ∷ []) ∷ []))
    ≡ codes "fault: DivideByZero: iteration (2)/(1): line 6" ++ 10 ∷ []
unfolding digits value_at cell_of put_at int_wrap
inner-fault-before-race = refl

-- A fault of an inner mask is told with the iteration and with the mask's indexes; it sees the index of the loop around.
inner-mask : judged (declared a (array_with 3 (pos 1 ∷ pos 1 ∷ pos 1 ∷ [])) ∷ i_and_j)
    (program (over_i 3 three [] (masked 4 (from_to j one two ∷ []) (joined Mark.Gt (of a (var i plus var j minus one ∷ [])) zero) [] [] ∷ []) ∷ []))
    ≡ codes "fault: Subscript: iteration (3): mask (2): line 4" ++ 10 ∷ []
unfolding digits value_at cell_of put_at int_wrap
inner-mask = refl

-- A fault of an inner header is one of the iteration around.
inner-header : judged i_and_j (program (over_i 3 two [] (concurrent 4 (by_step j one two (var i minus two) ∷ []) [] [] ∷ []) ∷ []))
    ≡ codes "fault: StepZero: iteration (2): line 4" ++ 10 ∷ []
unfolding digits value_at cell_of put_at int_wrap
inner-header = refl

-- An inner iteration that spends its turns is told so too.
inner-is-spent : limited 5 i_and_j (program (over_i 3 two [] (over_j 4 three [] (while 5 None (joined Mark.Eq (var j) two) [] ∷ []) ∷ []) ∷ []))
    ≡ codes "spent: iteration (1)/(2): line 5" ++ 10 ∷ []
unfolding digits value_at cell_of put_at int_wrap
inner-is-spent = refl

-- A limit of an inner loop may hang on the iteration around; its reads are those of that iteration.
inner-limits : judged (declared m matrix ∷ declared n (scalar_with (pos 1)) ∷ i_and_j)
    (program
    (set 3 m zero ∷ over_i 4 two [] (over_j 5 (var i plus var n) [] (set_at 6 m (var i ∷ var j ∷ []) (var j) ∷ []) ∷ [])
    ∷ print 9 (var m ∷ []) ∷ []))
    ≡ codes "1 1 2 2 0 3" ++ 10 ∷ []
unfolding digits value_at cell_of put_at int_wrap
inner-limits = refl

-- The reads of an inner header are exposed reads of the iteration around.
header-reads-race : judged (declared n (scalar_with (pos 1)) ∷ i_and_j)
    (program (over_i 3 two [] (if_else 4 (joined Mark.Eq (var i) one) (set 5 n two ∷ []) (over_j 7 (var n) [] [] ∷ []) ∷ []) ∷ []))
    ≡ codes "race: n: iteration (1) defines at line 5, iteration (2) reads at line 7" ++ 10 ∷ []
unfolding digits value_at cell_of put_at int_wrap
header-reads-race = refl

-- So are those of an inner mask.
mask-reads-race : judged (declared n (scalar_with (pos 1)) ∷ i_and_j)
    (program (over_i 3 two []
    (if_else 4 (joined Mark.Eq (var i) one) (set 5 n two ∷ [])
    (masked 7 (from_to j one two ∷ []) (joined Mark.Eq (var n) nine) [] [] ∷ []) ∷ []) ∷ []))
    ≡ codes "race: n: iteration (1) defines at line 5, iteration (2) reads at line 7" ++ 10 ∷ []
unfolding digits value_at cell_of put_at int_wrap
mask-reads-race = refl

-- ---- localities

-- A temporary of inner iterations is undefined behind the inner loop.
inner-temporary : judged (declared t scalar ∷ declared m matrix ∷ declared a (array 2) ∷ i_and_j)
    (program
    (over_i 3 two [] (over_j 4 three [] (set 5 t (var j) ∷ set_at 6 m (var i ∷ var j ∷ []) (var t) ∷ [])
    ∷ set_at 8 a (var i ∷ []) (var t) ∷ []) ∷ []))
    ≡ codes "fault: Undefined: iteration (1): line 8" ++ 10 ∷ []
unfolding digits value_at cell_of put_at int_wrap
inner-temporary = refl

-- Where one inner iteration alone defines it, it keeps its value.
inner-definer : judged (declared t scalar ∷ declared a (array 2) ∷ i_and_j)
    (program (over_i 3 two [] (over_j 4 one [] (set 5 t (var i times ten) ∷ []) ∷ set_at 7 a (var i ∷ []) (var t) ∷ []) ∷ print 9 (var a ∷ []) ∷ []))
    ≡ codes "10 20" ++ 10 ∷ []
unfolding digits value_at cell_of put_at int_wrap
inner-definer = refl

-- An inner LOCAL_INIT entity begins as the LOCAL entity of the iteration around, and doesn't change it.
inner-local-init : judged (declared t (scalar_with (pos 7)) ∷ declared m matrix ∷ declared a (array 2) ∷ i_and_j)
    (program
    (over_i 3 two (Local.Locals (t ∷ []) ∷ [])
    (set 4 t (var i times ten)
    ∷ over_j 5 three (Local.Inits (t ∷ []) ∷ []) (set 6 t (var t plus var j) ∷ set_at 7 m (var i ∷ var j ∷ []) (var t) ∷ [])
    ∷ set_at 9 a (var i ∷ []) (var t) ∷ [])
    ∷ print 11 (var m ∷ var a ∷ var t ∷ []) ∷ []))
    ≡ codes "11 21 12 22 13 23 10 20 7" ++ 10 ∷ []
unfolding digits value_at cell_of put_at int_wrap
inner-local-init = refl

-- Of a variable that isn't LOCAL around it begins as the outside variable is then.
inner-local-init-of-outside : judged (declared t scalar ∷ declared b (array_with 2 (pos 3 ∷ pos 4 ∷ [])) ∷ declared m matrix ∷ i_and_j)
    (program
    (over_i 3 two []
    (set 4 t (var i times ten)
    ∷ over_j 5 three (Local.Inits (b ∷ t ∷ []) ∷ [])
    (set 6 t (var t plus var j plus of b (two ∷ [])) ∷ set_at 7 m (var i ∷ var j ∷ []) (var t) ∷ set_at 8 b (two ∷ []) zero ∷ []) ∷ [])
    ∷ print 11 (var m ∷ var b ∷ []) ∷ []))
    ≡ codes "15 25 16 26 17 27 3 4" ++ 10 ∷ []
unfolding digits value_at cell_of put_at int_wrap
inner-local-init-of-outside = refl

-- One that is LOCAL around and one that isn't.
inner-local-init-of-both : judged (declared t (scalar_with (pos 7)) ∷ declared u (scalar_with (pos 5)) ∷ declared m matrix ∷ i_and_j)
    (program
    (over_i 3 two (Local.Locals (t ∷ []) ∷ [])
    (set 4 t (var i times ten) ∷ over_j 5 three (Local.Inits (t ∷ u ∷ []) ∷ []) (set_at 6 m (var i ∷ var j ∷ []) (var t plus var u) ∷ []) ∷ [])
    ∷ print 9 (var m ∷ []) ∷ []))
    ≡ codes "15 25 15 25 15 25" ++ 10 ∷ []
unfolding digits value_at cell_of put_at int_wrap
inner-local-init-of-both = refl

-- What an inner LOCAL_INIT entity is taken from is read by the iteration around, where that isn't an entity itself.
copying-races : judged (declared t (scalar_with (pos 7)) ∷ i_and_j)
    (program (over_i 3 two []
    (if_else 4 (joined Mark.Eq (var i) one) (set 5 t two ∷ []) (over_j 7 one (Local.Inits (t ∷ []) ∷ []) [] ∷ []) ∷ []) ∷ []))
    ≡ codes "race: t: iteration (1) defines at line 5, iteration (2) reads at line 7" ++ 10 ∷ []
unfolding digits value_at cell_of put_at int_wrap
copying-races = refl

-- An inner LOCAL entity is undefined, whatever the one around it is.
inner-local : judged (declared t (scalar_with (pos 7)) ∷ declared u scalar ∷ i_and_j)
    (program (over_i 3 one (Local.Inits (t ∷ []) ∷ [])
    (set 4 u (var t) ∷ over_j 5 two (Local.Locals (t ∷ []) ∷ []) (set 6 u (var t) ∷ []) ∷ []) ∷ []))
    ≡ codes "fault: Undefined: iteration (1)/(1): line 6" ++ 10 ∷ []
unfolding digits value_at cell_of put_at int_wrap
inner-local = refl

-- ---- reductions

-- A reduction of both loops: the contributions of the inner iterations pass to the loop around.
passed-on : judged (declared s (scalar_with (pos 0)) ∷ i_and_j)
    (program (over_i 3 three (sum_to s) (over_j 4 four (sum_to s) (set 5 s (var s plus var i times var j) ∷ []) ∷ []) ∷ print 8 (var s ∷ []) ∷ []))
    ≡ codes "60" ++ 10 ∷ []
unfolding digits value_at cell_of put_at int_wrap
passed-on = refl

-- They have the value outside once.
passed-on-once : judged (declared s (scalar_with (pos 1000)) ∷ i_and_j)
    (program
    (over_i 3 two (sum_to s) (set 4 s (var s plus num (codes "100")) ∷ over_j 5 two (sum_to s) (set 6 s (var s plus one) ∷ []) ∷ [])
    ∷ print 9 (var s ∷ []) ∷ []))
    ≡ codes "1204" ++ 10 ∷ []
unfolding digits value_at cell_of put_at int_wrap
passed-on-once = refl

-- A reduction of the inner loop alone is combined when that loop ends.
inner-reduction : judged (declared s scalar ∷ declared a (array 2) ∷ i_and_j)
    (program
    (over_i 3 two [] (set 4 s (var i times ten) ∷ over_j 5 four (sum_to s) (set 6 s (var s plus var j) ∷ []) ∷ set_at 8 a (var i ∷ []) (var s) ∷ [])
    ∷ print 10 (var a ∷ []) ∷ []))
    ≡ codes "20 30" ++ 10 ∷ []
unfolding digits value_at cell_of put_at int_wrap
inner-reduction = refl

-- It reads the variable outside: two iterations around that begin with it race.
inner-reduction-races : judged (declared s (scalar_with (pos 0)) ∷ i_and_j)
    (program (over_i 3 two [] (over_j 4 four (sum_to s) (set 5 s (var s plus var j) ∷ []) ∷ []) ∷ []))
    ≡ codes "race: s: iteration (1) defines at line 4, iteration (2) reads at line 4" ++ 10 ∷ []
unfolding digits value_at cell_of put_at int_wrap
inner-reduction-races = refl

-- Where it is undefined when the inner loop is reached, that is a fault of its header.
inner-reduction-undefined : judged (declared s scalar ∷ i_and_j)
    (program (over_i 3 two []
    (if_set 4 (joined Mark.Eq (var i) one) s zero ∷ over_j 5 four (sum_to s) (set 6 s (var s plus var j) ∷ []) ∷ []) ∷ []))
    ≡ codes "fault: Undefined: iteration (2): line 5" ++ 10 ∷ []
unfolding digits value_at cell_of put_at int_wrap
inner-reduction-undefined = refl

-- ---- turns

-- A function whose calls spend a turn each.
abbrev with_function : List Symbol
with_function = i_and_j ++ declared f (Role.Function 1) ∷ declared_in 1 x (dummy 0 Intent.Into) ∷ declared_in 1 r result ∷ []

-- The header of an inner loop spends the turns of the iteration around, and inner iterations have their own.
inner-header-spends : limited 2 (declared t scalar ∷ with_function)
    (program_with
    (over_i 3 one [] (over_j 4 (of f (two ∷ [])) [] (set 5 t (of f (of f (var j ∷ []) ∷ [])) ∷ []) ∷ set 7 t (of f (nine ∷ [])) ∷ [])
    ∷ print 9 (var t ∷ []) ∷ [])
    (subprogram (set 14 r (var x) ∷ []) ∷ []))
    ≡ codes "9" ++ 10 ∷ []
unfolding digits value_at cell_of put_at int_wrap
inner-header-spends = refl

-- What the inner header spent the iteration around lacks.
inner-header-is-spent : limited 1 (declared t scalar ∷ with_function)
    (program_with (over_i 3 one [] (over_j 4 (of f (two ∷ [])) [] [] ∷ set 7 t (of f (nine ∷ [])) ∷ []) ∷ [])
    (subprogram (set 14 r (var x) ∷ []) ∷ []))
    ≡ codes "spent: iteration (1): line 7" ++ 10 ∷ []
unfolding digits value_at cell_of put_at int_wrap
inner-header-is-spent = refl
