-- Functions and subroutines: their calls, what their dummies are associated with, and their turns.
use Rattle.std.proofs.Common.{◌≡◌, ℕ, List, [], ◌∷◌, false, None, refl}
use Rattle.std.specs.Prelude.{◌++◌, codes, pos}
use Rattle.std.specs.Fmt.{digits}
use Rattle.std.specs.Int.{int_wrap}
use Rattle.dc_int.specs.declared.kind.Kind.{Kind}
use Rattle.dc_int.specs.declared.operation.ReduceOp.{ReduceOp}
use Rattle.dc_int.specs.Store.{value_at, cell_of, put_at}
use Rattle.dc_tree.specs.declared.stmt.Intent.{Intent}
use Rattle.dc_tree.specs.declared.stmt.Local.{Local}
use Rattle.dc_tree.specs.declared.symbols.Role.{Role}
use Rattle.dc_tree.specs.declared.symbols.Symbol.{Symbol}
use Rattle.dc_tree.specs.declared.token.Mark.{Mark}
use Rattle.dc_tree.specs.Blocks.{Subprogram, Source}
use Rattle.dc_tree.specs.Statements.{Name}
use Rattle.dc_tree.specs.Statements as statements
use Rattle.dc_meaning.proofs.Sources.{a, b, f, g, i, j, k, q, r, s, t, u, v, x, y, num, zero, one, two, three, four, nine, ten, var, of, ◌plus◌, ◌minus◌, ◌times◌, ◌over◌, joined, in_brackets, if_doing, if_set, set, set_at, print, call, from_to, concurrent, masked, counted, if_else, scalar, scalar_with, array, array_with, declared, declared_in, result, dummy, subprogram, program, program_with}
use Rattle.dc_run.proofs.Telling.{judged, limited, ordered}

-- A function of one number, and a subroutine, each with the names of its scope.
abbrev function_in : ℕ → Name → Name → List Symbol
function_in number name result_name =
    declared name (Role.Function number) ∷ declared_in number x (dummy 0 Intent.Into) ∷ declared_in number result_name result ∷ []

abbrev subroutine_in : ℕ → Name → List Symbol → List Symbol
subroutine_in number name own = declared name (Role.Subroutine number) ∷ own

-- ---- functions

-- `f(x)` is `x * 100 + g`
abbrev hundreds : Subprogram
hundreds = subprogram (set 11 f (var x times num (codes "100") plus var g) ∷ [])

abbrev b_i_and_g : List Symbol
b_i_and_g = declared b (array 3) ∷ declared i scalar ∷ declared g (scalar_with (pos 10)) ∷ function_in 1 f f

-- A function that an iteration calls sees the variable outside, and not the entity of that name.
function-sees-the-outside : judged b_i_and_g
    (program_with
    (concurrent 3 (from_to i one three ∷ []) (Local.Locals (g ∷ []) ∷ [])
    (set 4 g (var i) ∷ set_at 5 b (var i ∷ []) (of f (var i ∷ []) plus var g) ∷ [])
    ∷ print 7 (var b ∷ var g ∷ []) ∷ [])
    (hundreds ∷ []))
    ≡ codes "111 212 313 10" ++ 10 ∷ []
unfolding digits value_at cell_of put_at int_wrap
function-sees-the-outside = refl

-- Without a locality list it is the same variable.
function-in-a-loop : judged b_i_and_g
    (program_with (concurrent 3 (from_to i one three ∷ []) [] (set_at 4 b (var i ∷ []) (of f (var i ∷ [])) ∷ []) ∷ print 6 (var b ∷ []) ∷ [])
    (hundreds ∷ []))
    ≡ codes "110 210 310" ++ 10 ∷ []
unfolding digits value_at cell_of put_at int_wrap
function-in-a-loop = refl

-- `f(x)` is `x + s`
abbrev summing : Source
summing = program_with
    (concurrent 3 (from_to i one two ∷ []) (Local.Reduce ReduceOp.Add (s ∷ []) ∷ []) (set 4 s (var s plus of f (var i ∷ [])) ∷ [])
    ∷ print 6 (var s ∷ []) ∷ [])
    (subprogram (set 10 f (var x plus var s) ∷ []) ∷ [])

abbrev s_i_and_f : List Symbol
s_i_and_f = declared s (scalar_with (pos 0)) ∷ declared i scalar ∷ function_in 1 f f

-- A function that an iteration calls sees the REDUCE variable as it was before the loop, and not what has been added since.
function-sees-no-partial-sum : judged s_i_and_f summing ≡ codes "3" ++ 10 ∷ []
unfolding digits value_at cell_of put_at int_wrap
function-sees-no-partial-sum = refl

-- The same where the loop isn't judged, and one iteration runs behind the other.
function-sees-no-partial-sum-in-order : ordered 0 s_i_and_f summing ≡ codes "3" ++ 10 ∷ []
unfolding digits value_at cell_of put_at int_wrap
function-sees-no-partial-sum-in-order = refl

-- The subscripts of an update are evaluated once: the call in them has the only turn.
subscripts-of-an-update : limited 1 (declared s (array_with 2 (pos 0 ∷ pos 0 ∷ [])) ∷ declared i scalar ∷ function_in 1 f f)
    (program_with
    (concurrent 3 (from_to i one one ∷ []) (Local.Reduce ReduceOp.Add (s ∷ []) ∷ [])
    (set_at 4 s (of f (one ∷ []) ∷ []) (of s (of f (one ∷ []) ∷ []) plus one) ∷ [])
    ∷ print 6 (var s ∷ []) ∷ [])
    (subprogram (set 10 f (var x) ∷ []) ∷ []))
    ≡ codes "1 0" ++ 10 ∷ []
unfolding digits value_at cell_of put_at int_wrap
subscripts-of-an-update = refl

-- An exposed read by a function is one of the iteration that calls it.
race-by-a-function : judged (declared b (array 3) ∷ declared i scalar ∷ declared g (scalar_with (pos 10)) ∷ function_in 1 f f)
    (program_with (concurrent 3 (from_to i one two ∷ []) []
    (if_else 4 (joined Mark.Eq (var i) one) (set 5 g one ∷ []) (set_at 7 b (two ∷ []) (of f (var i ∷ [])) ∷ []) ∷ []) ∷ [])
    (hundreds ∷ []))
    ≡ codes "race: g: iteration (1) defines at line 5, iteration (2) reads at line 11" ++ 10 ∷ []
unfolding digits value_at cell_of put_at int_wrap
race-by-a-function = refl

-- ---- recursion, depth and turns

-- `f(x)` is 0 for 1, and else `f(x - 1) + 1`, under the result's name r
abbrev descending : Subprogram
descending = subprogram (set 6 r zero ∷ if_set 7 (joined Mark.Gt (var x) one) r (of f (var x minus one ∷ []) plus one) ∷ [])

abbrev descends : List ℕ → Source
descends depth = program_with (print 2 (of f (num depth ∷ []) ∷ []) ∷ []) (descending ∷ [])

-- A hundred calls may be inside one another, but not one more.
hundred-deep : judged (function_in 1 f r) (descends (codes "100")) ≡ codes "99" ++ 10 ∷ []
unfolding digits value_at cell_of put_at int_wrap
hundred-deep = refl

-- The call that would be one deeper is a fault at the line that calls.
too-deep : judged (function_in 1 f r) (descends (codes "101")) ≡ codes "fault: TooDeep: line 7" ++ 10 ∷ []
unfolding digits value_at cell_of put_at int_wrap
too-deep = refl

-- Each call spends a turn, at the line of the statement that calls. The depth is looked at before the turn.
depth-before-turn : limited 100 (function_in 1 f r) (descends (codes "101")) ≡ codes "fault: TooDeep: line 7" ++ 10 ∷ []
unfolding digits value_at cell_of put_at int_wrap
depth-before-turn = refl

-- The arguments are evaluated before the depth is looked at: those of the call that would be too deep have a zero divisor.
arguments-before-depth : judged (function_in 1 f r)
    (program_with (print 2 (of f (num (codes "101") ∷ []) ∷ []) ∷ [])
    (subprogram
    (set 6 r zero
    ∷ if_set 7 (joined Mark.Gt (var x) one) r
    (of f (var x minus one plus (zero over in_brackets (var x minus two)) ∷ []) plus one) ∷ []) ∷ []))
    ≡ codes "fault: DivideByZero: line 7" ++ 10 ∷ []
unfolding digits value_at cell_of put_at int_wrap
arguments-before-depth = refl

-- With two turns the third call has none left.
two-calls-are-spent : limited 2 (function_in 1 f r) (descends (codes "3")) ≡ codes "spent: line 7" ++ 10 ∷ []
unfolding digits value_at cell_of put_at int_wrap
two-calls-are-spent = refl

-- With three turns it has.
three-calls-suffice : limited 3 (function_in 1 f r) (descends (codes "3")) ≡ codes "2" ++ 10 ∷ []
unfolding digits value_at cell_of put_at int_wrap
three-calls-suffice = refl

-- Arguments are evaluated before the turn is spent: the inner call spends the only one.
arguments-before-turn : limited 1 (function_in 1 f r) (program_with (print 2 (of f (of f (one ∷ []) over zero ∷ []) ∷ []) ∷ []) (descending ∷ []))
    ≡ codes "fault: DivideByZero: line 2" ++ 10 ∷ []
unfolding digits value_at cell_of put_at int_wrap
arguments-before-turn = refl

-- The limits of a header spend the main program's turns.
header-spends : limited 2 (declared i scalar ∷ function_in 1 f r)
    (program_with (concurrent 2 (from_to i one (of f (two ∷ [])) ∷ []) [] [] ∷ print 4 (of f (one ∷ []) ∷ []) ∷ []) (descending ∷ []))
    ≡ codes "spent: line 4" ++ 10 ∷ []
unfolding digits value_at cell_of put_at int_wrap
header-spends = refl

-- A header without a turn for its call is spent.
header-is-spent : limited 1 (declared i scalar ∷ function_in 1 f r)
    (program_with (concurrent 2 (from_to i one (of f (two ∷ [])) ∷ []) [] [] ∷ []) (descending ∷ []))
    ≡ codes "spent: line 7" ++ 10 ∷ []
unfolding digits value_at cell_of put_at int_wrap
header-is-spent = refl

-- Masks that spend up to two turns each leave the main program its own.
masks-have-their-own : limited 2 (declared i scalar ∷ function_in 1 f r)
    (program_with (masked 2 (from_to i one two ∷ []) (joined Mark.Ge (of f (var i ∷ [])) zero) [] [] ∷ print 4 (of f (two ∷ []) ∷ []) ∷ [])
    (descending ∷ []))
    ≡ codes "1" ++ 10 ∷ []
unfolding digits value_at cell_of put_at int_wrap
masks-have-their-own = refl

-- A mask that needs three turns has two.
mask-is-spent : limited 2 (declared i scalar ∷ function_in 1 f r)
    (program_with (masked 2 (from_to i one three ∷ []) (joined Mark.Ge (of f (var i ∷ [])) zero) [] [] ∷ []) (descending ∷ []))
    ≡ codes "spent: mask (3): line 7" ++ 10 ∷ []
unfolding digits value_at cell_of put_at int_wrap
mask-is-spent = refl

-- ---- results and locals

-- A function that doesn't define its result: the fault is at the line of the statement that refers to it.
undefined-result : judged (function_in 1 f r) (program_with (print 2 (one ∷ []) ∷ print 3 (of f (one ∷ []) ∷ []) ∷ []) (subprogram [] ∷ []))
    ≡ codes "1" ++ 10 ∷ (codes "fault: Undefined: line 3" ++ 10 ∷ [])
unfolding digits value_at cell_of put_at int_wrap
undefined-result = refl

-- Local variables are undefined at each call.
locals-begin-undefined : judged (function_in 1 f r ++ declared_in 1 v scalar ∷ [])
    (program_with (print 2 (of f (one ∷ []) ∷ []) ∷ print 3 (of f (two ∷ []) ∷ []) ∷ [])
    (subprogram (if_set 6 (joined Mark.Eq (var x) one) v nine ∷ set 7 r (var v) ∷ []) ∷ []))
    ≡ codes "9" ++ 10 ∷ (codes "fault: Undefined: line 7" ++ 10 ∷ [])
unfolding digits value_at cell_of put_at int_wrap
locals-begin-undefined = refl

-- A recursive call has locals and a result of its own. RETURN leaves loops.
own-locals : judged (function_in 1 f r ++ declared_in 1 v (array 2) ∷ declared_in 1 j scalar ∷ [])
    (program_with (print 2 (of f (three ∷ []) ∷ []) ∷ [])
    (subprogram
    (set 6 v (var x) ∷ set 7 r zero
    ∷ if_set 8 (joined Mark.Gt (var x) one) r (of f (var x minus one ∷ []))
    ∷ counted 9 None (from_to j one nine)
    (if_doing 10 (joined Mark.Gt (var j) one) statements.return ∷ set 11 r (var r times ten plus of v (two ∷ [])) ∷ [])
    ∷ set 13 r zero ∷ []) ∷ []))
    ≡ codes "123" ++ 10 ∷ []
unfolding digits value_at cell_of put_at int_wrap
own-locals = refl

-- A dummy takes its value as it is; the result has a kind of its own, to which an assignment wraps.
kinds-of-results : judged
    (declared f (Role.Function 1) ∷ declared_in 1 x (dummy 0 Intent.Into) ∷ declared_in 1 r (Role.Result false Kind.K1) ∷ [])
    (program_with (print 2 (of f (num (codes "200") ∷ []) ∷ of (codes "kind") (of f (one ∷ []) ∷ []) ∷ []) ∷ [])
    (subprogram (set 5 r (var x) ∷ []) ∷ []))
    ≡ codes "-56 1" ++ 10 ∷ []
unfolding digits value_at cell_of put_at int_wrap
kinds-of-results = refl

-- ---- subroutines and places

abbrev clear : Name
clear = codes "clear"

-- A subroutine whose only dummy is INTENT(OUT).
abbrev clears : List Symbol
clears = subroutine_in 1 clear (declared_in 1 x (dummy 0 Intent.Out) ∷ [])

-- An INTENT(OUT) place becomes undefined at the call, which is a touch.
undefines-races : judged (declared t (scalar_with (pos 1)) ∷ declared i scalar ∷ clears)
    (program_with (concurrent 3 (from_to i one two ∷ []) (Local.Shared (t ∷ []) ∷ []) (call 4 clear (var t ∷ []) ∷ []) ∷ []) (subprogram [] ∷ []))
    ≡ codes "race: t: iteration (1) undefines at line 4, iteration (2) undefines at line 4" ++ 10 ∷ []
unfolding digits value_at cell_of put_at int_wrap
undefines-races = refl

-- Two INTENT(OUT) places become undefined in the order of the arguments: that of u breaks first, though t is declared first.
out-places-in-order : judged
    (declared t (scalar_with (pos 1)) ∷ declared u (scalar_with (pos 1)) ∷ declared i scalar
    ∷ subroutine_in 1 s (declared_in 1 x (dummy 0 Intent.Out) ∷ declared_in 1 y (dummy 1 Intent.Out) ∷ []))
    (program_with (concurrent 3 (from_to i one two ∷ []) (Local.Shared (t ∷ u ∷ []) ∷ []) (call 4 s (var u ∷ var t ∷ []) ∷ []) ∷ [])
    (subprogram [] ∷ []))
    ≡ codes "race: u: iteration (1) undefines at line 4, iteration (2) undefines at line 4" ++ 10 ∷ []
unfolding digits value_at cell_of put_at int_wrap
out-places-in-order = refl

-- In unspecified locality a becoming undefined breaks with an exposed read.
undefines-and-reads : judged (declared t (scalar_with (pos 1)) ∷ declared u scalar ∷ declared i scalar ∷ clears)
    (program_with
    (concurrent 3 (from_to i one two ∷ []) []
    (if_else 4 (joined Mark.Eq (var i) two) (call 5 clear (var t ∷ []) ∷ []) (set 7 u (var t) ∷ []) ∷ []) ∷ [])
    (subprogram [] ∷ []))
    ≡ codes "race: t: iteration (2) undefines at line 5, iteration (1) reads at line 7" ++ 10 ∷ []
unfolding digits value_at cell_of put_at int_wrap
undefines-and-reads = refl

-- After the call it stays undefined where the subroutine doesn't define it.
undefined-by-a-call : judged (declared t (scalar_with (pos 1)) ∷ clears)
    (program_with (print 2 (var t ∷ []) ∷ call 3 clear (var t ∷ []) ∷ print 4 (var t ∷ []) ∷ []) (subprogram [] ∷ []))
    ≡ codes "1" ++ 10 ∷ (codes "fault: Undefined: line 4" ++ 10 ∷ [])
unfolding digits value_at cell_of put_at int_wrap
undefined-by-a-call = refl

-- The same in an iteration, of a variable outside.
undefined-in-an-iteration : judged (declared t (scalar_with (pos 1)) ∷ declared i scalar ∷ declared u scalar ∷ clears)
    (program_with (concurrent 3 (from_to i one one ∷ []) [] (set 4 u (var t) ∷ call 5 clear (var t ∷ []) ∷ set 6 u (var t) ∷ []) ∷ [])
    (subprogram [] ∷ []))
    ≡ codes "fault: Undefined: iteration (1): line 6" ++ 10 ∷ []
unfolding digits value_at cell_of put_at int_wrap
undefined-in-an-iteration = refl

-- The same of a LOCAL_INIT entity of an iteration.
undefined-entity : judged (declared t (scalar_with (pos 1)) ∷ declared i scalar ∷ declared u scalar ∷ clears)
    (program_with (concurrent 3 (from_to i one one ∷ []) (Local.Inits (t ∷ []) ∷ [])
    (set 4 u (var t) ∷ call 5 clear (var t ∷ []) ∷ set 6 u (var t) ∷ []) ∷ []) (subprogram [] ∷ []))
    ≡ codes "fault: Undefined: iteration (1): line 6" ++ 10 ∷ []
unfolding digits value_at cell_of put_at int_wrap
undefined-entity = refl

-- A call of a subroutine spends a turn too.
subroutine-spends : limited 1 (declared t (scalar_with (pos 1)) ∷ clears)
    (program_with (call 2 clear (var t ∷ []) ∷ call 3 clear (var t ∷ []) ∷ []) (subprogram [] ∷ []))
    ≡ codes "spent: line 3" ++ 10 ∷ []
unfolding digits value_at cell_of put_at int_wrap
subroutine-spends = refl

-- Two dummies: the first is INTENT(IN), the second INTENT(OUT), and what goes to both is valued before it becomes undefined.
in-before-out : judged
    (declared t (scalar_with (pos 4)) ∷ subroutine_in 1 s (declared_in 1 x (dummy 0 Intent.Into) ∷ declared_in 1 y (dummy 1 Intent.Out) ∷ []))
    (program_with (call 3 s (var t ∷ var t ∷ []) ∷ print 4 (var t ∷ []) ∷ []) (subprogram (set 7 y (var x plus one) ∷ []) ∷ []))
    ≡ codes "5" ++ 10 ∷ []
unfolding digits value_at cell_of put_at int_wrap
in-before-out = refl

-- The same the other way about: the place stays defined until all arguments are associated.
out-before-in : judged
    (declared t (scalar_with (pos 4)) ∷ subroutine_in 1 s (declared_in 1 y (dummy 0 Intent.Out) ∷ declared_in 1 x (dummy 1 Intent.Into) ∷ []))
    (program_with (call 3 s (var t ∷ var t ∷ []) ∷ print 4 (var t ∷ []) ∷ []) (subprogram (set 9 y (var x plus one) ∷ []) ∷ []))
    ≡ codes "5" ++ 10 ∷ []
unfolding digits value_at cell_of put_at int_wrap
out-before-in = refl

-- Dummies are told apart by their places, whatever the order of their declarations.
declared-otherwise : judged
    (declared t (scalar_with (pos 4)) ∷ subroutine_in 1 s (declared_in 1 y (dummy 1 Intent.Out) ∷ declared_in 1 x (dummy 0 Intent.Into) ∷ []))
    (program_with (call 3 s (var t ∷ var t ∷ []) ∷ print 4 (var t ∷ []) ∷ []) (subprogram (set 7 y (var x plus one) ∷ []) ∷ []))
    ≡ codes "5" ++ 10 ∷ []
unfolding digits value_at cell_of put_at int_wrap
declared-otherwise = refl

-- The subscripts of a place are evaluated once, at the call.
place-stays : judged
    (declared a (array_with 2 (pos 1 ∷ pos 1 ∷ [])) ∷ declared k (scalar_with (pos 1))
    ∷ subroutine_in 1 s (declared_in 1 x (dummy 0 Intent.InOut) ∷ declared_in 1 y (dummy 1 Intent.InOut) ∷ []))
    (program_with (call 3 s (of a (var k ∷ []) ∷ var k ∷ []) ∷ print 4 (var a ∷ var k ∷ []) ∷ [])
    (subprogram (set 7 y two ∷ set 8 x (var x plus nine) ∷ []) ∷ []))
    ≡ codes "10 1 2" ++ 10 ∷ []
unfolding digits value_at cell_of put_at int_wrap
place-stays = refl

-- A subscript of an argument that is out of bounds is a fault of the call.
place-out-of-bounds : judged (declared a (array_with 2 (pos 1 ∷ pos 1 ∷ [])) ∷ clears)
    (program_with (call 3 clear (of a (three ∷ []) ∷ []) ∷ []) (subprogram [] ∷ []))
    ≡ codes "fault: Subscript: line 3" ++ 10 ∷ []
unfolding digits value_at cell_of put_at int_wrap
place-out-of-bounds = refl

-- Two subroutines: the first hands its dummy, its local variable and an element of that on to the second, which adds to them.
passed-on : judged
    (declared t (scalar_with (pos 5)) ∷ declared s (Role.Subroutine 1) ∷ declared q (Role.Subroutine 2)
    ∷ declared_in 1 x (dummy 0 Intent.InOut) ∷ declared_in 1 v (array 2) ∷ declared_in 1 u scalar ∷ declared_in 2 y (dummy 0 Intent.InOut)
    ∷ declared_in 2 u scalar ∷ [])
    (program_with (call 2 s (var t ∷ []) ∷ print 3 (var t ∷ []) ∷ [])
    (subprogram
    (set 6 v one ∷ set 7 u two ∷ call 8 q (var x ∷ []) ∷ call 9 q (var u ∷ []) ∷ call 10 q (of v (two ∷ []) ∷ [])
    ∷ set 11 x (var x times num (codes "1000") plus var u times num (codes "100") plus of v (one ∷ []) times ten plus of v (two ∷ [])) ∷ [])
    ∷ subprogram (set 15 u (var y) ∷ set 16 y (var u plus one) ∷ []) ∷ []))
    ≡ codes "6312" ++ 10 ∷ []
unfolding digits value_at cell_of put_at int_wrap
passed-on = refl

-- What a procedure does to its dummy is an access of the statement there.
race-by-a-dummy : judged (declared t (scalar_with (pos 1)) ∷ declared i scalar ∷ subroutine_in 1 s (declared_in 1 x (dummy 0 Intent.InOut) ∷ []))
    (program_with (concurrent 3 (from_to i one two ∷ []) [] (call 4 s (var t ∷ []) ∷ []) ∷ []) (subprogram (set 9 x (var x plus one) ∷ []) ∷ []))
    ≡ codes "race: t: iteration (1) defines at line 9, iteration (2) reads at line 9" ++ 10 ∷ []
unfolding digits value_at cell_of put_at int_wrap
race-by-a-dummy = refl

-- A place that becomes undefined two calls deep is touched at the line of the inner call.
undefined-deeper : judged
    (declared t (scalar_with (pos 5)) ∷ declared i scalar ∷ declared s (Role.Subroutine 1) ∷ declared clear (Role.Subroutine 2)
    ∷ declared_in 1 x (dummy 0 Intent.InOut) ∷ declared_in 2 y (dummy 0 Intent.Out) ∷ [])
    (program_with (concurrent 2 (from_to i one two ∷ []) (Local.Shared (t ∷ []) ∷ []) (call 3 s (var t ∷ []) ∷ []) ∷ [])
    (subprogram (call 7 clear (var x ∷ []) ∷ []) ∷ subprogram [] ∷ []))
    ≡ codes "race: t: iteration (1) undefines at line 7, iteration (2) undefines at line 7" ++ 10 ∷ []
unfolding digits value_at cell_of put_at int_wrap
undefined-deeper = refl

-- A local name hides that of the main program.
local-hides : judged (declared g (scalar_with (pos 10)) ∷ function_in 1 f f ++ declared_in 1 g scalar ∷ [])
    (program_with (print 2 (of f (one ∷ []) ∷ var g ∷ []) ∷ []) (subprogram (set 6 g two ∷ set 7 f (var g plus var x) ∷ []) ∷ []))
    ≡ codes "3 10" ++ 10 ∷ []
unfolding digits value_at cell_of put_at int_wrap
local-hides = refl

-- A declared array hides a function of the language.
array-hides-function : judged (declared (codes "max") (array_with 2 (pos 7 ∷ pos 8 ∷ [])) ∷ [])
    (program (print 2 (of (codes "max") (two ∷ []) ∷ []) ∷ []))
    ≡ codes "8" ++ 10 ∷ []
unfolding digits value_at cell_of put_at int_wrap
array-hides-function = refl

-- A function with two arguments: they are evaluated from the left.
function-arguments : judged
    (declared a (array 2) ∷ declared f (Role.Function 1) ∷ declared_in 1 x (dummy 0 Intent.Into) ∷ declared_in 1 y (dummy 1 Intent.Into)
    ∷ declared_in 1 r result ∷ [])
    (program_with (print 2 (of f (nine ∷ four ∷ []) ∷ []) ∷ print 3 (of f (of a (three ∷ []) ∷ one over zero ∷ []) ∷ []) ∷ [])
    (subprogram (set 6 r (var x minus var y) ∷ []) ∷ []))
    ≡ codes "5" ++ 10 ∷ (codes "fault: Subscript: line 3" ++ 10 ∷ [])
unfolding digits value_at cell_of put_at int_wrap
function-arguments = refl
