-- Headers, masks, localities and reductions of loops: whole programs, what each writes, and how it ends.
use Rattle.std.proofs.Common.{◌≡◌, ℕ, List, [], ◌∷◌, false, Some, None, refl}
use Rattle.std.specs.Prelude.{◌++◌, codes, ℤ, pos}
use Rattle.std.specs.Fmt.{digits}
use Rattle.std.specs.Int.{int_wrap}
use Rattle.dc_int.specs.declared.kind.Kind.{Kind}
use Rattle.dc_int.specs.declared.operation.ReduceOp.{ReduceOp}
use Rattle.dc_int.specs.Store.{value_at, cell_of, put_at}
use Rattle.dc_tree.specs.declared.stmt.Local.{Local}
use Rattle.dc_tree.specs.declared.symbols.Role.{Role}
use Rattle.dc_tree.specs.declared.symbols.Symbol.{Symbol}
use Rattle.dc_tree.specs.declared.token.Mark.{Mark}
use Rattle.dc_tree.specs.Blocks.{Item, Source}
use Rattle.dc_tree.specs.Statements.{Ranging}
use Rattle.dc_tree.specs.Syntax.{Tree}
use Rattle.dc_meaning.proofs.Sources.{a, b, i, j, m, n, q, s, t, v, num, zero, one, two, three, four, ten, var, of, ◌plus◌, ◌minus◌, ◌times◌, ◌over◌, joined, in_brackets, minus_of, set, set_at, print, from_to, by_step, concurrent, masked, typed, numbers, truths, scalar, scalar_with, array, array_with, declared, program}
use Rattle.dc_run.proofs.Telling.{judged, ordered}

abbrev a_and_i : List Symbol
a_and_i = declared a (array 2) ∷ declared i scalar ∷ []

-- ---- LOCAL and LOCAL_INIT

abbrev t_i_and_a : List Symbol
t_i_and_a = declared t scalar ∷ declared i scalar ∷ declared a (array 2) ∷ []

abbrev local_t : List Item → List Item → Source
local_t before body = program
    (before ++ (concurrent 4 (from_to i one two ∷ []) (Local.Locals (t ∷ []) ∷ []) body ∷ print 8 (var t ∷ var a ∷ []) ∷ []))

-- What an iteration does to its own entity does nothing to the variable outside.
local-keeps-the-outside : judged t_i_and_a (local_t (set 3 t (num (codes "7")) ∷ []) (set 5 t (var i) ∷ set_at 6 a (var i ∷ []) (var t) ∷ []))
    ≡ codes "7 1 2" ++ 10 ∷ []
unfolding digits value_at cell_of put_at int_wrap
local-keeps-the-outside = refl

-- A LOCAL entity is undefined when its iteration begins.
local-begins-undefined : judged t_i_and_a (local_t (set 3 t (num (codes "7")) ∷ []) (set_at 5 a (var i ∷ []) (var t) ∷ set 6 t (var i) ∷ []))
    ≡ codes "fault: Undefined: iteration (1): line 5" ++ 10 ∷ []
unfolding digits value_at cell_of put_at int_wrap
local-begins-undefined = refl

-- A LOCAL_INIT entity begins in each iteration as the variable outside, and doesn't change it.
local-init-begins-as-outside : judged (declared t (scalar_with (pos 7)) ∷ declared i scalar ∷ declared a (array 2) ∷ [])
    (program (concurrent 3 (from_to i one two ∷ []) (Local.Inits (t ∷ []) ∷ [])
    (set 4 t (var t plus var i) ∷ set_at 5 a (var i ∷ []) (var t) ∷ []) ∷ print 7 (var t ∷ var a ∷ []) ∷ []))
    ≡ codes "7 8 9" ++ 10 ∷ []
unfolding digits value_at cell_of put_at int_wrap
local-init-begins-as-outside = refl

abbrev half_defined : Tree → Source
half_defined subscript = program
    (set_at 3 b (two ∷ []) (num (codes "5"))
    ∷ concurrent 4 (from_to i one two ∷ []) (Local.Inits (b ∷ []) ∷ Local.Locals (t ∷ []) ∷ [])
    (set_at 5 a (var i ∷ []) (of b (subscript ∷ [])) ∷ [])
    ∷ print 7 (var a ∷ []) ∷ [])

abbrev with_b : List Symbol
with_b = declared a (array 2) ∷ declared b (array 2) ∷ declared t scalar ∷ declared i scalar ∷ []

-- A LOCAL_INIT array may be undefined in part. Only its defined element can be read.
local-init-of-the-defined : judged with_b (half_defined two) ≡ codes "5 5" ++ 10 ∷ []
unfolding digits value_at cell_of put_at int_wrap
local-init-of-the-defined = refl

-- The other element is undefined in each iteration.
local-init-of-the-undefined : judged with_b (half_defined one) ≡ codes "fault: Undefined: iteration (1): line 5" ++ 10 ∷ []
unfolding digits value_at cell_of put_at int_wrap
local-init-of-the-undefined = refl

-- ---- reductions

abbrev sum_of : ReduceOp → List Item → List Item → Source
sum_of op body after = program (concurrent 4 (from_to i one two ∷ []) (Local.Reduce op (s ∷ []) ∷ []) body ∷ after)

-- A sum wraps at the kind of its variable, and has the value outside once.
sum-wraps : judged (declared s (numbers Kind.K1 [] (pos 100 ∷ [])) ∷ declared i scalar ∷ [])
    (sum_of ReduceOp.Add (set 5 s (var s plus num (codes "50")) ∷ []) (print 7 (var s ∷ []) ∷ []))
    ≡ codes "-56" ++ 10 ∷ []
unfolding digits value_at cell_of put_at int_wrap
sum-wraps = refl

-- Where there is no iteration, the value outside stays.
no-iteration : judged (declared m (scalar_with (pos 5)) ∷ declared i scalar ∷ [])
    (program (concurrent 3 (from_to i one zero ∷ []) (Local.Reduce ReduceOp.Max (m ∷ []) ∷ [])
    (set 4 m (of (codes "max") (var m ∷ var i ∷ [])) ∷ []) ∷ print 6 (var m ∷ []) ∷ []))
    ≡ codes "5" ++ 10 ∷ []
unfolding digits value_at cell_of put_at int_wrap
no-iteration = refl

-- The first undefined element of a reduction is the header's fault where there is an iteration.
undefined-reduction : judged (declared s scalar ∷ declared i scalar ∷ []) (sum_of ReduceOp.Add (set 5 s (var s plus one) ∷ []) [])
    ≡ codes "fault: Undefined: line 4" ++ 10 ∷ []
unfolding digits value_at cell_of put_at int_wrap
undefined-reduction = refl

-- Without an iteration an undefined variable is no fault, and stays undefined.
undefined-and-unused : judged (declared s scalar ∷ declared i scalar ∷ [])
    (program (concurrent 3 (from_to i two one ∷ []) (Local.Reduce ReduceOp.Add (s ∷ []) ∷ []) (set 4 s (var s plus one) ∷ [])
    ∷ print 6 (var s ∷ []) ∷ []))
    ≡ codes "fault: Undefined: line 6" ++ 10 ∷ []
unfolding digits value_at cell_of put_at int_wrap
undefined-and-unused = refl

abbrev s_and_i : List Symbol
s_and_i = declared s (scalar_with (pos 3)) ∷ declared i scalar ∷ []

-- An update with several operands contributes each of them.
several-operands : judged s_and_i (sum_of ReduceOp.Add (set 5 s (var s plus var i plus ten plus one) ∷ []) (print 7 (var s ∷ []) ∷ []))
    ≡ codes "28" ++ 10 ∷ []
unfolding digits value_at cell_of put_at int_wrap
several-operands = refl

-- The variable may stand behind the operand.
operand-in-front : judged s_and_i (sum_of ReduceOp.Mul (set 5 s (in_brackets (var i plus one) times var s) ∷ []) (print 7 (var s ∷ []) ∷ []))
    ≡ codes "18" ++ 10 ∷ []
unfolding digits value_at cell_of put_at int_wrap
operand-in-front = refl

-- A function may take the variable and an operand.
function-of-variable : judged s_and_i
    (sum_of ReduceOp.Max (set 5 s (of (codes "max") (var s ∷ var i times two ∷ [])) ∷ []) (print 7 (var s ∷ []) ∷ []))
    ≡ codes "4" ++ 10 ∷ []
unfolding digits value_at cell_of put_at int_wrap
function-of-variable = refl

-- The operand may be the first argument.
function-of-operand : judged s_and_i (sum_of ReduceOp.Min (set 5 s (of (codes "min") (var i ∷ var s ∷ [])) ∷ []) (print 7 (var s ∷ []) ∷ []))
    ≡ codes "1" ++ 10 ∷ []
unfolding digits value_at cell_of put_at int_wrap
function-of-operand = refl

-- An operation on bits.
reduced-by-bits : judged s_and_i
    (sum_of ReduceOp.Ieor (set 5 s (of (codes "ieor") (num (codes "8") times var i ∷ var s ∷ [])) ∷ []) (print 7 (var s ∷ []) ∷ []))
    ≡ codes "27" ++ 10 ∷ []
unfolding digits value_at cell_of put_at int_wrap
reduced-by-bits = refl

-- An operation on truths.
reduced-by-truth : judged (declared q (truths [] (pos 1 ∷ [])) ∷ declared i scalar ∷ [])
    (program (concurrent 3 (from_to i one three ∷ []) (Local.Reduce ReduceOp.Neqv (q ∷ []) ∷ [])
    (set 4 q (joined Mark.Neqv (var q) (joined Mark.Gt (var i) one)) ∷ []) ∷ print 6 (var q ∷ []) ∷ []))
    ≡ codes "T" ++ 10 ∷ []
unfolding digits value_at cell_of put_at int_wrap
reduced-by-truth = refl

-- Operands are evaluated from the left, and before the subscripts: the zero divisor comes first.
operands-before-subscripts : judged (declared s (array_with 2 (pos 1 ∷ pos 1 ∷ [])) ∷ declared i scalar ∷ [])
    (program (concurrent 3 (from_to i one two ∷ []) (Local.Reduce ReduceOp.Add (s ∷ []) ∷ [])
    (set_at 4 s (three ∷ []) (of s (three ∷ []) plus one plus (one over (var i minus var i))) ∷ []) ∷ []))
    ≡ codes "fault: DivideByZero: iteration (1): line 4" ++ 10 ∷ []
unfolding digits value_at cell_of put_at int_wrap
operands-before-subscripts = refl

-- Of two operands the first fault is told.
operands-from-the-left : judged (declared s (array_with 2 (pos 1 ∷ pos 1 ∷ [])) ∷ declared a (array 2) ∷ declared i scalar ∷ [])
    (program (concurrent 3 (from_to i one two ∷ []) (Local.Reduce ReduceOp.Add (s ∷ []) ∷ [])
    (set_at 4 s (one ∷ []) (of s (one ∷ []) plus of a (three ∷ []) plus (one over zero)) ∷ []) ∷ []))
    ≡ codes "fault: Subscript: iteration (1): line 4" ++ 10 ∷ []
unfolding digits value_at cell_of put_at int_wrap
operands-from-the-left = refl

-- The variable may be an element of an array, in each form of an update.
elements-of-a-reduction : judged (declared s (array_with 3 (pos 1 ∷ pos 1 ∷ pos 1 ∷ [])) ∷ declared i scalar ∷ [])
    (program
    (concurrent 3 (from_to i one three ∷ []) (Local.Reduce ReduceOp.Add (s ∷ []) ∷ [])
    (set_at 4 s (one ∷ []) (var i plus of s (one ∷ [])) ∷ set_at 5 s (var i ∷ []) (of s (var i ∷ []) plus ten) ∷ [])
    ∷ concurrent 7 (from_to i three four ∷ []) (Local.Reduce ReduceOp.Max (s ∷ []) ∷ [])
    (set_at 8 s (two ∷ []) (of (codes "max") (of s (two ∷ []) ∷ var i times three ∷ []))
    ∷ set_at 9 s (three ∷ []) (of (codes "max") (var i times two ∷ of s (three ∷ []) ∷ [])) ∷ [])
    ∷ print 11 (var s ∷ []) ∷ []))
    ≡ codes "17 12 11" ++ 10 ∷ []
unfolding digits value_at cell_of put_at int_wrap
elements-of-a-reduction = refl

-- Each operand is wrapped to the kind of the variable, before the values are combined.
operand-wraps : judged (declared s (numbers Kind.K1 [] (pos 0 ∷ [])) ∷ declared i scalar ∷ [])
    (sum_of ReduceOp.Max (set 5 s (of (codes "max") (var s ∷ var i plus num (codes "253") ∷ [])) ∷ []) (print 7 (var s ∷ []) ∷ []))
    ≡ codes "0" ++ 10 ∷ []
unfolding digits value_at cell_of put_at int_wrap
operand-wraps = refl

-- The same reductions in another order give the same.
reduced-in-order : ordered 1 s_and_i (sum_of ReduceOp.Mul (set 5 s (in_brackets (var i plus one) times var s) ∷ []) (print 7 (var s ∷ []) ∷ []))
    ≡ codes "18" ++ 10 ∷ []
unfolding digits value_at cell_of put_at int_wrap
reduced-in-order = refl

-- ---- masks

abbrev masked_twice : List Item
masked_twice =
    masked 3 (from_to i one four ∷ []) (joined Mark.Gt (of a (var i ∷ [])) zero) [] (set_at 4 a (var i ∷ []) zero ∷ [])
    ∷ concurrent 6 (from_to i three three ∷ []) [] (set_at 7 a (var i ∷ []) zero ∷ [])
    ∷ print 9 (var a ∷ []) ∷ []

-- The mask chooses the iterations.
mask-chooses : judged (declared a (array_with 4 (pos 1 ∷ pos 2 ∷ pos 0 ∷ pos 3 ∷ [])) ∷ declared i scalar ∷ []) (program masked_twice)
    ≡ codes "0 0 0 0" ++ 10 ∷ []
unfolding digits value_at cell_of put_at int_wrap
mask-chooses = refl

-- A fault of a mask is told with the values of its indexes.
mask-is-undefined : judged (declared a (array 4) ∷ declared i scalar ∷ []) (program masked_twice)
    ≡ codes "fault: Undefined: mask (1): line 3" ++ 10 ∷ []
unfolding digits value_at cell_of put_at int_wrap
mask-is-undefined = refl

-- All masks are evaluated before the first iteration, on the opening store.
masks-come-first : judged (declared a (array_with 2 (pos 1 ∷ pos 1 ∷ [])) ∷ declared i scalar ∷ [])
    (program (masked 3 (from_to i one two ∷ []) (joined Mark.Gt (of a (three minus var i ∷ [])) zero) [] (set_at 4 a (var i ∷ []) zero ∷ [])
    ∷ print 6 (var a ∷ []) ∷ []))
    ≡ codes "0 0" ++ 10 ∷ []
unfolding digits value_at cell_of put_at int_wrap
masks-come-first = refl

-- ---- headers

abbrev t_and_i : List Symbol
t_and_i = declared t scalar ∷ declared i scalar ∷ []

abbrev indexed : List Ranging → Source
indexed indexes = program (concurrent 3 indexes (Local.Shared (t ∷ []) ∷ []) (set 4 t (var i) ∷ []) ∷ [])

-- With a negative step the first iteration is that of the greatest value.
steps-down : judged t_and_i (indexed (by_step i four one (minus_of one) ∷ []))
    ≡ codes "race: t: iteration (4) defines at line 4, iteration (1) defines at line 4" ++ 10 ∷ []
unfolding digits value_at cell_of put_at int_wrap
steps-down = refl

-- A step of zero is a fault of the header.
step-of-zero : judged t_and_i (indexed (by_step i one four zero ∷ [])) ≡ codes "fault: StepZero: line 3" ++ 10 ∷ []
unfolding digits value_at cell_of put_at int_wrap
step-of-zero = refl

-- Of two indexes both values are told, in the order of the header.
two-indexes : judged (declared t scalar ∷ declared i scalar ∷ declared j scalar ∷ []) (indexed (from_to i one two ∷ from_to j one two ∷ []))
    ≡ codes "race: t: iteration (1,1) defines at line 4, iteration (2,2) defines at line 4" ++ 10 ∷ []
unfolding digits value_at cell_of put_at int_wrap
two-indexes = refl

-- More combinations than are allowed are a fault of the header.
too-many : judged (declared t scalar ∷ declared i scalar ∷ declared j scalar ∷ [])
    (indexed (from_to i one (num (codes "2049")) ∷ from_to j one (num (codes "2048")) ∷ []))
    ≡ codes "fault: TooManyIterations: line 3" ++ 10 ∷ []
unfolding digits value_at cell_of put_at int_wrap
too-many = refl

-- The first index varies fastest: of the combinations that meet a fault (2,1) is the first.
first-index-fastest : judged (declared t scalar ∷ declared i scalar ∷ declared j scalar ∷ [])
    (program
    (concurrent 3 (by_step i zero four two ∷ from_to j one two ∷ []) []
    (set 4 t (one over in_brackets (in_brackets (var i minus two) times in_brackets (var j minus two))) ∷ []) ∷ []))
    ≡ codes "fault: DivideByZero: iteration (2,1): line 4" ++ 10 ∷ []
unfolding digits value_at cell_of put_at int_wrap
first-index-fastest = refl

-- Limits and steps are wrapped to the kind of the index: with kind 1 the first value is -2.
limits-wrap : judged (declared s (scalar_with (pos 0)) ∷ [])
    (program (typed 3 (Some one) (from_to i (num (codes "254")) (num (codes "255")) ∷ []) None (Local.Reduce ReduceOp.Add (s ∷ []) ∷ [])
    (set 4 s (var s plus var i) ∷ [])
    ∷ print 6 (var s ∷ []) ∷ []))
    ≡ codes "-3" ++ 10 ∷ []
unfolding digits value_at cell_of put_at int_wrap
limits-wrap = refl

-- So they are wrapped to the kind of the declared variable.
limits-wrap-to-declared : judged (declared s (scalar_with (pos 0)) ∷ declared i (numbers Kind.K1 [] []) ∷ [])
    (program (concurrent 3 (from_to i (num (codes "254")) (num (codes "255")) ∷ []) (Local.Reduce ReduceOp.Add (s ∷ []) ∷ [])
    (set 4 s (var s plus var i) ∷ [])
    ∷ print 6 (var s ∷ []) ∷ []))
    ≡ codes "-3" ++ 10 ∷ []
unfolding digits value_at cell_of put_at int_wrap
limits-wrap-to-declared = refl

-- The index is an entity of the loop: the variable outside stays undefined.
index-is-no-variable : judged a_and_i
    (program (concurrent 3 (from_to i one two ∷ []) [] (set_at 4 a (var i ∷ []) (var i) ∷ []) ∷ print 6 (var a ∷ []) ∷ print 7 (var i ∷ []) ∷ []))
    ≡ codes "1 2" ++ 10 ∷ (codes "fault: Undefined: line 7" ++ 10 ∷ [])
unfolding digits value_at cell_of put_at int_wrap
index-is-no-variable = refl

-- Limits are evaluated from the left, and each index before the next one: the first fault is told.
limits-from-the-left : judged (declared a (array_with 2 (pos 1 ∷ pos 1 ∷ [])) ∷ declared i scalar ∷ declared j scalar ∷ [])
    (program (concurrent 3 (from_to i one (of a (three ∷ [])) ∷ from_to j (one over zero) one ∷ []) [] [] ∷ []))
    ≡ codes "fault: Subscript: line 3" ++ 10 ∷ []
unfolding digits value_at cell_of put_at int_wrap
limits-from-the-left = refl

-- A step of zero is a fault before the next index is looked at.
step-of-the-first-index : judged (declared i scalar ∷ declared j scalar ∷ [])
    (program (concurrent 3 (by_step i one two zero ∷ from_to j (one over zero) one ∷ []) [] [] ∷ []))
    ≡ codes "fault: StepZero: line 3" ++ 10 ∷ []
unfolding digits value_at cell_of put_at int_wrap
step-of-the-first-index = refl

-- The first limit comes before the last one, and that before the step.
first-limit-first : judged a_and_i (program (concurrent 3 (by_step i (of a (three ∷ [])) (one over zero) zero ∷ []) [] [] ∷ []))
    ≡ codes "fault: Subscript: line 3" ++ 10 ∷ []
unfolding digits value_at cell_of put_at int_wrap
first-limit-first = refl

-- The last limit comes before a step of zero.
last-limit-second : judged a_and_i (program (concurrent 3 (by_step i one (one over zero) zero ∷ []) [] [] ∷ []))
    ≡ codes "fault: DivideByZero: line 3" ++ 10 ∷ []
unfolding digits value_at cell_of put_at int_wrap
last-limit-second = refl

-- Too many combinations come before any mask.
count-before-masks : judged (declared a (array 2) ∷ declared i (numbers Kind.K8 [] []) ∷ [])
    (program (masked 3 (from_to i one (num (codes "4194305")) ∷ []) (joined Mark.Gt (of a (one ∷ [])) zero) [] [] ∷ []))
    ≡ codes "fault: TooManyIterations: line 3" ++ 10 ∷ []
unfolding digits value_at cell_of put_at int_wrap
count-before-masks = refl

-- A fault of a mask comes before that of a reduction that is undefined.
masks-before-reductions : judged (declared s scalar ∷ declared i scalar ∷ [])
    (program (masked 3 (from_to i one two ∷ []) (joined Mark.Gt (one over (var i minus two)) zero) (Local.Reduce ReduceOp.Add (s ∷ []) ∷ [])
    (set 4 s (var s plus one) ∷ []) ∷ []))
    ≡ codes "fault: DivideByZero: mask (2): line 3" ++ 10 ∷ []
unfolding digits value_at cell_of put_at int_wrap
masks-before-reductions = refl

-- ---- a whole program with several localities: a histogram

abbrev total : List ℕ
total = codes "total"

abbrev bins : List ℕ
bins = codes "bins"

abbrev bin : Tree
bin = of (codes "mod") (of v (var j ∷ []) ∷ ten ∷ [])

abbrev ten_zeros : List ℤ
ten_zeros = pos 0 ∷ pos 0 ∷ pos 0 ∷ pos 0 ∷ pos 0 ∷ pos 0 ∷ pos 0 ∷ pos 0 ∷ pos 0 ∷ pos 0 ∷ []

-- A loop that fills an array, and one whose mask and reductions make counts of it.
histogram : judged
    (declared n (Role.Constant false Kind.K4 (pos 10)) ∷ declared v (array 10) ∷ declared bins (numbers Kind.K4 ((pos 0, pos 9) ∷ []) ten_zeros)
    ∷ declared total (numbers Kind.K8 [] (pos 0 ∷ [])) ∷ declared i scalar ∷ [])
    (program
    (concurrent 8 (from_to i one (var n) ∷ []) (Local.DefaultNone ∷ Local.Shared (v ∷ []) ∷ [])
    (set_at 9 v (var i ∷ []) (of (codes "modulo") (var i times var i ∷ num (codes "97") ∷ [])) ∷ [])
    ∷ typed 11 None (from_to j one (var n) ∷ []) (Some (joined Mark.Lt (of v (var j ∷ [])) (num (codes "50"))))
    (Local.DefaultNone ∷ Local.Shared (v ∷ []) ∷ Local.Reduce ReduceOp.Add (bins ∷ total ∷ []) ∷ [])
    (set_at 13 bins (bin ∷ []) (of bins (bin ∷ []) plus one) ∷ set 14 total (var total plus of v (var j ∷ [])) ∷ [])
    ∷ print 16 (var total ∷ var bins ∷ []) ∷ []))
    ≡ codes "143 0 1 0 1 1 1 2 0 0 2" ++ 10 ∷ []
unfolding digits value_at cell_of put_at int_wrap
histogram = refl
