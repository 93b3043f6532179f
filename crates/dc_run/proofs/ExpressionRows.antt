-- Expressions: operators, kinds, the functions of the language, and the order of evaluation.
use Rattle.std.proofs.Common.{◌≡◌, ℕ, List, [], ◌∷◌, false, refl}
use Rattle.std.specs.Prelude.{◌++◌, codes, pos, negsuc}
use Rattle.std.specs.Fmt.{digits}
use Rattle.std.specs.Int.{int_wrap}
use Rattle.dc_int.specs.declared.kind.Kind.{Kind}
use Rattle.dc_int.specs.Store.{value_at, cell_of, put_at}
use Rattle.dc_tree.specs.declared.symbols.Role.{Role}
use Rattle.dc_tree.specs.declared.symbols.Symbol.{Symbol}
use Rattle.dc_tree.specs.declared.token.Mark.{Mark}
use Rattle.dc_tree.specs.declared.token.Suffix.{Suffix}
use Rattle.dc_tree.specs.Syntax as syntax
use Rattle.dc_tree.specs.Syntax.{Tree}
use Rattle.dc_meaning.proofs.Sources.{a, b, f, m, n, q, t, u, num, num_of_kind, zero, one, two, three, four, nine, ten, yes, no, literal, var, of, of_kind, ◌plus◌, ◌minus◌, ◌over◌, joined, minus_of, not_of, in_brackets, set, set_at, print, numbers, truths, scalar, scalar_with, array, array_with, declared, program}
use Rattle.dc_run.proofs.Telling.{judged}

-- ---- what expressions are made of

abbrev big : List ℕ
big = codes "big"

-- four variables of the four kinds, a truth, a named constant, arrays, and an empty array
abbrev variables : List Symbol
variables =
    declared b (numbers Kind.K1 [] (pos 100 ∷ []))
    ∷ declared (codes "h") (numbers Kind.K2 [] (negsuc 2 ∷ []))
    ∷ declared n (scalar_with (pos 0))
    ∷ declared big (numbers Kind.K8 [] (pos 2147483647 ∷ []))
    ∷ declared q (truths [] (pos 1 ∷ []))
    ∷ declared (codes "wide") (Role.Constant false Kind.K4 (pos 8))
    ∷ declared a (array_with 3 (pos 3 ∷ negsuc 0 ∷ pos 4 ∷ []))
    ∷ declared m (numbers Kind.K1 ((negsuc 0, pos 1) ∷ (pos 2, pos 3) ∷ []) (pos 100 ∷ pos 100 ∷ pos 1 ∷ pos 1 ∷ pos 1 ∷ pos 1 ∷ []))
    ∷ declared f (truths ((pos 1, pos 3) ∷ []) (pos 1 ∷ pos 0 ∷ pos 1 ∷ []))
    ∷ declared (codes "empty") (numbers Kind.K4 ((pos 5, pos 2) ∷ []) [])
    ∷ declared u scalar
    ∷ declared t (array 2)
    ∷ []

abbrev h : Tree
h = var (codes "h")

abbrev prints : List Tree → List ℕ
prints trees = judged variables (program (print 2 trees ∷ []))

abbrev power : Tree → Tree → Tree
power left right = joined Mark.Power left right

-- ---- operators

-- A sign binds more loosely than a power; division goes toward zero; a negative power is one over the power.
operators : prints
    (minus_of (power two two) ∷ num (codes "7") over in_brackets (minus_of two)
    ∷ of (codes "mod") (minus_of (num (codes "7")) ∷ three ∷ []) ∷ of (codes "modulo") (minus_of (num (codes "7")) ∷ three ∷ [])
    ∷ power two (in_brackets (minus_of three)) ∷ joined Mark.Or (joined Mark.Gt one two) yes ∷ [])
    ≡ codes "-4 -3 -1 2 0 T" ++ 10 ∷ []
unfolding digits value_at cell_of put_at int_wrap
operators = refl

-- A variable and a literal.
variable-and-literal : judged (declared (codes "alpha") scalar ∷ [])
    (program (set 2 (codes "alpha") (num (codes "42")) ∷ print 4 (var (codes "alpha") ∷ literal (codes "it's") ∷ []) ∷ []))
    ≡ codes "42 it's" ++ 10 ∷ []
unfolding digits value_at cell_of put_at int_wrap
variable-and-literal = refl

-- The six relations.
relations : prints
    (joined Mark.Eq one one ∷ joined Mark.Ne one one ∷ joined Mark.Lt one one ∷ joined Mark.Le one one ∷ joined Mark.Gt two one
    ∷ joined Mark.Ge one two ∷ joined Mark.Lt one two ∷ joined Mark.Gt one one ∷ [])
    ≡ codes "T F F T T F T F" ++ 10 ∷ []
unfolding digits value_at cell_of put_at int_wrap
relations = refl

-- The operators on truths.
truths-joined : prints
    (joined Mark.And yes no ∷ joined Mark.Or no no ∷ joined Mark.Eqv no no ∷ joined Mark.Neqv yes yes ∷ not_of yes ∷ joined Mark.And yes (var q)
    ∷ joined Mark.Neqv yes no ∷ joined Mark.Eqv yes no ∷ [])
    ≡ codes "F F T F F T T F" ++ 10 ∷ []
unfolding digits value_at cell_of put_at int_wrap
truths-joined = refl

-- ---- kinds

-- Each operation wraps to the wider of its kinds: 1 and 1, 1 and 4, 4 and 4, 8 and 4.
kinds-joined : prints
    (var b plus var b ∷ var b plus num (codes "100") ∷ num (codes "2147483647") plus one ∷ var big plus one
    ∷ num_of_kind (codes "1") (codes "127") plus num_of_kind (codes "1") (codes "1") ∷ [])
    ≡ codes "-56 200 -2147483648 2147483648 -128" ++ 10 ∷ []
unfolding digits value_at cell_of put_at int_wrap
kinds-joined = refl

-- A suffix may be a named constant. A sign wraps at the kind of its operand.
kinds-named : prints
    (syntax.number (codes "2147483647") (Suffix.Named (codes "wide")) plus one
    ∷ minus_of (minus_of (num_of_kind (codes "1") (codes "127")) minus num_of_kind (codes "1") (codes "1")) ∷ var (codes "wide") ∷ [])
    ≡ codes "2147483648 -128 8" ++ 10 ∷ []
unfolding digits value_at cell_of put_at int_wrap
kinds-named = refl

-- INT converts with wrapping, to kind 4 or to the kind that is named.
converted : prints
    (of (codes "int") (num (codes "300") ∷ one ∷ []) ∷ of_kind (codes "int") (num (codes "300")) one ∷ of (codes "int") (var big plus one ∷ [])
    ∷ of_kind (codes "int") (var b) two plus of_kind (codes "int") (var b) one ∷ of_kind (codes "int") (var b) one plus var b ∷ [])
    ≡ codes "44 44 -2147483648 200 -56" ++ 10 ∷ []
unfolding digits value_at cell_of put_at int_wrap
converted = refl

-- HUGE, BIT_SIZE and KIND ask about the kind, and don't evaluate what they ask about.
about-kinds : prints
    (of (codes "huge") (var b ∷ []) ∷ of (codes "huge") (var u ∷ []) ∷ of (codes "bit_size") (h ∷ []) ∷ of (codes "kind") (var big ∷ [])
    ∷ of (codes "kind") (of a (nine ∷ []) ∷ []) ∷ of (codes "kind") (var b plus h ∷ []) ∷ [])
    ≡ codes "127 2147483647 16 8 4 2" ++ 10 ∷ []
unfolding digits value_at cell_of put_at int_wrap
about-kinds = refl

-- ---- functions

-- The functions of numbers, and MERGE.
of-numbers : prints
    (of (codes "abs") (h ∷ []) ∷ of (codes "sign") (four ∷ minus_of three ∷ []) ∷ of (codes "dim") (two ∷ nine ∷ [])
    ∷ of (codes "dim") (nine ∷ two ∷ [])
    ∷ of (codes "min") (four ∷ minus_of three ∷ two ∷ []) ∷ of (codes "max") (four ∷ nine ∷ two ∷ []) ∷ of (codes "merge") (one ∷ two ∷ var q ∷ [])
    ∷ of (codes "merge") (one ∷ two ∷ no ∷ []) ∷ [])
    ≡ codes "3 -4 0 7 -3 9 1 2" ++ 10 ∷ []
unfolding digits value_at cell_of put_at int_wrap
of-numbers = refl

-- The functions of bits; the pattern of a negative number has the bits of its kind.
of-bits : prints
    (of (codes "iand") (num (codes "12") ∷ ten ∷ []) ∷ of (codes "ior") (num (codes "12") ∷ ten ∷ [])
    ∷ of (codes "ieor") (num (codes "12") ∷ ten ∷ []) ∷ of (codes "not") (zero ∷ [])
    ∷ of (codes "ishft") (one ∷ four ∷ []) ∷ of (codes "ishft") (num (codes "16") ∷ minus_of two ∷ []) ∷ of (codes "shiftl") (three ∷ two ∷ [])
    ∷ of (codes "shiftr") (minus_of one ∷ num (codes "28") ∷ [])
    ∷ of (codes "shifta") (minus_of nine ∷ one ∷ []) ∷ of (codes "ibset") (one ∷ three ∷ []) ∷ of (codes "ibclr") (nine ∷ three ∷ [])
    ∷ of (codes "popcnt") (minus_of one ∷ []) ∷ of (codes "popcnt") (minus_of (num_of_kind (codes "1") (codes "1")) ∷ []) ∷ [])
    ≡ codes "8 14 6 -1 16 4 12 15 -5 9 1 32 8" ++ 10 ∷ []
unfolding digits value_at cell_of put_at int_wrap
of-bits = refl

-- POPCNT is of kind 4, whatever its argument is.
kind-of-popcnt : prints (of (codes "popcnt") (var b ∷ []) plus num (codes "127") ∷ of (codes "kind") (of (codes "popcnt") (var b ∷ []) ∷ []) ∷ [])
    ≡ codes "130 4" ++ 10 ∷ []
unfolding digits value_at cell_of put_at int_wrap
kind-of-popcnt = refl

-- A shift by more places than the kind has bits.
out-of-range-shift : prints (of (codes "shiftl") (var b ∷ nine ∷ []) ∷ []) ≡ codes "fault: ShiftRange: line 2" ++ 10 ∷ []
unfolding digits value_at cell_of put_at int_wrap
out-of-range-shift = refl

-- ---- arrays

-- SIZE, LBOUND and UBOUND, along each dimension; an empty dimension has the bounds 1 and 0.
about-arrays : prints
    (of (codes "size") (var m ∷ []) ∷ of (codes "size") (var m ∷ one ∷ []) ∷ of (codes "size") (var m ∷ two ∷ [])
    ∷ of (codes "lbound") (var m ∷ one ∷ []) ∷ of (codes "ubound") (var m ∷ one ∷ [])
    ∷ of (codes "lbound") (var m ∷ two ∷ []) ∷ of (codes "ubound") (var m ∷ two ∷ []) ∷ of (codes "size") (var (codes "empty") ∷ [])
    ∷ of (codes "lbound") (var (codes "empty") ∷ one ∷ []) ∷ of (codes "ubound") (var (codes "empty") ∷ one ∷ []) ∷ [])
    ≡ codes "6 3 2 -1 1 2 3 0 1 0" ++ 10 ∷ []
unfolding digits value_at cell_of put_at int_wrap
about-arrays = refl

-- Bounds may be greater than kind 4 has; what is told of them is wrapped to it.
bounds-wrap : judged (declared a (numbers Kind.K4 ((pos 5000000000, pos 5000000001) ∷ []) []) ∷ [])
    (program (print 3
    (of (codes "lbound") (var a ∷ one ∷ []) ∷ of (codes "ubound") (var a ∷ one ∷ []) ∷ of (codes "size") (var a ∷ []) ∷ []) ∷ []))
    ≡ codes "705032704 705032705 2" ++ 10 ∷ []
unfolding digits value_at cell_of put_at int_wrap
bounds-wrap = refl

-- An array with one empty dimension has no element. The bounds 1 and 0 are those of that dimension alone.
empty-beside-full : judged (declared a (numbers Kind.K4 ((pos 5, pos 2) ∷ (pos 3, pos 4) ∷ []) []) ∷ [])
    (program
    (print 3 (of (codes "size") (var a ∷ []) ∷ of (codes "size") (var a ∷ one ∷ []) ∷ of (codes "size") (var a ∷ two ∷ []) ∷ [])
    ∷ print 4
    (of (codes "lbound") (var a ∷ one ∷ []) ∷ of (codes "ubound") (var a ∷ one ∷ []) ∷ of (codes "lbound") (var a ∷ two ∷ [])
    ∷ of (codes "ubound") (var a ∷ two ∷ []) ∷ []) ∷ []))
    ≡ codes "0 0 2" ++ 10 ∷ (codes "1 0 3 4" ++ 10 ∷ [])
unfolding digits value_at cell_of put_at int_wrap
empty-beside-full = refl

-- They read no element; SUM reads all, and wraps at the kind of the array.
sums : prints (of (codes "size") (var t ∷ []) ∷ of (codes "sum") (var a ∷ []) ∷ of (codes "sum") (var m ∷ [])
    ∷ of (codes "sum") (var (codes "empty") ∷ []) ∷ [])
    ≡ codes "2 6 -52 0" ++ 10 ∷ []
unfolding digits value_at cell_of put_at int_wrap
sums = refl

-- SUM refers to each element.
sum-of-undefined : prints (of (codes "sum") (var t ∷ []) ∷ []) ≡ codes "fault: Undefined: line 2" ++ 10 ∷ []
unfolding digits value_at cell_of put_at int_wrap
sum-of-undefined = refl

-- SUM is of the kind of its array, and COUNT of kind 4.
kinds-of-sums : prints
    (of (codes "kind") (of (codes "sum") (var m ∷ []) ∷ []) ∷ of (codes "kind") (of (codes "count") (var f ∷ []) ∷ [])
    ∷ of (codes "kind") (of (codes "size") (var m ∷ []) ∷ []) ∷ [])
    ≡ codes "1 4 4" ++ 10 ∷ []
unfolding digits value_at cell_of put_at int_wrap
kinds-of-sums = refl

-- COUNT, ANY and ALL.
of-truths : prints (of (codes "count") (var f ∷ []) ∷ of (codes "any") (var f ∷ []) ∷ of (codes "all") (var f ∷ []) ∷ of f (two ∷ []) ∷ [])
    ≡ codes "2 T F F" ++ 10 ∷ []
unfolding digits value_at cell_of put_at int_wrap
of-truths = refl

-- Of an empty array none is true, and all are.
of-no-truths : judged (declared q (truths ((pos 1, pos 0) ∷ []) []) ∷ [])
    (program (print 3 (of (codes "any") (var q ∷ []) ∷ of (codes "all") (var q ∷ []) ∷ of (codes "count") (var q ∷ []) ∷ []) ∷ []))
    ≡ codes "F T 0" ++ 10 ∷ []
unfolding digits value_at cell_of put_at int_wrap
of-no-truths = refl

-- ANY refers to each element, also where one before it is true.
any-of-undefined : judged (declared q (truths ((pos 1, pos 2) ∷ []) []) ∷ [])
    (program (set_at 3 q (one ∷ []) yes ∷ print 4 (of q (one ∷ []) ∷ []) ∷ print 5 (of (codes "any") (var q ∷ []) ∷ []) ∷ []))
    ≡ codes "T" ++ 10 ∷ (codes "fault: Undefined: line 5" ++ 10 ∷ [])
unfolding digits value_at cell_of put_at int_wrap
any-of-undefined = refl

-- So does ALL, where one before it is false.
all-of-undefined : judged (declared q (truths ((pos 1, pos 2) ∷ []) []) ∷ [])
    (program (set_at 3 q (one ∷ []) no ∷ print 4 (of (codes "all") (var q ∷ []) ∷ []) ∷ []))
    ≡ codes "fault: Undefined: line 4" ++ 10 ∷ []
unfolding digits value_at cell_of put_at int_wrap
all-of-undefined = refl

-- ---- faults, and the order of evaluation

-- Operands are evaluated from the left: the first fault is told.
left-operand-first : prints (of a (nine ∷ []) plus (one over var n) ∷ []) ≡ codes "fault: Subscript: line 2" ++ 10 ∷ []
unfolding digits value_at cell_of put_at int_wrap
left-operand-first = refl

-- The other way about it is the other fault.
right-operand-second : prints ((one over var n) plus of a (nine ∷ []) ∷ []) ≡ codes "fault: DivideByZero: line 2" ++ 10 ∷ []
unfolding digits value_at cell_of put_at int_wrap
right-operand-second = refl

-- Arguments are evaluated from the left.
arguments-from-the-left : prints (of (codes "max") (of a (nine ∷ []) ∷ one over var n ∷ []) ∷ []) ≡ codes "fault: Subscript: line 2" ++ 10 ∷ []
unfolding digits value_at cell_of put_at int_wrap
arguments-from-the-left = refl

-- Subscripts are evaluated from the left.
subscripts-from-the-left : prints (of m (one over var n ∷ of a (nine ∷ []) ∷ []) ∷ []) ≡ codes "fault: DivideByZero: line 2" ++ 10 ∷ []
unfolding digits value_at cell_of put_at int_wrap
subscripts-from-the-left = refl

-- Items of a PRINT are evaluated from the left.
items-from-the-left : prints (var u ∷ one over var n ∷ []) ≡ codes "fault: Undefined: line 2" ++ 10 ∷ []
unfolding digits value_at cell_of put_at int_wrap
items-from-the-left = refl

-- Both operands of `.and.` and `.or.` are evaluated.
both-operands : prints (joined Mark.And no (joined Mark.Eq (one over var n) one) ∷ []) ≡ codes "fault: DivideByZero: line 2" ++ 10 ∷ []
unfolding digits value_at cell_of put_at int_wrap
both-operands = refl

-- All arguments of MERGE are evaluated.
all-of-merge : prints (of (codes "merge") (one ∷ one over var n ∷ yes ∷ []) ∷ []) ≡ codes "fault: DivideByZero: line 2" ++ 10 ∷ []
unfolding digits value_at cell_of put_at int_wrap
all-of-merge = refl

-- Zero to the power zero is 1, to a negative power it is a zero divisor.
powers-of-zero : prints (power zero zero ∷ power zero (in_brackets (minus_of one)) ∷ []) ≡ codes "fault: DivideByZero: line 2" ++ 10 ∷ []
unfolding digits value_at cell_of put_at int_wrap
powers-of-zero = refl

-- Alone the first of them is printed.
zero-to-zero : prints (power zero zero ∷ []) ≡ codes "1" ++ 10 ∷ []
unfolding digits value_at cell_of put_at int_wrap
zero-to-zero = refl
