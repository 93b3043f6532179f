-- Loops in an order that isn't judged, orders for loops inside others, and the loops that a run reaches.
use Rattle.std.proofs.Common.{◌≡◌, ℕ, List, [], ◌∷◌, None, refl}
use Rattle.std.specs.Prelude.{◌++◌, codes, pos, negsuc}
use Rattle.std.specs.Fmt.{digits}
use Rattle.std.specs.Int.{int_wrap}
use Rattle.dc_int.specs.declared.access.ElementId.{ElementId}
use Rattle.dc_int.specs.declared.operation.ReduceOp.{ReduceOp}
use Rattle.dc_int.specs.Entries.{Entry, Reads, Defines, Undefines, Contributes}
use Rattle.dc_int.specs.Store.{value_at, cell_of, put_at}
use Rattle.dc_code.specs.Inner.{judging, in_order, nested_loop, greatest_depth}
use Rattle.dc_code.specs.Loops.{Orders, Passage, Loop, order}
use Rattle.dc_tree.specs.declared.stmt.Intent.{Intent}
use Rattle.dc_tree.specs.declared.stmt.Local.{Local}
use Rattle.dc_tree.specs.declared.symbols.Role.{Role}
use Rattle.dc_tree.specs.declared.symbols.Symbol.{Symbol}
use Rattle.dc_tree.specs.Blocks.{Item, Source}
use Rattle.dc_meaning.specs.Programs.{program_forms, first_store}
use Rattle.dc_meaning.proofs.Sources.{a, b, i, j, n, s, t, u, x, zero, one, two, three, four, nine, var, of, ◌plus◌, ◌minus◌, ◌times◌, ◌over◌, in_brackets, set, set_at, print, call, from_to, by_step, concurrent, counted, scalar, scalar_with, array, array_with, declared, declared_in, dummy, subprogram, program, program_with}
use Rattle.dc_run.proofs.Telling.{judged, ordered}

-- ---- orders by number

-- Each iteration keeps the number of the one before it.
abbrev following : Source
following = program (concurrent 3 (from_to i one four ∷ []) [] (set_at 4 a (var i ∷ []) (var n) ∷ set 5 n (var i) ∷ []) ∷ print 7 (var a ∷ []) ∷ [])

abbrev a_n_and_i : List Symbol
a_n_and_i = declared a (array 4) ∷ declared n (scalar_with (pos 0)) ∷ declared i scalar ∷ []

-- An even number begins further on and goes round.
order-two : ordered 2 a_n_and_i following ≡ codes "4 0 2 3" ++ 10 ∷ []
unfolding digits value_at cell_of put_at int_wrap
order-two = refl

-- An odd number takes the same order backward.
order-three : ordered 3 a_n_and_i following ≡ codes "0 3 4 1" ++ 10 ∷ []
unfolding digits value_at cell_of put_at int_wrap
order-three = refl

-- A number beyond twice the iterations counts round.
order-ten : ordered 10 a_n_and_i following ≡ codes "4 0 2 3" ++ 10 ∷ []
unfolding digits value_at cell_of put_at int_wrap
order-ten = refl

-- Judged, it is a race. All read and define n: the first toucher is named with the last reader.
following-races : judged a_n_and_i following ≡ codes "race: n: iteration (1) defines at line 5, iteration (4) reads at line 4" ++ 10 ∷ []
unfolding digits value_at cell_of put_at int_wrap
following-races = refl

-- The loop leaves the main program its turns.
order-leaves-turns : ordered 1 a_n_and_i
    (program (concurrent 2 (from_to i one two ∷ []) [] (set_at 3 a (var i ∷ []) one ∷ []) ∷ counted 5 None (from_to n one two) []
    ∷ print 7 (var n ∷ []) ∷ []))
    ≡ codes "3" ++ 10 ∷ []
unfolding digits value_at cell_of put_at int_wrap
order-leaves-turns = refl

-- A fault of the header is told as where loops are judged, and a loop without iterations ends.
order-of-a-bad-header : ordered 1 a_n_and_i
    (program (concurrent 3 (from_to i one zero ∷ []) [] [] ∷ concurrent 5 (by_step i one two zero ∷ []) [] [] ∷ []))
    ≡ codes "fault: StepZero: line 5" ++ 10 ∷ []
unfolding digits value_at cell_of put_at int_wrap
order-of-a-bad-header = refl

-- ---- loops inside, in an order that isn't judged

abbrev over_i_and_j : List Item → Source
over_i_and_j items = program
    (concurrent 3 (from_to i one two ∷ []) [] (concurrent 4 (from_to j two three ∷ []) [] items ∷ []) ∷ print 7 (var a ∷ []) ∷ [])

abbrev a_i_and_j : List Symbol
a_i_and_j = declared a (array_with 3 (pos 5 ∷ pos 0 ∷ pos 0 ∷ [])) ∷ declared i scalar ∷ declared j scalar ∷ []

-- What one inner iteration defines the next one reads.
abbrev inner_shift : Source
inner_shift = program
    (concurrent 3 (from_to i one one ∷ []) []
    (concurrent 4 (from_to j two three ∷ []) [] (set_at 5 a (var j ∷ []) (of a (var j minus one ∷ []) plus one) ∷ []) ∷ [])
    ∷ print 8 (var a ∷ []) ∷ [])

-- A loop inside runs in the order of the same number, and a race there is not looked for.
inner-ascending : ordered 0 a_i_and_j inner_shift ≡ codes "5 6 7" ++ 10 ∷ []
unfolding digits value_at cell_of put_at int_wrap
inner-ascending = refl

-- In the order 1 it descends as the loop around does.
inner-descending : ordered 1 a_i_and_j inner_shift ≡ codes "5 6 1" ++ 10 ∷ []
unfolding digits value_at cell_of put_at int_wrap
inner-descending = refl

-- Both inner iterations of the second iteration meet a fault.
abbrev faulty : Source
faulty = over_i_and_j (set_at 5 a (var j ∷ []) (one over in_brackets (var i minus two)) ∷ [])

-- The first iteration of the order that ends badly is told.
inner-fault-descending : ordered 1 a_i_and_j faulty ≡ codes "fault: DivideByZero: iteration (2)/(3): line 5" ++ 10 ∷ []
unfolding digits value_at cell_of put_at int_wrap
inner-fault-descending = refl

-- Where loops are judged, the least one is told.
inner-fault-judged : judged a_i_and_j faulty ≡ codes "fault: DivideByZero: iteration (2)/(2): line 5" ++ 10 ∷ []
unfolding digits value_at cell_of put_at int_wrap
inner-fault-judged = refl

-- A loop inside leaves the iteration around its turns.
inner-order-leaves-turns : ordered 1 (declared n scalar ∷ a_i_and_j)
    (program
    (concurrent 2 (from_to i one one ∷ []) []
    (concurrent 3 (from_to j one two ∷ []) [] (set_at 4 a (var j ∷ []) one ∷ []) ∷ counted 6 None (from_to n one two) [] ∷ [])
    ∷ print 9 (var a ∷ var n ∷ []) ∷ []))
    ≡ codes "1 1 0 3" ++ 10 ∷ []
unfolding digits value_at cell_of put_at int_wrap
inner-order-leaves-turns = refl

-- Contributions pass on, and a temporary is undefined behind the loop, in every order.
inner-reduction-descending : ordered 1 (declared s (scalar_with (pos 0)) ∷ declared t scalar ∷ declared i scalar ∷ declared j scalar ∷ [])
    (program
    (concurrent 3 (from_to i one three ∷ []) (Local.Reduce ReduceOp.Add (s ∷ []) ∷ [])
    (concurrent 4 (from_to j one four ∷ []) (Local.Reduce ReduceOp.Add (s ∷ []) ∷ [])
    (set 5 t (var j) ∷ set 6 s (var s plus var i times var t) ∷ []) ∷ [])
    ∷ print 9 (var s ∷ []) ∷ print 10 (var t ∷ []) ∷ []))
    ≡ codes "60" ++ 10 ∷ (codes "fault: Undefined: line 10" ++ 10 ∷ [])
unfolding digits value_at cell_of put_at int_wrap
inner-reduction-descending = refl

-- ---- orders handed to a block

-- The first loop of a source, judged, and what its block does with orders for the loops inside.
abbrev loop_of : List Symbol → Source → Loop
loop_of symbols source = nested_loop judging (program_forms symbols source 1000) greatest_depth 0 []

abbrev block : List Symbol → Source → Orders → Passage
block symbols source orders = (loop_of symbols source).block (first_store symbols) orders (pos 1 ∷ [])

abbrev at : ℕ → ℕ → ElementId
at variable position = record { variable = variable; position = position }

-- Two inner iterations with a temporary, each with an element that it reads and one that it defines.
abbrev inner_symbols : List Symbol
inner_symbols = declared a (array 2) ∷ declared t scalar ∷ declared b (array_with 2 (pos 7 ∷ pos 8 ∷ [])) ∷ declared i scalar ∷ declared j scalar ∷ []

abbrev inner_sums : Source
inner_sums = program
    (concurrent 3 (from_to i one two ∷ []) []
    (concurrent 4 (from_to j one two ∷ []) [] (set 5 t (var j) ∷ set_at 6 a (var j ∷ []) (of b (var j ∷ []) plus var t) ∷ []) ∷ []) ∷ [])

abbrev first_iteration : List Entry
first_iteration =
    Defines (at 1 0) (pos 1) 5 ∷ Reads (at 2 0) 6 ∷ Reads (at 1 0) 6 ∷ Defines (at 0 0) (pos 8) 6 ∷ Defines (at 1 0) (pos 1) 4
    ∷ Defines (at 0 0) (pos 8) 4 ∷ []

abbrev second_iteration : List Entry
second_iteration =
    Defines (at 1 0) (pos 2) 5 ∷ Reads (at 2 1) 6 ∷ Reads (at 1 0) 6 ∷ Defines (at 0 1) (pos 10) 6 ∷ Defines (at 1 0) (pos 2) 4
    ∷ Defines (at 0 1) (pos 10) 4 ∷ []

-- The block has the exposed reads of all inner iterations, then the first accesses and the last states of each, and then
-- the temporary becomes undefined.
block-entries : (block inner_symbols inner_sums []).entries
    ≡ Reads (at 2 0) 6 ∷ Reads (at 2 1) 6 ∷ (first_iteration ++ (second_iteration ++ Undefines (at 1 0) 4 ∷ []))
unfolding digits value_at cell_of put_at int_wrap
block-entries = refl

-- With an order for the inner loop they come in that order; the order is taken off.
block-entries-backward : (block inner_symbols inner_sums ((1 ∷ 0 ∷ []) ∷ [])).entries
    ≡ Reads (at 2 1) 6 ∷ Reads (at 2 0) 6 ∷ (second_iteration ++ (first_iteration ++ Undefines (at 1 0) 4 ∷ []))
unfolding digits value_at cell_of put_at int_wrap
block-entries-backward = refl

-- The loop inside takes one order, and leaves the others.
order-is-taken-off : (block inner_symbols inner_sums ((1 ∷ 0 ∷ []) ∷ (5 ∷ []) ∷ [])).orders ≡ (5 ∷ []) ∷ []
unfolding digits value_at cell_of put_at int_wrap
order-is-taken-off = refl

-- What is no order of the iterations is taken off too, and they ascend.
no-order : block inner_symbols inner_sums ((1 ∷ 1 ∷ []) ∷ []) ≡ block inner_symbols inner_sums ((0 ∷ 1 ∷ []) ∷ [])
unfolding digits value_at cell_of put_at int_wrap
no-order = refl

-- Nor is a list with more numbers an order of them.
order-of-others : (block inner_symbols inner_sums ((1 ∷ 0 ∷ 2 ∷ []) ∷ (0 ∷ []) ∷ [])).entries ≡ (block inner_symbols inner_sums []).entries
unfolding digits value_at cell_of put_at int_wrap
order-of-others = refl

-- The orders go on from each iteration to the next.
orders-go-on : (order (loop_of inner_symbols inner_sums) ((1 ∷ 0 ∷ []) ∷ (0 ∷ 1 ∷ []) ∷ (5 ∷ []) ∷ []) (first_store inner_symbols)
    ((pos 1 ∷ []) ∷ (pos 2 ∷ []) ∷ [])).orders ≡ (5 ∷ []) ∷ []
unfolding digits value_at cell_of put_at int_wrap
orders-go-on = refl

-- The first iteration has the order, and for the second none is left.
orders-in-turn : (order (loop_of inner_symbols inner_sums) ((1 ∷ 0 ∷ []) ∷ []) (first_store inner_symbols) ((pos 1 ∷ []) ∷ (pos 2 ∷ []) ∷ [])).runs
    ≡ (Reads (at 2 1) 6 ∷ Reads (at 2 0) 6 ∷ (second_iteration ++ (first_iteration ++ Undefines (at 1 0) 4 ∷ [])))
    ∷ (Reads (at 2 0) 6 ∷ Reads (at 2 1) 6 ∷ (first_iteration ++ (second_iteration ++ Undefines (at 1 0) 4 ∷ []))) ∷ []
unfolding digits value_at cell_of put_at int_wrap
orders-in-turn = refl

-- The second inner iteration ends badly.
abbrev until_bad : Source
until_bad = program
    (concurrent 3 (from_to i one two ∷ []) []
    (concurrent 4 (from_to j one three ∷ []) []
    (set 5 t (var j) ∷ set_at 6 a (one ∷ []) (nine over in_brackets (var t minus two) plus of b (one ∷ [])) ∷ []) ∷ []) ∷ [])

-- Where an inner iteration ends badly, the block has what the iterations up to and including it did, and no more.
entries-until-bad : (block inner_symbols until_bad ((2 ∷ 1 ∷ 0 ∷ []) ∷ [])).entries
    ≡ Reads (at 2 0) 6 ∷ Defines (at 1 0) (pos 1) 5 ∷ Reads (at 1 0) 6 ∷ Reads (at 2 0) 6 ∷ Defines (at 0 0) (negsuc 1) 6
    ∷ Defines (at 1 0) (pos 1) 4 ∷ Defines (at 0 0) (negsuc 1) 4 ∷ Defines (at 1 0) (pos 2) 5 ∷ Reads (at 1 0) 6 ∷ Defines (at 1 0) (pos 2) 4 ∷ []
unfolding digits value_at cell_of put_at int_wrap
entries-until-bad = refl

-- The first touch of an element that is undefined in the end is told as a definition by 0.
cleared : (block (declared t scalar ∷ declared i scalar ∷ declared j scalar ∷ declared s (Role.Subroutine 1)
    ∷ declared_in 1 x (dummy 0 Intent.Out) ∷ [])
    (program_with (concurrent 3 (from_to i one two ∷ []) []
    (concurrent 4 (from_to j one one ∷ []) [] (set 5 t (var j) ∷ call 6 s (var t ∷ []) ∷ []) ∷ []) ∷ []) (subprogram [] ∷ [])) []).entries
    ≡ Defines (at 0 0) (pos 0) 5 ∷ Undefines (at 0 0) 4 ∷ []
unfolding digits value_at cell_of put_at int_wrap
cleared = refl

-- What a header evaluates comes first: limits, masks, copies, and the elements of a reduction, each in store order.
header-entries : (block
    (declared s (scalar_with (pos 1)) ∷ declared t scalar ∷ declared n (scalar_with (pos 1)) ∷ declared i scalar ∷ declared j scalar
    ∷ declared x (scalar_with (pos 2)) ∷ [])
    (program (concurrent 3 (from_to i one two ∷ []) []
    (concurrent 4 (from_to j one (var n) ∷ []) (Local.Reduce ReduceOp.Add (x ∷ s ∷ []) ∷ Local.Inits (t ∷ []) ∷ [])
    (set 5 x (var x plus one) ∷ set 6 s (var s plus two) ∷ []) ∷ []) ∷ [])) []).entries
    ≡ Reads (at 2 0) 4 ∷ Reads (at 1 0) 4 ∷ Reads (at 0 0) 4 ∷ Reads (at 5 0) 4 ∷ Defines (at 0 0) (pos 3) 4 ∷ Defines (at 5 0) (pos 3) 4 ∷ []
unfolding digits value_at cell_of put_at int_wrap
header-entries = refl

-- Contributions pass to the loop around, which alone reads the variable.
passed-on-entries : (block (declared s (scalar_with (pos 1)) ∷ declared i scalar ∷ declared j scalar ∷ [])
    (program
    (concurrent 3 (from_to i one two ∷ []) (Local.Reduce ReduceOp.Add (s ∷ []) ∷ [])
    (concurrent 4 (from_to j one two ∷ []) (Local.Reduce ReduceOp.Add (s ∷ []) ∷ []) (set 5 s (var s plus var j) ∷ []) ∷ []) ∷ [])) []).entries
    ≡ Contributes (at 0 0) ReduceOp.Add (pos 1) ∷ Contributes (at 0 0) ReduceOp.Add (pos 2) ∷ []
unfolding digits value_at cell_of put_at int_wrap
passed-on-entries = refl

-- At the end of the inner loop temporaries become undefined, contributions pass on, and then other reductions are combined.
changes-in-order : (block
    (declared s (scalar_with (pos 1)) ∷ declared n (scalar_with (pos 2)) ∷ declared t scalar ∷ declared u scalar ∷ declared i scalar
    ∷ declared j scalar ∷ [])
    (program
    (concurrent 3 (from_to i one two ∷ []) (Local.Reduce ReduceOp.Add (n ∷ []) ∷ [])
    (concurrent 4 (from_to j one two ∷ []) (Local.Reduce ReduceOp.Add (n ∷ s ∷ []) ∷ [])
    (set 5 u one ∷ set 6 t two ∷ set 7 s (var s plus var j) ∷ set 8 n (var n plus var j) ∷ []) ∷ []) ∷ [])) []).entries
    ≡ Reads (at 0 0) 4
    ∷ Defines (at 3 0) (pos 1) 5 ∷ Defines (at 2 0) (pos 2) 6 ∷ Defines (at 3 0) (pos 1) 4 ∷ Defines (at 2 0) (pos 2) 4
    ∷ Defines (at 3 0) (pos 1) 5 ∷ Defines (at 2 0) (pos 2) 6 ∷ Defines (at 3 0) (pos 1) 4 ∷ Defines (at 2 0) (pos 2) 4
    ∷ Undefines (at 2 0) 4 ∷ Undefines (at 3 0) 4
    ∷ Contributes (at 1 0) ReduceOp.Add (pos 1) ∷ Contributes (at 1 0) ReduceOp.Add (pos 2)
    ∷ Defines (at 0 0) (pos 4) 4 ∷ []
unfolding digits value_at cell_of put_at int_wrap
changes-in-order = refl

-- Where an inner header ends badly, the block has what the header evaluated.
bad-header-entries : (block (declared n (scalar_with (pos 1)) ∷ declared i scalar ∷ declared j scalar ∷ [])
    (program (concurrent 3 (from_to i one two ∷ []) [] (concurrent 4 (by_step j one (var n) zero ∷ []) [] [] ∷ []) ∷ [])) []).entries
    ≡ Reads (at 0 0) 4 ∷ []
unfolding digits value_at cell_of put_at int_wrap
bad-header-entries = refl

-- What an inner iteration did alone has the loops inside it ascend, whatever orders are left.
deeper-until-bad : (block (declared a (array 2) ∷ declared i scalar ∷ declared j scalar ∷ declared n scalar ∷ [])
    (program
    (concurrent 3 (from_to i one two ∷ []) []
    (concurrent 4 (from_to j one two ∷ []) []
    (concurrent 5 (from_to n one two ∷ []) [] (set_at 6 a (var n ∷ []) (var n) ∷ [])
    ∷ set_at 8 a (one ∷ []) (one over zero) ∷ []) ∷ []) ∷ []))
    ((1 ∷ 0 ∷ []) ∷ (1 ∷ 0 ∷ []) ∷ [])).entries
    ≡ Defines (at 0 0) (pos 1) 6 ∷ Defines (at 0 1) (pos 2) 6 ∷ Defines (at 0 0) (pos 1) 4 ∷ Defines (at 0 1) (pos 2) 4 ∷ []
unfolding digits value_at cell_of put_at int_wrap
deeper-until-bad = refl

-- In an order that isn't judged, the block has what the iterations of that order did up to the bad one.
unjudged-until-bad : ((nested_loop (in_order 1) (program_forms inner_symbols until_bad 1000) greatest_depth 0 []).block (first_store inner_symbols) []
    (pos 1 ∷ [])).entries
    ≡ Reads (at 2 0) 6 ∷ Defines (at 1 0) (pos 3) 5 ∷ Reads (at 1 0) 6 ∷ Reads (at 2 0) 6 ∷ Defines (at 0 0) (pos 16) 6
    ∷ Defines (at 1 0) (pos 3) 4 ∷ Defines (at 0 0) (pos 16) 4 ∷ Defines (at 1 0) (pos 2) 5 ∷ Reads (at 1 0) 6 ∷ Defines (at 1 0) (pos 2) 4 ∷ []
unfolding digits value_at cell_of put_at int_wrap
unjudged-until-bad = refl

-- The turn of a call is spent before places become undefined, which they do in the order of the arguments.
turn-before-undefined :
    ((nested_loop judging
    (program_forms (declared t scalar ∷ declared n scalar ∷ declared i scalar ∷ declared s (Role.Subroutine 1)
    ∷ declared_in 1 u (dummy 1 Intent.Out) ∷ declared_in 1 x (dummy 0 Intent.Out) ∷ [])
    (program_with (concurrent 3 (from_to i one two ∷ []) [] (call 4 s (var t ∷ var n ∷ []) ∷ call 5 s (var t ∷ var n ∷ []) ∷ []) ∷ [])
    (subprogram [] ∷ [])) 1)
    greatest_depth 0 []).block [] [] (pos 1 ∷ [])).entries
    ≡ Undefines (at 0 0) 4 ∷ Undefines (at 1 0) 4 ∷ []
unfolding digits value_at cell_of put_at int_wrap
turn-before-undefined = refl
