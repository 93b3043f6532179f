-- READ: whole programs with their input.
use Rattle.std.proofs.Common.{◌≡◌, List, [], ◌∷◌, None, refl}
use Rattle.std.specs.Prelude.{◌++◌, codes, pos}
use Rattle.std.specs.Fmt.{digits}
use Rattle.std.specs.Int.{int_wrap}
use Rattle.dc_int.specs.declared.kind.Kind.{Kind}
use Rattle.dc_int.specs.Store.{value_at, cell_of, put_at}
use Rattle.dc_tree.specs.declared.symbols.Symbol.{Symbol}
use Rattle.dc_tree.specs.Blocks.{Source}
use Rattle.dc_meaning.proofs.Sources.{a, b, i, n, q, u, one, three, var, of, ◌over◌, ◌minus◌, whole, element, set, print, read, from_to, counted, concurrent, set_at, numbers, truths, scalar, array, declared, program}
use Rattle.dc_run.proofs.Telling.{given}

abbrev variables : List Symbol
variables = declared n scalar ∷ declared a (array 3) ∷ declared q (truths [] []) ∷ declared b (numbers Kind.K1 [] [])
    ∷ declared u (truths ((pos 1, pos 2) ∷ []) []) ∷ []

-- Numbers, and then a truth from a line of its own.
abbrev reading : Source
reading = program (read 4 (whole n ∷ whole a ∷ []) ∷ read 5 (whole q ∷ []) ∷ print 6 (of a (var n ∷ []) ∷ var q ∷ []) ∷ [])

-- A READ takes values from as many lines as it needs, and passes the rest of its last line.
reads-over-lines : given (codes "2, 10 20" ++ 10 ∷ (codes "30 99" ++ 10 ∷ (codes ".false." ++ 10 ∷ []))) variables reading ≡ codes "20 F" ++ 10 ∷ []
unfolding digits value_at cell_of put_at int_wrap
reads-over-lines = refl

-- At the end of the input there is no value.
end-of-input : given (codes "2 10" ++ 10 ∷ []) variables reading ≡ codes "fault: EndOfInput: line 4" ++ 10 ∷ []
unfolding digits value_at cell_of put_at int_wrap
end-of-input = refl

-- A value is stored before the subscripts of the next item are evaluated.
stored-at-once : given (codes "2 7") variables (program (set 2 a one ∷ read 3 (whole n ∷ element a (var n ∷ []) ∷ []) ∷ print 4 (var a ∷ []) ∷ []))
    ≡ codes "1 7 1" ++ 10 ∷ []
unfolding digits value_at cell_of put_at int_wrap
stored-at-once = refl

-- The subscripts of an item are evaluated before its value is taken.
subscripts-before-value : given [] variables (program (read 2 (element a (one over (one minus one) ∷ []) ∷ []) ∷ []))
    ≡ codes "fault: DivideByZero: line 2" ++ 10 ∷ []
unfolding digits value_at cell_of put_at int_wrap
subscripts-before-value = refl

-- A number has to be one of its kind, and is not wrapped. What stands behind it on the line isn't looked at.
of-its-kind : given (codes "127 128") variables (program (read 2 (whole b ∷ []) ∷ print 3 (var b ∷ []) ∷ [])) ≡ codes "127" ++ 10 ∷ []
unfolding digits value_at cell_of put_at int_wrap
of-its-kind = refl

-- A number that is greater is bad input.
out-of-its-kind : given (codes "200") variables (program (read 2 (whole b ∷ []) ∷ [])) ≡ codes "fault: BadInput: line 2" ++ 10 ∷ []
unfolding digits value_at cell_of put_at int_wrap
out-of-its-kind = refl

-- So has each value of an array, the second too.
bad-in-array : given (codes "1 x 3") variables (program (read 2 (whole a ∷ []) ∷ [])) ≡ codes "fault: BadInput: line 2" ++ 10 ∷ []
unfolding digits value_at cell_of put_at int_wrap
bad-in-array = refl

-- Truths, also of an array.
truths-are-read : given (codes "t,.FALSE. f") variables (program (read 2 (whole u ∷ whole q ∷ []) ∷ print 3 (var u ∷ var q ∷ []) ∷ []))
    ≡ codes "T F F" ++ 10 ∷ []
unfolding digits value_at cell_of put_at int_wrap
truths-are-read = refl

-- A READ without items passes a line, and needs one.
passes-a-line : given (codes "1 2" ++ 10 ∷ codes "3") variables (program (read 2 [] ∷ read 3 (whole n ∷ []) ∷ print 4 (var n ∷ []) ∷ read 5 [] ∷ []))
    ≡ codes "3" ++ 10 ∷ (codes "fault: EndOfInput: line 5" ++ 10 ∷ [])
unfolding digits value_at cell_of put_at int_wrap
passes-a-line = refl

-- Each round of a loop reads on from where the last one stopped.
reads-on : given (codes "5" ++ 10 ∷ (codes "6 0" ++ 10 ∷ codes "7")) (declared i scalar ∷ variables)
    (program (counted 2 None (from_to i one three) (read 3 (element a (var i ∷ []) ∷ []) ∷ []) ∷ print 5 (var a ∷ []) ∷ []))
    ≡ codes "5 6 7" ++ 10 ∷ []
unfolding digits value_at cell_of put_at int_wrap
reads-on = refl

-- Output and loops take nothing of the input.
reads-behind-others : given (codes "1" ++ 10 ∷ (codes "2" ++ 10 ∷ codes "3")) (declared i scalar ∷ variables)
    (program
    (read 2 (whole n ∷ []) ∷ print 3 (var n ∷ []) ∷ read 4 (whole n ∷ [])
    ∷ concurrent 5 (from_to i one three ∷ []) [] (set_at 6 a (var i ∷ []) (var n) ∷ [])
    ∷ read 8 (whole n ∷ []) ∷ print 9 (var a ∷ var n ∷ []) ∷ []))
    ≡ codes "1" ++ 10 ∷ (codes "2 2 2 3" ++ 10 ∷ [])
unfolding digits value_at cell_of put_at int_wrap
reads-behind-others = refl
