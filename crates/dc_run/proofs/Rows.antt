-- Whole programs with one loop: what each writes, and how it ends.
use Rattle.std.proofs.Common.{◌≡◌, ℕ, List, [], ◌∷◌, Some, None, refl}
use Rattle.std.specs.Prelude.{◌+◌, ◌++◌, codes, pos}
use Rattle.std.specs.Fmt.{digits}
use Rattle.std.specs.Int.{int_wrap}
use Rattle.dc_int.specs.declared.access.Access.{Access}
use Rattle.dc_int.specs.declared.access.Action.{Action}
use Rattle.dc_int.specs.declared.access.ElementId.{ElementId}
use Rattle.dc_int.specs.Entries.{accesses_of, last_states, contributions_of}
use Rattle.dc_int.specs.Store.{value_at, cell_of, put_at}
use Rattle.dc_code.specs.Loops.{Passage}
use Rattle.dc_tree.specs.declared.stmt.Local.{Local}
use Rattle.dc_tree.specs.declared.symbols.Symbol.{Symbol}
use Rattle.dc_tree.specs.declared.token.Mark.{Mark}
use Rattle.dc_tree.specs.Blocks.{Item, Source}
use Rattle.dc_meaning.specs.Programs.{first_store}
use Rattle.dc_meaning.proofs.Sources.{a, i, t, zero, one, two, three, four, var, of, ◌plus◌, ◌minus◌, ◌times◌, joined, set, set_at, print, from_to, concurrent, counted, masked, if_then, scalar, array, declared, program}
use Rattle.dc_run.proofs.Telling.{judged, ordered, iteration_alone}

-- ---- elements of an array

abbrev a_and_i : List Symbol
a_and_i = declared a (array 4) ∷ declared i scalar ∷ []

-- Each iteration defines an element of its own.
squares : judged a_and_i
    (program (concurrent 3 (from_to i one four ∷ []) [] (set_at 4 a (var i ∷ []) (var i times var i) ∷ []) ∷ print 6 (var a ∷ []) ∷ []))
    ≡ codes "1 4 9 16" ++ 10 ∷ []
unfolding digits value_at cell_of put_at int_wrap
squares = refl

-- `a(i) = a(i-1) + 1`, where the first line is that of the loop
abbrev shift : ℕ → Item
shift line = concurrent line (from_to i two four ∷ []) [] (set_at (line + 1) a (var i ∷ []) (of a (var i minus one ∷ []) plus one) ∷ [])

abbrev shifting : Source
shifting = program (set 3 a zero ∷ shift 4 ∷ print 7 (var a ∷ []) ∷ [])

-- What one iteration defines the next one reads.
shifting-races : judged a_and_i shifting ≡ codes "race: a(2): iteration (2) defines at line 5, iteration (3) reads at line 5" ++ 10 ∷ []
unfolding digits value_at cell_of put_at int_wrap
shifting-races = refl

-- Where the element before the first is undefined, that comes before any race.
undefined-comes-first : judged a_and_i (program (shift 3 ∷ print 6 (var a ∷ []) ∷ [])) ≡ codes "fault: Undefined: iteration (2): line 4" ++ 10 ∷ []
unfolding digits value_at cell_of put_at int_wrap
undefined-comes-first = refl

-- In the order 0 the iterations ascend, and are not judged.
shifting-ascending : ordered 0 a_and_i shifting ≡ codes "0 1 2 3" ++ 10 ∷ []
unfolding digits value_at cell_of put_at int_wrap
shifting-ascending = refl

-- In the order 1 they descend.
shifting-descending : ordered 1 a_and_i shifting ≡ codes "0 1 1 1" ++ 10 ∷ []
unfolding digits value_at cell_of put_at int_wrap
shifting-descending = refl

-- ---- a temporary

abbrev a_t_and_i : List Symbol
a_t_and_i = declared a (array 3) ∷ declared t scalar ∷ declared i scalar ∷ []

abbrev doubling : List Local → Item
doubling locality = concurrent 3 (from_to i one three ∷ []) locality (set 4 t (var i) ∷ set_at 5 a (var i ∷ []) (var t times two) ∷ [])

abbrev doubling_then : List Item → Source
doubling_then items = program (doubling [] ∷ print 7 (var a ∷ []) ∷ items)

-- A temporary is no race: each iteration reads what it defined itself.
temporary : judged a_t_and_i (doubling_then []) ≡ codes "2 4 6" ++ 10 ∷ []
unfolding digits value_at cell_of put_at int_wrap
temporary = refl

-- The same in descending order.
temporary-descending : ordered 1 a_t_and_i (doubling_then []) ≡ codes "2 4 6" ++ 10 ∷ []
unfolding digits value_at cell_of put_at int_wrap
temporary-descending = refl

-- After the loop the temporary is undefined, since several iterations defined it.
temporary-is-undefined : judged a_t_and_i (doubling_then (print 8 (var t ∷ []) ∷ []))
    ≡ codes "2 4 6" ++ 10 ∷ (codes "fault: Undefined: line 8" ++ 10 ∷ [])
unfolding digits value_at cell_of put_at int_wrap
temporary-is-undefined = refl

-- The same in an order that isn't judged.
temporary-is-undefined-in-order : ordered 1 a_t_and_i (doubling_then (print 8 (var t ∷ []) ∷ []))
    ≡ codes "2 4 6" ++ 10 ∷ (codes "fault: Undefined: line 8" ++ 10 ∷ [])
unfolding digits value_at cell_of put_at int_wrap
temporary-is-undefined-in-order = refl

-- One definer keeps its value.
one-definer : judged (declared a (array 1) ∷ declared t scalar ∷ declared i scalar ∷ [])
    (program (concurrent 3 (from_to i one one ∷ []) [] (set 4 t (var i) ∷ set_at 5 a (var i ∷ []) (var t times two) ∷ []) ∷ print 7 (var a ∷ [])
    ∷ print 8 (var t ∷ []) ∷ []))
    ≡ codes "2" ++ 10 ∷ (codes "1" ++ 10 ∷ [])
unfolding digits value_at cell_of put_at int_wrap
one-definer = refl

-- Two definers suffice, whichever iterations they are.
two-definers : judged a_t_and_i
    (program (masked 3 (from_to i one three ∷ []) (joined Mark.Gt (var i) zero) []
    (if_then 4 (joined Mark.Gt (var i) one) (set 5 t (var i) ∷ []) ∷ []) ∷ print 8 (var t ∷ []) ∷ []))
    ≡ codes "fault: Undefined: line 8" ++ 10 ∷ []
unfolding digits value_at cell_of put_at int_wrap
two-definers = refl

-- A SHARED variable is no temporary.
shared-temporary : judged a_t_and_i (program (doubling (Local.Shared (t ∷ []) ∷ []) ∷ []))
    ≡ codes "race: t: iteration (1) defines at line 4, iteration (3) defines at line 4" ++ 10 ∷ []
unfolding digits value_at cell_of put_at int_wrap
shared-temporary = refl

-- ---- an iteration alone: its accesses, its last states, its contributions and its trouble

abbrev first_alone : Passage
first_alone = iteration_alone a_t_and_i (doubling_then []) (first_store a_t_and_i) (pos 1 ∷ [])

abbrev an_access : Action → ElementId → ℕ → Access
an_access action element line = record { action = action; element = element; line = line }

abbrev t_itself : ElementId
t_itself = record { variable = 1; position = 0 }

-- the element at the first position of the first variable
abbrev the_first : ElementId
the_first = record { variable = 0; position = 0 }

-- An iteration alone defines the temporary, reads it, and defines its element.
alone-accesses : accesses_of first_alone.entries
    ≡ an_access Action.Defines t_itself 4 ∷ an_access Action.Reads t_itself 5 ∷ an_access Action.Defines the_first 5 ∷ []
unfolding digits value_at cell_of put_at int_wrap
alone-accesses = refl

-- Its last states.
alone-touches : last_states first_alone.entries
    ≡ (record { element = t_itself; value = Some (pos 1) }) ∷ (record { element = the_first; value = Some (pos 2) }) ∷ []
unfolding digits value_at cell_of put_at int_wrap
alone-touches = refl

-- It contributes to no reduction.
alone-contributes-nothing : contributions_of first_alone.entries ≡ []
unfolding digits value_at cell_of put_at int_wrap
alone-contributes-nothing = refl

-- It meets no trouble.
alone-ends-well : first_alone.trouble ≡ None
unfolding digits value_at cell_of put_at int_wrap
alone-ends-well = refl

-- A counted DO defines its variable, and then reads and defines it at each step.
alone-in-a-counted-do : accesses_of
    (iteration_alone (declared t scalar ∷ declared i scalar ∷ [])
    (program (concurrent 3 (from_to i one two ∷ []) [] (counted 4 None (from_to t one two) [] ∷ []) ∷ []))
    (first_store (declared t scalar ∷ declared i scalar ∷ [])) (pos 1 ∷ [])).entries
    ≡ an_access Action.Defines the_first 4 ∷ an_access Action.Reads the_first 4 ∷ an_access Action.Defines the_first 4
    ∷ an_access Action.Reads the_first 4 ∷ an_access Action.Defines the_first 4 ∷ []
unfolding digits value_at cell_of put_at int_wrap
alone-in-a-counted-do = refl
