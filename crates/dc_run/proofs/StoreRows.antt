-- The stores of runs, one after another, and whether they fit.
use Rattle.std.proofs.Common.{◌≡◌, true, false, List, [], ◌∷◌, Option, Some, None, refl}
use Rattle.std.specs.Prelude.{◌++◌, map, codes, ℤ, pos, negsuc}
use Rattle.std.specs.Fmt.{digits}
use Rattle.std.specs.Int.{int_wrap}
use Rattle.dc_int.specs.declared.kind.Kind.{Kind}
use Rattle.dc_int.specs.Shapes.{store_fits}
use Rattle.dc_int.specs.Store.{Bounds, Variable, Store, value_at, cell_of, put_at}
use Rattle.dc_code.specs.Inner.{judging}
use Rattle.dc_tree.specs.declared.symbols.Symbol.{Symbol}
use Rattle.dc_tree.specs.Blocks.{Source}
use Rattle.dc_meaning.proofs.Sources.{a, i, num, zero, one, two, three, var, ◌times◌, whole, set, set_at, print, read, from_to, concurrent, scalar, array, declared, program}
use Rattle.dc_run.specs.Stores.{declared_shapes, stores_of}

abbrev with_cells : Bounds → List (Option ℤ) → Variable
with_cells bounds cells = record { bounds = Some bounds; cells = cells }

-- an array of two elements, and a scalar
abbrev a_and_i : List Symbol
a_and_i = declared a (array 2) ∷ declared i scalar ∷ []

abbrev store : Option ℤ → Option ℤ → Option ℤ → Store
store first second last = with_cells ((pos 1, pos 2) ∷ []) (first ∷ second ∷ []) ∷ with_cells [] (last ∷ []) ∷ []

shapes : declared_shapes a_and_i ≡ (record { kind = Kind.K4; logical = false; elements = 2 }) ∷ (record { kind = Kind.K4; logical = false; elements = 1 }) ∷ []
shapes = refl

-- An assignment to a scalar, whose value is wrapped, a loop, and an assignment to a whole array.
abbrev three_statements : Source
three_statements =
    program
    (set 3 i (num (codes "999999999") times three)
    ∷ concurrent 4 (from_to i one two ∷ []) [] (set_at 5 a (var i ∷ []) (var i) ∷ [])
    ∷ set 7 a zero ∷ print 8 (var a ∷ []) ∷ [])

one-after-another : stores_of judging a_and_i three_statements 1000 []
    ≡ store None None None ∷ store None None (Some (negsuc 1294967298)) ∷ store (Some (pos 1)) (Some (pos 2)) (Some (negsuc 1294967298))
    ∷ store (Some (pos 0)) (Some (pos 2)) (Some (negsuc 1294967298)) ∷ store (Some (pos 0)) (Some (pos 0)) (Some (negsuc 1294967298)) ∷ []
unfolding digits value_at cell_of put_at int_wrap
one-after-another = refl

-- They fit the declared variables.
each-fits : map (store_fits (declared_shapes a_and_i)) (stores_of judging a_and_i three_statements 1000 []) ≡ true ∷ true ∷ true ∷ true ∷ true ∷ []
unfolding digits value_at cell_of put_at int_wrap
each-fits = refl

-- Values that are read are defined one after another.
read-one-after-another : stores_of judging a_and_i (program (read 3 (whole a ∷ []) ∷ [])) 1000 (codes "5 6" ++ 10 ∷ [])
    ≡ store None None None ∷ store (Some (pos 5)) None None ∷ store (Some (pos 5)) (Some (pos 6)) None ∷ []
unfolding digits value_at cell_of put_at int_wrap
read-one-after-another = refl

-- A number that isn't wrapped doesn't, and neither does an array that wants an element.
not-wrapped : store_fits (declared_shapes a_and_i) (store None None (Some (pos 2147483648))) ≡ false
not-wrapped = refl

element-wanting : store_fits (declared_shapes a_and_i) (with_cells ((pos 1, pos 2) ∷ []) (None ∷ []) ∷ with_cells [] (None ∷ []) ∷ []) ≡ false
element-wanting = refl
