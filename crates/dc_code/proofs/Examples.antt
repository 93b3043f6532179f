-- Small loops, iteration by iteration, and what the definitions say of them.
use Rattle.std.proofs.Common.{◌≡◌, ℕ, List, [], ◌∷◌, true, false, Some, None, refl}
use Rattle.std.specs.Prelude.{pos, negsuc}
use Rattle.std.specs.Int.{int_wrap}
use Rattle.dc_int.specs.declared.access.ElementId.{ElementId}
use Rattle.dc_int.specs.declared.kind.Kind.{Kind}
use Rattle.dc_int.specs.declared.operation.ReduceOp.{ReduceOp}
use Rattle.dc_int.specs.declared.variable.Locality.{Locality}
use Rattle.dc_int.specs.Entries.{Entry, Reads, Defines, Undefines, Contributes}
use Rattle.dc_int.specs.Store.{Store, cell_of, value_at, put_at}
use Rattle.dc_code.specs.Breaks.{breaks, first_break, named_beside}
use Rattle.dc_code.specs.Combinations.{Span, values_of, combinations}
use Rattle.dc_code.specs.Pairs.{clashes, first_clash, pair}
use Rattle.dc_code.specs.Closing.{Localities, changes, closing}
use Rattle.dc_code.specs.Loops.{are_too_many}

-- ---- combinations

upward : values_of (record { first = pos 1; last = pos 8; step = pos 3 }) ≡ pos 1 ∷ pos 4 ∷ pos 7 ∷ []
upward = refl

downward : values_of (record { first = pos 3; last = pos 1; step = negsuc 0 }) ≡ pos 3 ∷ pos 2 ∷ pos 1 ∷ []
downward = refl

-- with the last limit below the first there is no value
no_value : values_of (record { first = pos 5; last = pos 1; step = pos 1 }) ≡ []
no_value = refl

-- nor with a step that passes it at once
no_value_by_step : values_of (record { first = pos 1; last = pos 0; step = pos 3 }) ≡ []
no_value_by_step = refl

-- the most combinations that there may be, and one more
abbrev counted : ℕ → Span
counted last = record { first = pos 1; last = pos last; step = pos 1 }

most : are_too_many (counted 2048 ∷ counted 2048 ∷ []) ≡ false
most = refl

one_more : are_too_many (counted 4194305 ∷ []) ≡ true
one_more = refl

first_varies_fastest
    : combinations (record { first = pos 1; last = pos 2; step = pos 1 } ∷ record { first = pos 8; last = pos 9; step = pos 1 } ∷ [])
    ≡ (pos 1 ∷ pos 8 ∷ []) ∷ (pos 2 ∷ pos 8 ∷ []) ∷ (pos 1 ∷ pos 9 ∷ []) ∷ (pos 2 ∷ pos 9 ∷ []) ∷ []
first_varies_fastest = refl

-- ---- a store of an array of three elements, and of one scalar

abbrev a : ℕ → ElementId
a position = record { variable = 0; position = position }

abbrev t : ElementId
t = record { variable = 1; position = 0 }

abbrev small : Store
small = record { bounds = Some ((pos 1, pos 3) ∷ []); cells = Some (pos 5) ∷ Some (pos 6) ∷ Some (pos 7) ∷ [] } ∷ record { bounds = Some []; cells = Some (pos 0) ∷ [] } ∷ []

abbrev unspecified : ℕ → Locality
unspecified variable = Locality.Plain

abbrev shared : ℕ → Locality
shared variable = Locality.Shared

abbrev all_of_kind_4 : (ℕ → Locality) → Localities
all_of_kind_4 locality = record { locality = locality; kind = λ variable. Kind.K4; passed = λ variable. false }

-- ---- `a(i) = a(i-1)` for i of 2 and 3: the first defines what the second reads

abbrev shifting : List (List Entry)
shifting = (Reads (a 0) 5 ∷ Defines (a 1) (pos 5) 5 ∷ []) ∷ (Reads (a 1) 5 ∷ Defines (a 2) (pos 6) 5 ∷ []) ∷ []

shifting_clashes : first_clash unspecified small shifting ≡ Some (a 1)
shifting_clashes = refl

shifting_pair : pair Locality.Plain (a 1) shifting ≡ Some (0, 1)
shifting_pair = refl

-- run in succession, the second reads on line 5 what the first defined there
shifting_break
    : first_break unspecified (Reads (a 0) 5 ∷ Defines (a 1) (pos 5) 5 ∷ []) (Reads (a 1) 5 ∷ Defines (a 2) (pos 5) 5 ∷ []) ≡ Some (Reads (a 1) 5)
shifting_break = refl

shifting_named : named_beside unspecified (Reads (a 0) 5 ∷ Defines (a 1) (pos 5) 5 ∷ []) (Reads (a 1) 5) ≡ Some (Defines (a 1) (pos 5) 5)
shifting_named = refl

-- ---- a temporary that each iteration defines before it reads it

abbrev with_temporary : ℕ → List Entry
with_temporary position = Defines t (pos position) 4 ∷ Reads t 5 ∷ Defines (a position) (pos position) 5 ∷ []

abbrev temporaries : List (List Entry)
temporaries = with_temporary 0 ∷ with_temporary 1 ∷ with_temporary 2 ∷ []

temporary_is_allowed : first_clash unspecified small temporaries ≡ None
temporary_is_allowed = refl

-- it is undefined after the loop
temporary_is_undefined
    : closing (all_of_kind_4 unspecified) 3 temporaries small
    ≡ record { bounds = Some ((pos 1, pos 3) ∷ []); cells = Some (pos 5) ∷ Some (pos 6) ∷ Some (pos 7) ∷ [] } ∷ record { bounds = Some []; cells = None ∷ [] } ∷ []
unfolding put_at value_at cell_of
temporary_is_undefined = refl

-- but not where it is SHARED
shared_temporary_clashes : first_clash shared small temporaries ≡ Some t
shared_temporary_clashes = refl

shared_temporary_pair : pair Locality.Shared t temporaries ≡ Some (0, 2)
shared_temporary_pair = refl

-- a touch of a SHARED element is named beside the other's first touch
shared_temporary_break : first_break shared (with_temporary 0) (with_temporary 2) ≡ Some (Defines t (pos 2) 4)
shared_temporary_break = refl

shared_temporary_named : named_beside shared (with_temporary 0) (Defines t (pos 2) 4) ≡ Some (Defines t (pos 0) 4)
shared_temporary_named = refl

-- ---- `v(i) = v(1)`: the first iteration reads its own element too, so the last reader is named

abbrev from_the_first : List (List Entry)
from_the_first = (Reads (a 0) 4 ∷ Defines (a 0) (pos 5) 4 ∷ []) ∷ (Reads (a 0) 4 ∷ Defines (a 1) (pos 5) 4 ∷ []) ∷ (Reads (a 0) 4 ∷ Defines (a 2) (pos 5) 4 ∷ []) ∷ []

last_reader_is_named : pair Locality.Plain (a 0) from_the_first ≡ Some (0, 2)
last_reader_is_named = refl

-- one iteration alone breaks nothing, and its own read and touch don't
alone_is_allowed : clashes Locality.Plain (a 0) ((Reads (a 0) 4 ∷ Defines (a 0) (pos 5) 4 ∷ []) ∷ []) ≡ false
alone_is_allowed = refl

-- two iterations that only read share an element, and SHARED allows it too
readers_share : breaks Locality.Shared (a 0) (Reads (a 0) 4 ∷ []) (Reads (a 0) 4 ∷ []) ≡ false
readers_share = refl

-- becoming undefined is a touch
undefining_breaks : breaks Locality.Plain (a 0) (Undefines (a 0) 4 ∷ []) (Reads (a 0) 5 ∷ []) ≡ true
undefining_breaks = refl

-- ---- a sum, whose variable keeps its value outside the iterations

abbrev sums : ℕ → Locality
sums variable = Locality.Reduce ReduceOp.Add

summed
    : closing (all_of_kind_4 sums) 3 ((Contributes t ReduceOp.Add (pos 4) ∷ []) ∷ (Contributes t ReduceOp.Add (pos 9) ∷ []) ∷ []) small
    ≡ record { bounds = Some ((pos 1, pos 3) ∷ []); cells = Some (pos 5) ∷ Some (pos 6) ∷ Some (pos 7) ∷ [] } ∷ record { bounds = Some []; cells = Some (pos 13) ∷ [] } ∷ []
unfolding put_at value_at cell_of int_wrap
summed = refl

-- without an iteration nothing is defined
nothing_summed : changes (all_of_kind_4 sums) 3 [] small ≡ []
nothing_summed = refl

-- ---- reductions of a loop around: what passes is in store order, and of one element in the order of the runs

abbrev passing : Localities
passing = record { locality = sums; kind = λ variable. Kind.K4; passed = λ variable. true }

passed_in_store_order
    : changes passing 3
    ((Contributes t ReduceOp.Add (pos 1) ∷ Contributes (a 2) ReduceOp.Add (pos 2) ∷ []) ∷ (Contributes t ReduceOp.Add (pos 3) ∷ Contributes (a 0) ReduceOp.Add (pos 4) ∷ []) ∷ [])
    small
    ≡ Contributes (a 0) ReduceOp.Add (pos 4)
    ∷ Contributes (a 2) ReduceOp.Add (pos 2) ∷ Contributes t ReduceOp.Add (pos 1) ∷ Contributes t ReduceOp.Add (pos 3) ∷ []
passed_in_store_order = refl
