-- A loop inside the block of another, under a rule. This project's own, on ISO/IEC 1539-1:2023, clause
-- 11.1.7.4.
use Rattle.std.specs.Prelude.{ℕ, zero, suc, ◌-◌, Bool, false, List, [], ◌∷◌, ◌++◌, map, filter, flat_map, length, drop, slice_get, Option, Some, None, is_none, if◌then◌else◌, ℤ, pos}
use Rattle.dc_int.specs.Entries.{Entry, Reads, Defines, firsts, exposes, last_states, settling, state_after, store_after}
use Rattle.dc_int.specs.Store.{Store, value_at}
use Rattle.dc_code.specs.Closing.{changes}
use Rattle.dc_code.specs.Computation.{Reached, done, bad, paused, over}
use Rattle.dc_code.specs.Loops.{Form, HeaderResult, header_of, iterations_of, Orders, Passage, Loop, alone, Ordered, order}
use Rattle.dc_code.specs.Orders.{as_ordered, turned}
use Rattle.dc_code.specs.Passages.{Entering, ended_well, through}
use Rattle.dc_code.specs.Troubles.{Trouble, Slots, inside}
use Rattle.dc_code.specs.Verdicts.{judgement, trouble_in}

-- How loops are run: judged, or in the order of a number and not judged.
pub data Rule : Type 0 where
  judging : Rule
  in_order : ℕ → Rule

-- ---- what iterations of a loop inside are to the block around

-- An entry of a first access as the block around makes it: a definition has the value of the last state,
-- or 0 where that is undefined.
abbrev pub value_or_zero : Option ℤ → ℤ
value_or_zero None = pos 0
value_or_zero (Some value) = value

abbrev pub seen_around : List Entry → Entry → Entry
seen_around run (Defines x value line) = Defines x (value_or_zero (state_after x run None)) line
seen_around run entry = entry

abbrev pub is_exposed_read : List Entry → Entry → Bool
is_exposed_read run (Reads x line) = exposes x run
is_exposed_read run entry = false

-- the first accesses of an iteration that are exposed reads
abbrev pub exposed_firsts : List Entry → List Entry
exposed_firsts run = filter (is_exposed_read run) (firsts run)

-- the first accesses, and then the last states at the line of the header
abbrev pub firsts_and_lasts : ℕ → List Entry → List Entry
firsts_and_lasts line run = map (seen_around run) (firsts run) ++ map (settling line) (last_states run)

-- What the block around adds for iterations: the exposed reads of all of them, and then what each did.
abbrev pub added : ℕ → List (List Entry) → List Entry
added line runs = flat_map exposed_firsts runs ++ flat_map (firsts_and_lasts line) runs

-- ---- a loop inside the block of another

-- The iterations up to and including the first that doesn't end well, each by its entries.
abbrev pub up_to_bad : List Passage → List (List Entry)
up_to_bad [] = []
up_to_bad (passage ∷ passages) = passage.entries ∷ (if is_none passage.trouble then up_to_bad passages else [])

abbrev pub by_entries : Store → List Entry → ℕ → Orders → Option Trouble → Passage
by_entries store entries turns orders trouble =
    record { entries = entries; store = store_after entries store; turns = turns; orders = orders; trouble = trouble }

-- Everything below begins with the entries that the header of the loop made.

-- A loop that ends with trouble: the block around makes the entries of these iterations.
abbrev pub stopped : Loop → Store → List Entry → List (List Entry) → Orders → Trouble → Passage
stopped loop store header runs orders trouble = by_entries store (header ++ added loop.form.line runs) 0 orders (Some trouble)

-- A loop that goes on, by its iterations in an order: their entries, and the changes at its end.
abbrev pub gone_on : Loop → Store → List Entry → ℕ → Ordered → Passage
gone_on loop store header turns ordered =
    let line = loop.form.line in
    by_entries store (header ++ (added line ordered.runs ++ changes loop.form.localities line ordered.runs ordered.store)) turns ordered.orders None

-- A loop that is judged: the trouble that the verdict tells of, with the iterations taken alone; or the
-- iterations in the first of the orders.
abbrev pub told_by : Loop → Store → List Entry → Orders → List (List ℤ) → ℕ → Option Trouble → Passage
told_by loop store header orders iterations turns (Some trouble) =
    stopped loop store header (up_to_bad (map (alone loop store) iterations)) orders trouble
told_by loop store header orders iterations turns None =
    gone_on loop store header turns (order loop (drop 1 orders) store (as_ordered orders iterations))

-- A loop that isn't judged, by its iterations in an order.
abbrev pub unjudged : Loop → Store → List Entry → ℕ → List (List ℤ) → Ordered → Passage
unjudged loop store header turns iterations ordered = by ordered.trouble (slice_get iterations (length ordered.runs - 1))
  where
    by : Option Trouble → Option (List ℤ) → Passage
    by (Some trouble) (Some at) = stopped loop store header ordered.runs ordered.orders (inside at trouble)
    by trouble at = gone_on loop store header turns ordered

-- In the order of a number, behind a header that ended so.
abbrev pub unjudged_turned : ℕ → Loop → Store → List Entry → Orders → Reached ⊥ Trouble HeaderResult → Passage
unjudged_turned number loop store header orders (bad trouble) = stopped loop store header [] orders trouble
unjudged_turned number loop store header orders (done given) =
    let iterations = turned number given.iterations in
    unjudged loop store header given.turns iterations (order loop orders store iterations)
unjudged_turned number loop store header orders (paused event rest) = absurd event

-- A loop inside, with the turns of the block around, the store with which it is reached, and the orders that
-- are left. Its verdict is that of any loop.
abbrev pub inner : Rule → Loop → ℕ → Store → Orders → Passage
inner judging loop turns store orders =
    let header = over store (header_of loop.form turns) in
    let said = judgement loop turns store in
    told_by loop store header.entries orders (iterations_of header.reached) said.turns (trouble_in said.verdict)
inner (in_order number) loop turns store orders =
    let header = over store (header_of loop.form turns) in unjudged_turned number loop store header.entries orders header.reached

-- ---- the loops of a program

-- What the trees or the code of a program give for each of its loops, by its number and the entities
-- around it.
abbrev pub Forms : Type 0
Forms = ℕ → Slots → Form

-- The block of a loop, where loops inside are run so.
abbrev pub loop_with : Entering → Form → Loop
loop_with enter form = record { form = form; block = λ store orders at. through enter store orders (form.block (map (value_at store) form.copied) at) }

-- A loop with those inside it, to so many levels.
abbrev pub nested_loop : Rule → Forms → ℕ → ℕ → Slots → Loop
nested_loop rule forms zero number slots = loop_with (λ inside turns around store orders. ended_well store turns orders) (forms number slots)
nested_loop rule forms (suc depth) number slots =
    loop_with (λ inside turns around store orders. inner rule (nested_loop rule forms depth inside around) turns store orders) (forms number slots)

-- No program has more levels.
abbrev pub greatest_depth : ℕ
greatest_depth = 64
