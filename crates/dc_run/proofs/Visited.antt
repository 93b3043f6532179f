-- A loop leaves the elements of a store, and the bounds of its variables.
use Rattle.std.proofs.Common.{◌≡◌, ℕ, zero, suc, Bool, true, false, cond, List, [], ◌∷◌, ◌++◌, map, drop, Option, Some, None, refl, ap, subst, ◌∙◌}
use Rattle.std.specs.Prelude.{ℤ, pos, is_none}
use Rattle.dc_int.specs.Entries.{Entry, Defines, Undefines, store_after_entry}
use Rattle.dc_int.specs.Store.{Store, value_at, bounds_of}
use Rattle.dc_code.specs.declared.verdict.Verdict as answers
use Rattle.dc_code.specs.Closing.{changes}
use Rattle.dc_code.specs.Computation.{give, fail, read, define, undefine, contribute, ask, pause, Reached, done, bad, paused, over, SameShape}
use Rattle.dc_code.specs.Inner.{Forms, judging, nested_loop, greatest_depth, added, up_to_bad, inner, told_by}
use Rattle.dc_code.specs.Loops.{Loop, alone, Passage, Orders, HeaderResult, header_of, iterations_of, Ordered, order, joined, nothing_done}
use Rattle.dc_code.specs.Orders.{as_ordered}
use Rattle.dc_code.specs.Passages.{Entering, ended_well, passage_behind, through}
use Rattle.dc_code.specs.Troubles.{Trouble, Slots, Computing, write_line, take_value, take_elements, end_reading, enter_loop, stop}
use Rattle.dc_code.specs.Verdicts.{Verdict, go_on, at_header, in_iteration, race, verdict, visited_by, judged_by, judgement, trouble_in, seen}
use Rattle.dc_code.specs.Visits.{Visited, visited}
use Rattle.dc_code.proofs.Stores.{shape-after, shape-then}
use Rattle.dc_walk.specs.Visiting.{visit_of}
use Rattle.dc_run.specs.Running.{loop_in, KeepsShape, IsVisitWith}

pub same-shape : (store : Store) → SameShape store store
same-shape store = record { elements = λ x. refl; bounds = λ variable. refl }

-- ---- a block

abbrev Keeps : Entering → Type 0
Keeps enter = (number turns : ℕ) (slots : Slots) (store : Store) (orders : Orders) → SameShape store (enter number turns slots store orders).store

through-shape : (enter : Entering) → Keeps enter → (store : Store) (orders : Orders) (c : Computing ℕ) → SameShape store (through enter store orders c).store
through-shape enter keeps store orders (give turns) = same-shape store
through-shape enter keeps store orders (fail failure) = same-shape store
through-shape enter keeps store orders (read x line rest) = through-shape enter keeps store orders (rest (value_at store x))
through-shape enter keeps store orders (define x value line rest) =
    let after = store_after_entry (Defines x value line) store in
    shape-then store after (through enter after orders rest).store (shape-after (Defines x value line ∷ []) store) (through-shape enter keeps after orders rest)
through-shape enter keeps store orders (undefine x line rest) =
    let after = store_after_entry (Undefines x line) store in
    shape-then store after (through enter after orders rest).store (shape-after (Undefines x line ∷ []) store) (through-shape enter keeps after orders rest)
through-shape enter keeps store orders (contribute x op value rest) = through-shape enter keeps store orders rest
through-shape enter keeps store orders (ask variable rest) = through-shape enter keeps store orders (rest (bounds_of store variable))
through-shape enter keeps store orders (pause (enter_loop number turns slots) rest) =
    let passage = enter number turns slots store orders in
    let next = through enter passage.store passage.orders (rest (pos passage.turns)) in
    by passage next (keeps number turns slots store orders) (through-shape enter keeps passage.store passage.orders (rest (pos passage.turns))) (is_none passage.trouble)
  where
    by : (passage next : Passage) → SameShape store passage.store → SameShape passage.store next.store → (b : Bool) → SameShape store (cond b (passage_behind passage.entries next) passage).store
    by passage next first second true = shape-then store passage.store next.store first second
    by passage next first second false = first
through-shape enter keeps store orders (pause (write_line line bytes) rest) = through-shape enter keeps store orders (rest (pos 0))
through-shape enter keeps store orders (pause (take_value line sort) rest) = through-shape enter keeps store orders (rest (pos 0))
through-shape enter keeps store orders (pause (take_elements line sort elements) rest) = through-shape enter keeps store orders (rest (pos 0))
through-shape enter keeps store orders (pause (end_reading line items) rest) = through-shape enter keeps store orders (rest (pos 0))
through-shape enter keeps store orders (pause stop rest) = through-shape enter keeps store orders (rest (pos 0))

-- ---- a loop inside

told-shape
    : (loop : Loop) (store : Store) (header : List Entry) (orders : Orders) (iterations : List (List ℤ)) (turns : ℕ) (trouble : Option Trouble)
    → SameShape store (told_by loop store header orders iterations turns trouble).store
told-shape loop store header orders iterations turns (Some trouble) =
    shape-after (header ++ added loop.form.line (up_to_bad (map (alone loop store) iterations))) store
told-shape loop store header orders iterations turns None =
    let ordered = order loop (drop 1 orders) store (as_ordered orders iterations) in
    shape-after (header ++ (added loop.form.line ordered.runs ++ changes loop.form.localities loop.form.line ordered.runs ordered.store)) store

inner-shape : (loop : Loop) (turns : ℕ) (store : Store) (orders : Orders) → SameShape store (inner judging loop turns store orders).store
inner-shape loop turns store orders =
    let header = over store (header_of loop.form turns) in
    let said = judgement loop turns store in
    told-shape loop store header.entries orders (iterations_of header.reached) said.turns (trouble_in said.verdict)

-- ---- iterations

parts-shape : (forms : Forms) (depth number : ℕ) (slots : Slots) (store : Store) (orders : Orders) (at : List ℤ) → SameShape store ((nested_loop judging forms depth number slots).block store orders at).store
parts-shape forms zero number slots store orders at =
    let form = forms number slots in
    through-shape (λ inside turns around before left. ended_well before turns left) (λ inside turns around before left. same-shape before) store orders (form.block (map (value_at store) form.copied) at)
parts-shape forms (suc depth) number slots store orders at =
    let form = forms number slots in
    through-shape (λ inside turns around before left. inner judging (nested_loop judging forms depth inside around) turns before left)
    (λ inside turns around before left. inner-shape (nested_loop judging forms depth inside around) turns before left) store orders (form.block (map (value_at store) form.copied) at)

pub loop-keeps : (forms : Forms) (number : ℕ) → KeepsShape (loop_in forms number)
unfolding loop_in
loop-keeps forms number = record { each = λ store orders at. parts-shape forms greatest_depth number [] store orders at }

order-shape : (loop : Loop) → KeepsShape loop → (orders : Orders) (store : Store) (iterations : List (List ℤ)) → SameShape store (order loop orders store iterations).store
order-shape loop keeps orders store [] = same-shape store
order-shape loop keeps orders store (at ∷ rest) =
    let passage = loop.block store orders at in
    by passage (order loop passage.orders passage.store rest) (keeps.each store orders at) (order-shape loop keeps passage.orders passage.store rest) (is_none passage.trouble)
  where
    by : (passage : Passage) (later : Ordered) → SameShape store passage.store → SameShape passage.store later.store → (b : Bool)
        → SameShape store (joined passage (cond b later (nothing_done passage.store passage.orders passage.trouble))).store
    by passage later first second true = shape-then store passage.store later.store first second
    by passage later first second false = first

-- ---- a loop of the main program

said-shape : (loop : Loop) → KeepsShape loop → (store : Store) (opening : HeaderResult) (said : Verdict) → SameShape store (visited_by loop store opening said).store
said-shape loop keeps store opening go_on =
    let ordered = order loop [] store opening.iterations in
    shape-then store ordered.store _ (order-shape loop keeps [] store opening.iterations) (shape-after (changes loop.form.localities loop.form.line ordered.runs ordered.store) ordered.store)
said-shape loop keeps store opening (at_header trouble) = same-shape store
said-shape loop keeps store opening (in_iteration trouble at) = same-shape store
said-shape loop keeps store opening (race found first second) = same-shape store

judged-shape : (loop : Loop) → KeepsShape loop → (store : Store) (reached : Reached ⊥ Trouble HeaderResult) → SameShape store (judged_by loop store reached).store
judged-shape loop keeps store (bad trouble) = same-shape store
judged-shape loop keeps store (done opening) = said-shape loop keeps store opening (verdict loop store opening.iterations)
judged-shape loop keeps store (paused event rest) = absurd event

visited-shape : (loop : Loop) → KeepsShape loop → (turns : ℕ) (store : Store) → SameShape store (visited judging loop turns store).store
visited-shape loop keeps turns store = judged-shape loop keeps store (over store (header_of loop.form turns)).reached

pub visit-store : (said : Verdict) (after : Store) (left : ℕ) → (visit_of said after left).store ≡ after
visit-store go_on after left = refl
visit-store (at_header trouble) after left = refl
visit-store (in_iteration trouble at) after left = refl
visit-store (race found first second) after left = refl

-- What a visit leaves.
pub left-shape : (loop : Loop) → KeepsShape loop → (turns left : ℕ) (before after : Store) (said : answers.Verdict) → IsVisitWith loop turns left before after said → SameShape before after
left-shape loop keeps turns left before after said visit =
    subst (SameShape before) (ap (λ (found : Visited). found.store) visit.is ∙ visit-store (seen said) after left) (visited-shape loop keeps turns before)
