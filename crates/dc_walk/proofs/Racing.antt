-- The race that the marks name, and the store with which a loop goes on. Of loops whose variables have
-- unspecified locality.
use Rattle.std.proofs.Common.{◌≡◌, ℕ, zero, suc, ◌+◌, false, arith, List, [], ◌∷◌, ◌++◌, Option, Some, None, map, refl, sym, ap, ◌∙◌, subst, slice_get}
use Rattle.std.specs.Prelude.{option_map, option_and_then, filter, filter_map, flat_map, ℤ, is_none, if◌then◌else◌}
use Rattle.std.proofs.lemmas.Option.{none-some, same_Some}
use Rattle.dc_int.specs.declared.access.ElementId.{ElementId}
use Rattle.dc_int.specs.declared.fault.Why.{Why}
use Rattle.dc_int.specs.declared.variable.Locality.{Locality}
use Rattle.dc_int.specs.Entries.{Entry, Undefines, store_after}
use Rattle.dc_int.specs.Store.{Store, elements_of}
use Rattle.dc_int.proofs.Elements.{elements-after}
use Rattle.dc_code.specs.declared.verdict.Race.{Race}
use Rattle.dc_code.specs.Closing.{Localities, is_touched_twice, passed_to, reduced, reductions, closing}
use Rattle.dc_code.specs.declared.verdict.Verdict as answers
use Rattle.dc_code.specs.Loops.{Passage, Loop, alone, Ordered, Orders, behind_one, nothing_done, order, closed}
use Rattle.dc_code.specs.Troubles.{Trouble, ended}
use Rattle.dc_walk.specs.declared.judge.Bad as code
use Rattle.dc_code.specs.Pairs.{first_clash, pair}
use Rattle.dc_code.specs.Verdicts.{Verdict, in_iteration, race, race_in, race_among, first_of, judged, verdict, seen}
use Rattle.dc_walk.specs.Judging.{IsDone, IsPlainly, IsMarked, IsOrdered, IsJudged, combination, alone_passages, runs_of, bad_of, store_behind}
use Rattle.dc_plain.specs.Marks.{Named, Marks, blank_marks, marked_runs, named_from, forget_from}
use Rattle.dc_walk.specs.Pairing.{between_plain}
use Rattle.dc_plain.specs.Plainly.{plain}
use Rattle.dc_plain.specs.Views.{View}
use Rattle.dc_plain.proofs.Forgetting.{forgotten-is}
use Rattle.dc_plain.proofs.Scanning.{marks-name}

-- ---- the race, by the pair that is named

abbrev between_by : (ℕ → Locality) → Loop → Store → List (List ℤ) → ℕ × ℕ → Option Verdict
between_by locality parts store iterations (i, j) =
    option_and_then (λ first. option_and_then (λ second. option_and_then (λ found. Some (race found first second))
    (race_in locality i j (order parts [] store (first ∷ second ∷ [])).runs)) (slice_get iterations j)) (slice_get iterations i)

abbrev among_by : (ℕ → Locality) → Loop → Store → List (List ℤ) → List (List Entry) → Option Verdict
among_by locality parts store iterations runs =
    option_and_then (λ (x : ElementId). option_and_then (between_by locality parts store iterations) (pair (locality x.variable) x runs)) (first_clash locality store runs)

among-plain : (parts : Loop) → IsPlainly parts → (store : Store) (iterations : List (List ℤ)) (runs : List (List Entry))
    → race_among parts store iterations runs ≡ among_by plain parts store iterations runs
among-plain parts is store iterations runs = ap (λ l. among_by l parts store iterations runs) is.locality

-- what the marks of the iterations name
abbrev pub named_of_runs : Store → List (List Entry) → Option Named
named_of_runs store runs = named_from 0 (marked_runs 0 runs (blank_marks store))

clash-is : (store : Store) (runs : List (List Entry)) → first_clash plain store runs ≡ option_map (λ n. n.element) (named_of_runs store runs)
clash-is store runs = (marks-name store runs).element

pub among-none : (parts : Loop) → IsPlainly parts → (store : Store) (iterations : List (List ℤ)) (runs : List (List Entry))
    → named_of_runs store runs ≡ None → race_among parts store iterations runs ≡ None
among-none parts is store iterations runs none =
    among-plain parts is store iterations runs
    ∙ ap (option_and_then (λ (x : ElementId). option_and_then (between_plain parts store iterations) (pair Locality.Plain x runs))) (clash-is store runs ∙ ap (option_map (λ n. n.element)) none)

pub among-some : (parts : Loop) → IsPlainly parts → (store : Store) (iterations : List (List ℤ)) (runs : List (List Entry)) (named : Named)
    → named_of_runs store runs ≡ Some named → race_among parts store iterations runs ≡ between_plain parts store iterations named.pair
among-some parts is store iterations runs named some =
    among-plain parts is store iterations runs
    ∙ ap (option_and_then (λ (x : ElementId). option_and_then (between_plain parts store iterations) (pair Locality.Plain x runs))) (clash-is store runs ∙ ap (option_map (λ n. n.element)) some)
    ∙ ap (option_and_then (between_plain parts store iterations)) ((marks-name store runs).pairs named some)

get-combination : (active : List ℤ) (i : ℕ) → slice_get (map combination active) i ≡ option_map combination (slice_get active i)
get-combination [] i = refl
get-combination (z ∷ active) zero = refl
get-combination (z ∷ active) (suc i) = get-combination active i

abbrev second_by : Loop → Store → ℕ × ℕ → List ℤ → Option (List ℤ) → Option Verdict
second_by parts store (i, j) first second =
    option_and_then (λ s. option_and_then (λ found. Some (race found first s)) (race_in plain i j (order parts [] store (first ∷ s ∷ [])).runs)) second

between-first : (parts : Loop) (store : Store) (active : List ℤ) (p : ℕ × ℕ) (first : Option ℤ) → slice_get active p.0 ≡ first
    → between_plain parts store (map combination active) p ≡ option_and_then (λ f. second_by parts store p (combination f) (slice_get (map combination active) p.1)) first
between-first parts store active (i, j) first is =
    ap (option_and_then (λ f. second_by parts store (i, j) f (slice_get (map combination active) j))) (get-combination active i ∙ ap (option_map combination) is) ∙ mapped first
  where
    mapped : (o : Option ℤ) → option_and_then (λ f. second_by parts store (i, j) f (slice_get (map combination active) j)) (option_map combination o)
        ≡ option_and_then (λ f. second_by parts store (i, j) (combination f) (slice_get (map combination active) j)) o
    mapped None = refl
    mapped (Some z) = refl

pub no-first : (parts : Loop) (store : Store) (active : List ℤ) (p : ℕ × ℕ) → slice_get active p.0 ≡ None → between_plain parts store (map combination active) p ≡ None
no-first parts store active p none = between-first parts store active p None none

pub no-second : (parts : Loop) (store : Store) (active : List ℤ) (p : ℕ × ℕ) (f : ℤ) → slice_get active p.0 ≡ Some f → slice_get active p.1 ≡ None
    → between_plain parts store (map combination active) p ≡ None
no-second parts store active (i, j) f first none =
    between-first parts store active (i, j) (Some f) first ∙ ap (second_by parts store (i, j) (combination f)) (get-combination active j ∙ ap (option_map combination) none)

pub both-there : (parts : Loop) (store : Store) (active : List ℤ) (p : ℕ × ℕ) (f s : ℤ) → slice_get active p.0 ≡ Some f → slice_get active p.1 ≡ Some s
    → between_plain parts store (map combination active) p
    ≡ option_and_then (λ found. Some (race found (combination f) (combination s))) (race_in plain p.0 p.1 (order parts [] store (combination f ∷ combination s ∷ [])).runs)
both-there parts store active (i, j) f s first second =
    between-first parts store active (i, j) (Some f) first ∙ ap (second_by parts store (i, j) (combination f)) (get-combination active j ∙ ap (option_map combination) second)

-- ---- the closing store

none-passed : (localities : Localities) (runs : List (List Entry)) (elements : List ElementId)
    → flat_map (passed_to (record { locality = localities.locality; kind = localities.kind; passed = λ variable. false }) runs) elements ≡ []
none-passed localities runs [] = refl
none-passed localities runs (x ∷ elements) = none-passed localities runs elements

abbrev plain_localities : Localities → Localities
plain_localities localities = record { locality = plain; kind = localities.kind; passed = λ variable. false }

nothing-reduced : (localities : Localities) (line : ℕ) (runs : List (List Entry)) (store : Store) (elements : List ElementId) → filter_map (reduced (plain_localities localities) line runs store) elements ≡ []
nothing-reduced localities line runs store [] = refl
nothing-reduced localities line runs store (x ∷ elements) = nothing-reduced localities line runs store elements

no-reductions : (localities : Localities) (line : ℕ) (runs : List (List Entry)) (store : Store) → reductions (plain_localities localities) line runs store ≡ []
no-reductions localities line [] store = refl
no-reductions localities line (run ∷ runs) store = nothing-reduced localities line (run ∷ runs) store (elements_of store)

append-none : {A : Type 0} (xs : List A) → xs ++ [] ≡ xs
append-none [] = refl
append-none (x ∷ xs) = ap (λ ys. x ∷ ys) (append-none xs)

abbrev undefined_twice : ℕ → List (List Entry) → List ElementId → List Entry
undefined_twice line runs elements = map (λ x. Undefines x line) (filter (λ x. is_touched_twice x runs) elements)

plain-closing : (localities : Localities) (line : ℕ) (runs : List (List Entry)) (store : Store)
    → closing (plain_localities localities) line runs store ≡ store_after (undefined_twice line runs (elements_of store)) store
plain-closing localities line runs store =
    (λ i. store_after (undefined_twice line runs (elements_of store) ++ (none-passed (plain_localities localities) runs (elements_of store) i ++ no-reductions localities line runs store i)) store)
    ∙ ap (λ es. store_after es store) (append-none (undefined_twice line runs (elements_of store)))

known-plain : (parts : Loop) → IsPlainly parts → parts.form.localities ≡ plain_localities parts.form.localities
known-plain parts is = λ i. record { locality = is.locality i; kind = parts.form.localities.kind; passed = is.passed i }

behind-elements : (parts : Loop) (passage : Passage) (rest : Orders → Store → Ordered) (elements : List ElementId)
    → elements_of passage.store ≡ elements → elements_of (rest passage.orders passage.store).store ≡ elements → elements_of (behind_one passage rest).store ≡ elements
behind-elements parts passage rest elements first later = by passage.trouble
  where
    by : (trouble : Option Trouble)
        → elements_of (if is_none trouble then rest passage.orders passage.store else nothing_done passage.store passage.orders passage.trouble).store ≡ elements
    by None = later
    by (Some met) = first

-- An order leaves the elements as they were.
order-elements : (parts : Loop) → IsPlainly parts → (active : List ℤ) (orders : Orders) (store : Store) → orders ≡ [] → elements_of (order parts orders store (map combination active)).store ≡ elements_of store
order-elements parts is [] orders store none = refl
order-elements parts is (z ∷ active) orders store none =
    let passage = parts.block store orders (combination z) in
    let left : passage.orders ≡ [] = ap (λ o. (parts.block store o (combination z)).orders) none ∙ is.orders store z in
    let same : elements_of passage.store ≡ elements_of store =
    ap (λ o. elements_of (parts.block store o (combination z)).store) none ∙ ap elements_of (is.replays store z) ∙ elements-after (parts.block store [] (combination z)).entries store in
    behind-elements parts passage (λ o after. order parts o after (map combination active)) (elements_of store) same (order-elements parts is active passage.orders passage.store left ∙ same)

-- Where all variables have unspecified locality, a loop closes by forgetting what two iterations touched.
pub closes : (parts : Loop) → IsPlainly parts → (active : List ℤ) (store : Store)
    → closed parts (order parts [] store (map combination active))
    ≡ forget_from 0 (marked_runs 0 (order parts [] store (map combination active)).runs (blank_marks store)) (order parts [] store (map combination active)).store
closes parts is active store =
    let ordered = order parts [] store (map combination active) in
    let line = parts.form.line in
    ap (λ localities. closing localities line ordered.runs ordered.store) (known-plain parts is) ∙ plain-closing parts.form.localities line ordered.runs ordered.store
    ∙ ap (λ elements. store_after (undefined_twice line ordered.runs elements) ordered.store) (order-elements parts is active [] store refl)
    ∙ sym (forgotten-is line store ordered.store ordered.runs)

-- The same, of an order that was run over a copy of the store.
pub closed_by : (parts : Loop) → IsPlainly parts → (active : List ℤ) (store copy left final : Store) (before after : Marks)
    → copy ≡ store → before ≡ blank_marks store → IsOrdered (order parts [] copy (map combination active)) before left after → final ≡ forget_from 0 after left
    → final ≡ closed parts (order parts [] store (map combination active))
closed_by parts is active store copy left final before after copy_is before_is ordered final_is =
    let run : Store → Ordered = λ s. order parts [] s (map combination active) in
    final_is ∙ (λ i. forget_from 0 (ordered.marks i) (ordered.store_is i))
    ∙ (λ i. forget_from 0 (marked_runs 0 (run (copy_is i)).runs (before_is i)) (run (copy_is i)).store)
    ∙ sym (closes parts is active store)

-- ---- the verdict

abbrev passages_by : Loop → Store → List (List ℤ) → List Passage
passages_by parts store iterations = map (alone parts store) iterations

passages-are : (parts : Loop) (store : Store) (active : List ℤ) → passages_by parts store (map combination active) ≡ alone_passages parts store active
passages-are parts store [] = refl
passages-are parts store (z ∷ active) = ap (λ ps. alone parts store (combination z) ∷ ps) (passages-are parts store active)

pub verdict-is : (parts : Loop) (store : Store) (active : List ℤ)
    → verdict parts store (map combination active) ≡ first_of (bad_of parts store active) (race_among parts store (map combination active) (runs_of parts store active))
verdict-is parts store active = ap (judged parts store (map combination active)) (passages-are parts store active)

-- what a pair tells is a race, behind which the store is as before
pair-stays : (parts : Loop) (store : Store) (active : List ℤ) (p : ℕ × ℕ) (w : Verdict) → between_plain parts store (map combination active) p ≡ Some w → store_behind parts store active w ≡ store
pair-stays parts store active (i, j) w is = by_first (slice_get (map combination active) i) is
  where
    iterations : List (List ℤ)
    iterations = map combination active

    by_race : (first second : List ℤ) (found : Option Race) → option_and_then (λ r. Some (race r first second)) found ≡ Some w → store_behind parts store active w ≡ store
    by_race first second None told = absurd (none-some w told)
    by_race first second (Some r) told = subst (λ (v : Verdict). store_behind parts store active v ≡ store) (same_Some (race r first second) w told) refl

    by_second : (first : List ℤ) (second : Option (List ℤ))
        → option_and_then (λ s. option_and_then (λ found. Some (race found first s)) (race_in plain i j (order parts [] store (first ∷ s ∷ [])).runs)) second ≡ Some w
        → store_behind parts store active w ≡ store
    by_second first None told = absurd (none-some w told)
    by_second first (Some s) told = by_race first s (race_in plain i j (order parts [] store (first ∷ s ∷ [])).runs) told

    by_first : (first : Option (List ℤ))
        → option_and_then (λ f. option_and_then (λ s. option_and_then (λ found. Some (race found f s)) (race_in plain i j (order parts [] store (f ∷ s ∷ [])).runs)) (slice_get iterations j)) first ≡ Some w
        → store_behind parts store active w ≡ store
    by_first None told = absurd (none-some w told)
    by_first (Some f) told = by_second f (slice_get iterations j) told

pub race-stays : (parts : Loop) → IsPlainly parts → (store : Store) (active : List ℤ) (runs : List (List Entry)) (w : Verdict)
    → race_among parts store (map combination active) runs ≡ Some w → store_behind parts store active w ≡ store
race-stays parts is store active runs w told = by_named (named_of_runs store runs) refl
  where
    by_named : (named : Option Named) → named_of_runs store runs ≡ named → store_behind parts store active w ≡ store
    by_named None none = absurd (none-some w (sym (among-none parts is store (map combination active) runs none) ∙ told))
    by_named (Some n) some = pair-stays parts store active n.pair w (sym (among-some parts is store (map combination active) runs n some) ∙ told)

-- A race is what is said of the loop, where each iteration ends well.
pub judged-race : (parts : Loop) → IsPlainly parts → (store : Store) (active : List ℤ) (said : answers.Verdict) → bad_of parts store active ≡ None
    → Some (seen said) ≡ race_among parts store (map combination active) (runs_of parts store active) → IsJudged parts store active store said
judged-race parts is store active said well told = record {
  verdict_is = verdict-is parts store active ∙ (λ i. first_of (well i) (sym told i));
  store_is = sym (race-stays parts is store active (runs_of parts store active) (seen said) (sym told));
}

pub judged-well : (parts : Loop) (store after : Store) (active : List ℤ) → bad_of parts store active ≡ None
    → None ≡ race_among parts store (map combination active) (runs_of parts store active) → after ≡ closed parts (order parts [] store (map combination active))
    → IsJudged parts store active after answers.Verdict.GoOn
judged-well parts store after active well told closing_is = record {
  verdict_is = verdict-is parts store active ∙ (λ i. first_of (well i) (sym told i));
  store_is = closing_is;
}

pub judged-bad : (parts : Loop) (store : Store) (active : List ℤ) (said : answers.Verdict) (met : Trouble) (at : ℤ)
    → bad_of parts store active ≡ Some (in_iteration met (combination at)) → seen said ≡ in_iteration met (combination at) → IsJudged parts store active store said
judged-bad parts store active said met at bad told = record {
  verdict_is = verdict-is parts store active ∙ ap (λ b. first_of b (race_among parts store (map combination active) (runs_of parts store active))) bad ∙ sym told;
  store_is = ap (store_behind parts store active) (sym told);
}

-- The first iteration that doesn't end well is what is said of the loop.
pub judged-met : (parts : Loop) (store : Store) (active : List ℤ) (said : answers.Verdict) (before after : Marks) (bad : code.Bad) → IsMarked parts store active before after (Some bad)
    → ((z : ℤ) → slice_get active bad.iteration ≡ Some z → seen said ≡ in_iteration (ended bad.why bad.line []) (combination z)) → IsJudged parts store active store said
judged-met parts store active said before after bad (at, bad_is, k, at_k, counted) told =
    judged-bad parts store active said (ended bad.why bad.line []) at bad_is (told at (ap (slice_get active) (counted ∙ none-before) ∙ at_k))
  where
    none-before : 0 + k ≡ k
    none-before = omega arith

-- ---- two iterations in succession

-- nothing runs behind the last one
none-behind : (parts : Loop) (passage : Passage) (trouble : Option Trouble)
    → (if is_none trouble then order parts passage.orders passage.store [] else nothing_done passage.store passage.orders trouble).runs ≡ []
none-behind parts passage None = refl
none-behind parts passage (Some trouble) = refl

-- What two iterations did, the first of which ended well, is an order of them.
pub two-runs : (parts : Loop) (store : Store) (first second : ℤ) (one two : View) (met : Option (Why × ℕ)) → IsDone (parts.block store [] (combination first)) one None
    → IsDone (parts.block one.store [] (combination second)) two met → (order parts [] store (combination first ∷ combination second ∷ [])).runs ≡ one.entries ∷ two.entries ∷ []
two-runs parts store first second one two met done_first done_second =
    let here = parts.block store [] (combination first) in
    let later = parts.block one.store [] (combination second) in
    let rest = λ (orders : Orders) (after : Store). order parts orders after (combination second ∷ []) in
    ap (λ t. here.entries ∷ (if is_none t then rest here.orders here.store else nothing_done here.store here.orders t).runs) done_first.trouble
    ∙ (λ i. sym done_first.entries i ∷ (rest (done_first.orders i) (sym done_first.store i)).runs)
    ∙ (λ i. one.entries ∷ sym done_second.entries i ∷ none-behind parts later later.trouble i)
