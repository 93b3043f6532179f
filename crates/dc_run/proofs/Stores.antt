-- Each store of a run fits the declared variables, and those around its loops are among them.
use Rattle.std.proofs.Common.{◌≡◌, ℕ, ◌+◌, Bool, true, false, ◌&&◌, List, [], ◌∷◌, length, All, Some, None, Result, Ok, Err, lit<}
use Rattle.std.proofs.lemmas.Bool.{and_parts}
use Rattle.std.proofs.lemmas.List.Elements.{All-nil, All-cons, All-weaker, Contains-get_or, Contains-append_left, Contains-append_right}
use Rattle.std.specs.Prelude.{ℤ, pos, nat_le, if◌then◌else◌}
use Rattle.std.specs.List.{list_all, Contains}
use Rattle.dc_int.specs.declared.access.ElementId.{ElementId}
use Rattle.dc_int.specs.declared.fault.FaultKind.{FaultKind}
use Rattle.dc_int.specs.declared.variable.Shape.{Shape}
use Rattle.dc_int.specs.Sorts.{Sort}
use Rattle.dc_int.specs.Store.{Store, value_at, put_at, bounds_of}
use Rattle.dc_int.proofs.Fits.{fits-put}
use Rattle.dc_code.specs.Computation.{give, fail, read, define, undefine, contribute, ask, pause}
use Rattle.dc_code.specs.Inner.{judging}
use Rattle.dc_code.specs.Troubles.{Computing, Slots, Event, write_line, take_value, take_elements, end_reading, enter_loop, stop}
use Rattle.dc_code.specs.Verdicts.{Verdict, go_on, at_header, in_iteration, race}
use Rattle.dc_code.specs.Visits.{Visited}
use Rattle.dc_lists.specs.Input as input
use Rattle.dc_tree.specs.declared.symbols.Symbol.{Symbol}
use Rattle.dc_tree.specs.Blocks.{Source}
use Rattle.dc_form.specs.BuiltPrograms.{greatest_names, greatest_elements, elements_of_all, is_built_symbol, are_built_symbols, is_built}
use Rattle.dc_tree.specs.Symbols.{is_sound}
use Rattle.dc_meaning.specs.Programs.{first_store, main_computation}
use Rattle.dc_meaning.proofs.Doing.{Any, Only}
use Rattle.dc_walk.proofs.EveryOrder.{visit-fits}
use Rattle.dc_meaning.proofs.ProgramLoops.{built-source}
use Rattle.dc_run.specs.Playing.{Visit, Outcome, Standing, Looping, greatest_output, fails_with, behind_output, behind_visit, with_input, with_store, takes_one, takes_each, ends_reading, behind_loop, answered, played, looping_by, run}
use Rattle.dc_run.specs.Stores.{declared_shapes, Fits, IsAmong, StoresFit, stores_taken, stores_taken_each, stores_read, stores_left, stores_behind, stores_from}
use Rattle.dc_run.proofs.Fitting.{TakesNothing, keeping, shapes-sorted, main-keeps}
use Rattle.dc_run.proofs.FirstFits.{first-fits}

-- ---- a run

module _ (symbols : List Symbol) (looping : Looping)
    (kept : (number : ℕ) (slots : Slots) (left : ℕ) (store : Store) → Fits symbols store → Fits symbols (looping number slots left store).store) where
  abbrev shapes : List Shape
  shapes = declared_shapes symbols

  abbrev AllFit : List Store → Type 0
  AllFit stores = All (Fits symbols) stores

  -- what follows a pause
  abbrev FitThen : (Standing → ℤ → List Store) → Type 0
  FitThen later = (then_at : Standing) (told : ℤ) → Fits symbols then_at.store → AllFit (later then_at told)

  none-fit : AllFit []
  none-fit = All-nil (Fits symbols)

  more-fit : (store : Store) (stores : List Store) → Fits symbols store → AllFit stores → AllFit (store ∷ stores)
  more-fit store stores fits all = All-cons (Fits symbols) store stores fits all

  written-fit : (stores : List Store) (room : Bool) → AllFit stores → AllFit (if room then stores else [])
  written-fit stores true all = all
  written-fit stores false all = none-fit

  taken-fit : (at : Standing) (taken : Result (ℤ × List ℕ) FaultKind) (later : Standing → ℤ → List Store) → Fits symbols at.store → FitThen later → AllFit (stores_taken at taken later)
  taken-fit at (Ok (z, left)) later fits all = all (with_input at left) z fits
  taken-fit at (Err fault) later fits all = none-fit

  read-fit : (at : Standing) (ended : Result (List ℕ) FaultKind) (later : Standing → ℤ → List Store) → Fits symbols at.store → FitThen later → AllFit (stores_read at ended later)
  read-fit at (Ok left) later fits all = all (with_input at left) (pos 0) fits
  read-fit at (Err fault) later fits all = none-fit

  left-fit : (at : Standing) (said : Verdict) (store : Store) (left : ℕ) (later : Standing → ℤ → List Store) → Fits symbols store → FitThen later
      → AllFit (stores_left at (record { verdict = said; store = store; turns = left }) later)
  left-fit at go_on store left later fits all =
      let then_at : Standing = record { store = store; input = at.input; used = at.used } in more-fit store (later then_at (pos left)) fits (all then_at (pos left) fits)
  left-fit at (at_header trouble) store left later fits all = more-fit store [] fits none-fit
  left-fit at (in_iteration trouble values) store left later fits all = more-fit store [] fits none-fit
  left-fit at (race found first second) store left later fits all = more-fit store [] fits none-fit

  behind-fit : (at : Standing) (event : Event) (later : Standing → ℤ → List Store) → TakesNothing event → Fits symbols at.store → FitThen later
      → AllFit (stores_behind looping at event later)
  behind-fit at (write_line line bytes) later takes fits all =
      let used = at.used + length bytes in
      let then_at : Standing = record { store = at.store; input = at.input; used = used } in
      written-fit (later then_at (pos 0)) (nat_le used greatest_output) (all then_at (pos 0) fits)
  behind-fit at (take_value line sort) later takes fits all = taken-fit at (input.take_value sort at.input) later fits all
  behind-fit at (take_elements line sort elements) later takes fits all = absurd takes
  behind-fit at (end_reading line items) later takes fits all = read-fit at (input.end_reading items at.input) later fits all
  behind-fit at (enter_loop number turns slots) later takes fits all =
      let found = looping number slots turns at.store in left-fit at found.verdict found.store found.turns later (kept number slots turns at.store fits) all
  behind-fit at stop later takes fits all = none-fit

  from-fit : (at : Standing) (c : Computing Unit) → Only (keeping shapes) Any c → Fits symbols at.store → AllFit (stores_from looping at c)
  from-fit at (give end) only fits = none-fit
  from-fit at (fail failure) only fits = none-fit
  from-fit at (read x line rest) only fits = from-fit at (rest (value_at at.store x)) (only.1 (value_at at.store x)) fits
  from-fit at (define x z line rest) only fits =
      let store = put_at at.store x (Some z) in
      let after : Fits symbols store = fits-put shapes at.store x (Some z) fits only.1 in
      more-fit store (stores_from looping (with_store at store) rest) after (from-fit (with_store at store) rest only.2 after)
  from-fit at (undefine x line rest) only fits =
      let store = put_at at.store x None in
      let after : Fits symbols store = fits-put shapes at.store x None fits only.1 in
      more-fit store (stores_from looping (with_store at store) rest) after (from-fit (with_store at store) rest only.2 after)
  from-fit at (contribute x op z rest) only fits = absurd only
  from-fit at (ask variable rest) only fits = from-fit at (rest (bounds_of at.store variable)) (only (bounds_of at.store variable)) fits
  from-fit at (pause event rest) only fits =
      behind-fit at event (λ then_at told. stores_from looping then_at (rest told)) only.0 fits (λ then_at told after. from-fit then_at (rest told) (only.1 told) after)

-- ---- its loops

here-is : (store : Store) (stores : List Store) → Contains (store ∷ stores) store
here-is store stores = Contains-append_left (store ∷ []) stores store (Contains-get_or (store ∷ []) 0 store (lit< tt))

later-is : (store : Store) (stores : List Store) (other : Store) → Contains stores other → Contains (store ∷ stores) other
later-is store stores other is = Contains-append_right (store ∷ []) stores other is

among-more : (store : Store) (stores : List Store) (visits : List Visit) → All (IsAmong stores) visits → All (IsAmong (store ∷ stores)) visits
among-more store stores visits all =
    All-weaker (IsAmong stores) (IsAmong (store ∷ stores))
    (λ visit is. record { opening = later-is store stores visit.opening is.opening; after = later-is store stores visit.after is.after }) visits all

-- The stores around each loop of a run from where it stands are among the store here and those that follow.
abbrev AllAmong : Standing → Outcome → List Store → Type 0
AllAmong at outcome stores = All (IsAmong (at.store ∷ stores)) outcome.visits

abbrev AmongThen : (Standing → ℤ → Outcome) → (Standing → ℤ → List Store) → Type 0
AmongThen rest later = (then_at : Standing) (told : ℤ) → AllAmong then_at (rest then_at told) (later then_at told)

no-visits : (stores : List Store) → All (IsAmong stores) []
no-visits stores = All-nil (IsAmong stores)

written-among : (at : Standing) (line : ℕ) (bytes : List ℕ) (next : Outcome) (stores : List Store) (room : Bool) → AllAmong at next stores
    → AllAmong at (if room then behind_output bytes next else fails_with FaultKind.OutputFull line) (if room then stores else [])
written-among at line bytes next stores true all = all
written-among at line bytes next stores false all = no-visits (at.store ∷ [])

taken-among : (at : Standing) (line : ℕ) (taken : Result (ℤ × List ℕ) FaultKind) (rest : Standing → ℤ → Outcome) (later : Standing → ℤ → List Store) → AmongThen rest later
    → AllAmong at (takes_one at line taken rest) (stores_taken at taken later)
taken-among at line (Ok (z, left)) rest later all = all (with_input at left) z
taken-among at line (Err fault) rest later all = no-visits (at.store ∷ [])

read-among : (at : Standing) (line : ℕ) (ended : Result (List ℕ) FaultKind) (rest : Standing → ℤ → Outcome) (later : Standing → ℤ → List Store) → AmongThen rest later
    → AllAmong at (ends_reading at line ended rest) (stores_read at ended later)
read-among at line (Ok left) rest later all = all (with_input at left) (pos 0)
read-among at line (Err fault) rest later all = no-visits (at.store ∷ [])

each-among : (line : ℕ) (sort : Sort) (elements : List ElementId) (at : Standing) (rest : Standing → ℤ → Outcome) (later : Standing → ℤ → List Store) → AmongThen rest later
    → AllAmong at (takes_each line sort elements at rest) (stores_taken_each sort elements at later)
each-among line sort [] at rest later all = all at (pos 0)
each-among line sort (x ∷ elements) at rest later all =
    taken-among at line (input.take_value sort at.input)
    (λ then_at z. takes_each line sort elements (record { store = put_at then_at.store x (Some z); input = then_at.input; used = then_at.used }) rest)
    (λ then_at z. put_at then_at.store x (Some z) ∷ stores_taken_each sort elements (record { store = put_at then_at.store x (Some z); input = then_at.input; used = then_at.used }) later)
    (λ then_at z.
    let next : Standing = record { store = put_at then_at.store x (Some z); input = then_at.input; used = then_at.used } in
    among-more then_at.store (next.store ∷ stores_taken_each sort elements next later) (takes_each line sort elements next rest).visits
    (each-among line sort elements next rest later all))

module _ (at : Standing) (number turns : ℕ) (slots : Slots) (rest : Standing → ℤ → Outcome) (later : Standing → ℤ → List Store) (all : AmongThen rest later) where
  abbrev visit_by : Visited → Visit
  visit_by found = record { loop = number; inside = slots; turns = turns; opening = at.store; verdict = found.verdict; after = found.store }

  visit-among : (found : Visited) (stores : List Store) → IsAmong (at.store ∷ found.store ∷ stores) (visit_by found)
  visit-among found stores = record {
    opening = here-is at.store (found.store ∷ stores);
    after = later-is at.store (found.store ∷ stores) found.store (here-is found.store stores);
  }

  -- a loop that stops the run
  stop-among : (found : Visited) → All (IsAmong (at.store ∷ found.store ∷ [])) (visit_by found ∷ [])
  stop-among found =
      All-cons (IsAmong (at.store ∷ found.store ∷ [])) (visit_by found) [] (visit-among found []) (no-visits (at.store ∷ found.store ∷ []))

  left-among : (said : Verdict) (store : Store) (left : ℕ)
      → AllAmong at (behind_visit (visit_by (record { verdict = said; store = store; turns = left })) (behind_loop at (record { verdict = said; store = store; turns = left }) rest))
      (stores_left at (record { verdict = said; store = store; turns = left }) later)
  left-among go_on store left =
      let found : Visited = record { verdict = go_on; store = store; turns = left } in
      let then_at : Standing = record { store = store; input = at.input; used = at.used } in
      let stores = later then_at (pos left) in
      let visits = (rest then_at (pos left)).visits in
      All-cons (IsAmong (at.store ∷ store ∷ stores)) (visit_by found) visits (visit-among found stores)
      (among-more at.store (store ∷ stores) visits (all then_at (pos left)))
  left-among (at_header trouble) store left = stop-among (record { verdict = at_header trouble; store = store; turns = left })
  left-among (in_iteration trouble values) store left = stop-among (record { verdict = in_iteration trouble values; store = store; turns = left })
  left-among (race found first second) store left = stop-among (record { verdict = race found first second; store = store; turns = left })

module _ (looping : Looping) where
  pause-among : (at : Standing) (event : Event) (rest : Standing → ℤ → Outcome) (later : Standing → ℤ → List Store) → AmongThen rest later
      → AllAmong at (answered looping at event rest) (stores_behind looping at event later)
  pause-among at (write_line line bytes) rest later all =
      let then_at : Standing = record { store = at.store; input = at.input; used = at.used + length bytes } in
      written-among at line bytes (rest then_at (pos 0)) (later then_at (pos 0)) (nat_le (at.used + length bytes) greatest_output) (all then_at (pos 0))
  pause-among at (take_value line sort) rest later all = taken-among at line (input.take_value sort at.input) rest later all
  pause-among at (take_elements line sort elements) rest later all = each-among line sort elements at rest later all
  pause-among at (end_reading line items) rest later all = read-among at line (input.end_reading items at.input) rest later all
  pause-among at (enter_loop number turns slots) rest later all =
      let found = looping number slots turns at.store in left-among at number turns slots rest later all found.verdict found.store found.turns
  pause-among at stop rest later all = no-visits (at.store ∷ [])

  play-among : (at : Standing) (c : Computing Unit) → AllAmong at (played looping at c) (stores_from looping at c)
  play-among at (give end) = no-visits (at.store ∷ [])
  play-among at (fail failure) = no-visits (at.store ∷ [])
  play-among at (read x line rest) = play-among at (rest (value_at at.store x))
  play-among at (define x z line rest) =
      let next = with_store at (put_at at.store x (Some z)) in
      among-more at.store (next.store ∷ stores_from looping next rest) (played looping next rest).visits (play-among next rest)
  play-among at (undefine x line rest) =
      let next = with_store at (put_at at.store x None) in
      among-more at.store (next.store ∷ stores_from looping next rest) (played looping next rest).visits (play-among next rest)
  play-among at (contribute x op z rest) = play-among at rest
  play-among at (ask variable rest) = play-among at (rest (bounds_of at.store variable))
  play-among at (pause event rest) =
      pause-among at event (λ then_at told. played looping then_at (rest told)) (λ then_at told. stores_from looping then_at (rest told)) (λ then_at told. play-among then_at (rest told))

-- ---- a program

pub all-built : (symbols : List Symbol) → are_built_symbols symbols ≡ true → list_all is_built_symbol symbols ≡ true
all-built symbols built =
    let few = nat_le (elements_of_all symbols) greatest_elements in
    let parts = and_parts (nat_le (length symbols) greatest_names) (list_all is_built_symbol symbols && few) built in
    (and_parts (list_all is_built_symbol symbols) few parts.1).0

-- Each store of a run fits.
pub stores-fit : (symbols : List Symbol) (source : Source) (turns : ℕ) (given : List ℕ) → list_all is_sound symbols ≡ true → is_built symbols source ≡ true
    → StoresFit symbols source turns given (run judging symbols source turns given).visits
stores-fit symbols source turns given sound built =
    let parts = built-source symbols source built in
    let start = first-fits symbols (all-built symbols parts.names) sound in
    let looping = looping_by judging symbols source turns in
    let at : Standing = record { store = first_store symbols; input = given; used = 0 } in
    let c = main_computation symbols source turns in
    record {
      each =
          All-cons (Fits symbols) (first_store symbols) (stores_from looping at c) start
          (from-fit symbols looping
          (λ number slots left store fits. visit-fits symbols source built turns number slots (declared_shapes symbols) (shapes-sorted symbols) left store fits) at c
          (main-keeps symbols source turns parts.names parts.body) start);
      among = play-among looping at c;
    }
