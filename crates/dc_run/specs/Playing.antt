-- The run of a main program over a store and an input: its output, how it ends, and its loops. After
-- ISO/IEC 1539-1:2023, clauses 5.3.5 and 12.6; the limit of the output is this project's own.
use Rattle.std.specs.Prelude.{ℕ, ◌+◌, nat_le, List, [], ◌∷◌, ◌++◌, length, Option, Some, None, Result, Ok, Err, if◌then◌else◌, ℤ, pos}
use Rattle.dc_int.specs.declared.access.ElementId.{ElementId}
use Rattle.dc_int.specs.declared.fault.FaultKind.{FaultKind}
use Rattle.dc_int.specs.declared.fault.Why.{Why}
use Rattle.dc_int.specs.Sorts.{Sort}
use Rattle.dc_int.specs.Store.{Bounds, Store, value_at, put_at, bounds_of}
use Rattle.dc_code.specs.Computation.{give, fail, read, define, undefine, contribute, ask, pause}
use Rattle.dc_code.specs.Inner.{Rule, nested_loop, greatest_depth}
use Rattle.dc_code.specs.Troubles.{Trouble, raced, Computing, Slots, Event, write_line, take_value, take_elements, end_reading, enter_loop, stop}
use Rattle.dc_code.specs.Verdicts.{Verdict, go_on, in_iteration, race}
use Rattle.dc_code.specs.Visits.{Visited, visited}
use Rattle.dc_lists.specs.Input as input
use Rattle.dc_tree.specs.declared.symbols.Symbol.{Symbol}
use Rattle.dc_tree.specs.Blocks.{Source}
use Rattle.dc_meaning.specs.Programs.{first_store, main_computation, program_forms}
use Rattle.dc_run.specs.ReportLine.{Ending, done, bad, stopped}

-- A loop that the main program reached: its number, the entities around it, the turns and the store with which
-- it was reached, what was said of it, and the store after it.
pub record Visit : Type 0 where
  pub loop : ℕ
  pub inside : Slots
  pub turns : ℕ
  pub opening : Store
  pub verdict : Verdict
  pub after : Store

pub record Outcome : Type 0 where
  pub output : List ℕ
  pub ending : Ending
  pub visits : List Visit

-- Where a run stands: the store, the input that is left, and how many bytes were written.
pub record Standing : Type 0 where
  pub store : Store
  pub input : List ℕ
  pub used : ℕ

abbrev pub ends_with : Ending → Outcome
ends_with ending = record { output = []; ending = ending; visits = [] }

abbrev pub fails_with : FaultKind → ℕ → Outcome
fails_with kind line = ends_with (bad (record { why = Why.Fault kind; line = line }))

abbrev pub behind_output : List ℕ → Outcome → Outcome
behind_output bytes outcome = record { output = bytes ++ outcome.output; ending = outcome.ending; visits = outcome.visits }

abbrev pub behind_visit : Visit → Outcome → Outcome
behind_visit visit outcome = record { output = outcome.output; ending = outcome.ending; visits = visit ∷ outcome.visits }

-- ---- output

abbrev pub greatest_output : ℕ
greatest_output = 16777216

-- A line is written whole, unless the output would be too long.
abbrev pub writes : Standing → ℕ → List ℕ → (Standing → ℤ → Outcome) → Outcome
writes at line bytes rest =
    if nat_le (at.used + length bytes) greatest_output
    then behind_output bytes (rest (record { store = at.store; input = at.input; used = at.used + length bytes }) (pos 0))
    else fails_with FaultKind.OutputFull line

-- ---- input

abbrev pub with_input : Standing → List ℕ → Standing
with_input at left = record { store = at.store; input = left; used = at.used }

abbrev pub takes_one : Standing → ℕ → Result (ℤ × List ℕ) FaultKind → (Standing → ℤ → Outcome) → Outcome
takes_one at line (Ok (z, left)) rest = rest (with_input at left) z
takes_one at line (Err fault) rest = fails_with fault line

-- the values of elements, each taken and defined before the next
abbrev pub takes_each : ℕ → Sort → List ElementId → Standing → (Standing → ℤ → Outcome) → Outcome
takes_each line sort [] at rest = rest at (pos 0)
takes_each line sort (x ∷ elements) at rest =
    takes_one at line (input.take_value sort at.input)
    (λ then_at z. takes_each line sort elements (record { store = put_at then_at.store x (Some z); input = then_at.input; used = then_at.used }) rest)

abbrev pub ends_reading : Standing → ℕ → Result (List ℕ) FaultKind → (Standing → ℤ → Outcome) → Outcome
ends_reading at line (Ok left) rest = rest (with_input at left) (pos 0)
ends_reading at line (Err fault) rest = fails_with fault line

-- ---- loops

-- The bounds that the variable named in a race has in a store.
abbrev pub bounds_in : Store → Verdict → Bounds
bounds_in store verdict = by (element_in verdict)
  where
    in_trouble : Trouble → Option ElementId
    in_trouble (raced x first second path) = Some x
    in_trouble other = None

    element_in : Verdict → Option ElementId
    element_in (race found first second) = Some found.element
    element_in (in_iteration trouble at) = in_trouble trouble
    element_in other = None

    or_none : Option Bounds → Bounds
    or_none (Some bounds) = bounds
    or_none None = []

    by : Option ElementId → Bounds
    by (Some x) = or_none (bounds_of store x.variable)
    by None = []

-- What follows a loop: the run goes on with the store and the turns that the loop left, or it is stopped.
abbrev pub behind_loop : Standing → Visited → (Standing → ℤ → Outcome) → Outcome
behind_loop at found rest = by found.verdict
  where
    by : Verdict → Outcome
    by go_on = rest (record { store = found.store; input = at.input; used = at.used }) (pos found.turns)
    by verdict = ends_with (stopped verdict (bounds_in at.store verdict))

-- How the loop of a number is run, inside these entities, with so many turns and over a store.
abbrev pub Looping : Type 0
Looping = ℕ → Slots → ℕ → Store → Visited

abbrev pub visits_loop : Looping → Standing → ℕ → ℕ → Slots → (Standing → ℤ → Outcome) → Outcome
visits_loop looping at number turns slots rest = by (looping number slots turns at.store)
  where
    by : Visited → Outcome
    by found = behind_visit (record { loop = number; inside = slots; turns = turns; opening = at.store; verdict = found.verdict; after = found.store }) (behind_loop at found rest)

-- ---- the run

-- What is done at a pause, and then the rest with what it is told.
abbrev pub answered : Looping → Standing → Event → (Standing → ℤ → Outcome) → Outcome
answered looping at (write_line line bytes) rest = writes at line bytes rest
answered looping at (take_value line sort) rest = takes_one at line (input.take_value sort at.input) rest
answered looping at (take_elements line sort elements) rest = takes_each line sort elements at rest
answered looping at (end_reading line items) rest = ends_reading at line (input.end_reading items at.input) rest
answered looping at (enter_loop number turns slots) rest = visits_loop looping at number turns slots rest
answered looping at stop rest = ends_with done

abbrev pub with_store : Standing → Store → Standing
with_store at store = record { store = store; input = at.input; used = at.used }

-- A main program that is run from where it stands.
abbrev pub played : Looping → Standing → Computing Unit → Outcome
played looping at (give end) = ends_with done
played looping at (fail failure) = ends_with (bad failure)
played looping at (read x line rest) = played looping at (rest (value_at at.store x))
played looping at (define x z line rest) = played looping (with_store at (put_at at.store x (Some z))) rest
played looping at (undefine x line rest) = played looping (with_store at (put_at at.store x None)) rest
played looping at (contribute x op z rest) = played looping at rest
played looping at (ask variable rest) = played looping at (rest (bounds_of at.store variable))
played looping at (pause event rest) = answered looping at event (λ then_at told. played looping then_at (rest told))

-- The loops of a program under a rule, where each mask and each iteration has so many turns.
abbrev pub looping_by : Rule → List Symbol → Source → ℕ → Looping
looping_by rule symbols source turns number slots left store = visited rule (nested_loop rule (program_forms symbols source turns) greatest_depth number slots) left store

-- The run of a program under a rule, with so many turns and an input.
abbrev pub run : Rule → List Symbol → Source → ℕ → List ℕ → Outcome
run rule symbols source turns given =
    played (looping_by rule symbols source turns) (record { store = first_store symbols; input = given; used = 0 }) (main_computation symbols source turns)
