-- The stores of a run, one after another, and what it is for them to fit the declared variables. This project's
-- own, on ISO/IEC 1539-1:2023, clauses 7.4, 8.5.8 and 19.6.
use Rattle.std.specs.Prelude.{◌≡◌, ℕ, ◌+◌, nat_le, true, List, [], ◌∷◌, filter_map, length, All, Option, Some, None, Result, Ok, Err, if◌then◌else◌, ℤ, pos}
use Rattle.std.specs.List.{Contains}
use Rattle.dc_int.specs.declared.access.ElementId.{ElementId}
use Rattle.dc_int.specs.declared.fault.FaultKind.{FaultKind}
use Rattle.dc_int.specs.declared.variable.Shape.{Shape}
use Rattle.dc_int.specs.Shapes.{store_fits}
use Rattle.dc_int.specs.Sorts.{Sort}
use Rattle.dc_int.specs.Store.{Store, elements_in, value_at, put_at, bounds_of}
use Rattle.dc_code.specs.Computation.{give, fail, read, define, undefine, contribute, ask, pause}
use Rattle.dc_code.specs.Inner.{Rule, judging}
use Rattle.dc_code.specs.Troubles.{Computing, Event, write_line, take_value, take_elements, end_reading, enter_loop, stop}
use Rattle.dc_code.specs.Verdicts.{Verdict, go_on}
use Rattle.dc_code.specs.Visits.{Visited}
use Rattle.dc_lists.specs.Input as input
use Rattle.dc_tree.specs.declared.symbols.Role as roles
use Rattle.dc_tree.specs.declared.symbols.Symbol.{Symbol}
use Rattle.dc_tree.specs.Blocks.{Source}
use Rattle.dc_tree.specs.Entities.{symbols_in}
use Rattle.dc_meaning.specs.Programs.{first_store, main_computation}
use Rattle.dc_run.specs.Playing.{Visit, Standing, Looping, greatest_output, with_input, with_store, looping_by}

-- ---- the declared variables

-- What the elements of a variable hold, and how many there are.
abbrev pub declared_shape : Symbol → Option Shape
declared_shape symbol = by symbol.role
  where
    by : roles.Role → Option Shape
    by (roles.Role.Variable logical kind bounds initial) = Some (record { kind = kind; logical = logical; elements = elements_in bounds })
    by role = None

-- The shapes of the main program's variables, in the order in which a store has these.
abbrev pub declared_shapes : List Symbol → List Shape
declared_shapes symbols = filter_map declared_shape (symbols_in 0 symbols)

-- A store fits the declared variables.
abbrev pub Fits : List Symbol → Store → Type 0
Fits symbols store = store_fits (declared_shapes symbols) store ≡ true

-- ---- the stores of a run

-- A line that is written changes no store.
abbrev pub stores_written : Standing → List ℕ → (Standing → ℤ → List Store) → List Store
stores_written at bytes rest =
    if nat_le (at.used + length bytes) greatest_output then rest (record { store = at.store; input = at.input; used = at.used + length bytes }) (pos 0) else []

-- Nor does a value that is taken, or the end of what is read.
abbrev pub stores_taken : Standing → Result (ℤ × List ℕ) FaultKind → (Standing → ℤ → List Store) → List Store
stores_taken at (Ok (z, left)) rest = rest (with_input at left) z
stores_taken at (Err fault) rest = []

abbrev pub stores_read : Standing → Result (List ℕ) FaultKind → (Standing → ℤ → List Store) → List Store
stores_read at (Ok left) rest = rest (with_input at left) (pos 0)
stores_read at (Err fault) rest = []

-- Values of elements, each taken and defined before the next.
abbrev pub stores_taken_each : Sort → List ElementId → Standing → (Standing → ℤ → List Store) → List Store
stores_taken_each sort [] at rest = rest at (pos 0)
stores_taken_each sort (x ∷ elements) at rest =
    stores_taken at (input.take_value sort at.input)
    (λ then_at z.
    put_at then_at.store x (Some z) ∷ stores_taken_each sort elements (record { store = put_at then_at.store x (Some z); input = then_at.input; used = then_at.used }) rest)

-- A loop leaves a store, with which the run goes on or ends.
abbrev pub stores_left : Standing → Visited → (Standing → ℤ → List Store) → List Store
stores_left at found rest = found.store ∷ by found.verdict
  where
    by : Verdict → List Store
    by go_on = rest (record { store = found.store; input = at.input; used = at.used }) (pos found.turns)
    by verdict = []

-- The stores that follow a pause.
abbrev pub stores_behind : Looping → Standing → Event → (Standing → ℤ → List Store) → List Store
stores_behind looping at (write_line line bytes) rest = stores_written at bytes rest
stores_behind looping at (take_value line sort) rest = stores_taken at (input.take_value sort at.input) rest
stores_behind looping at (take_elements line sort elements) rest = stores_taken_each sort elements at rest
stores_behind looping at (end_reading line items) rest = stores_read at (input.end_reading items at.input) rest
stores_behind looping at (enter_loop number turns slots) rest = stores_left at (looping number slots turns at.store) rest
stores_behind looping at stop rest = []

-- The stores to which a main program comes from where it stands: the one behind each definition, each element
-- that becomes undefined, each value that is taken for an element, and each loop.
abbrev pub stores_from : Looping → Standing → Computing Unit → List Store
stores_from looping at (give end) = []
stores_from looping at (fail failure) = []
stores_from looping at (read x line rest) = stores_from looping at (rest (value_at at.store x))
stores_from looping at (define x z line rest) = put_at at.store x (Some z) ∷ stores_from looping (with_store at (put_at at.store x (Some z))) rest
stores_from looping at (undefine x line rest) = put_at at.store x None ∷ stores_from looping (with_store at (put_at at.store x None)) rest
stores_from looping at (contribute x op z rest) = stores_from looping at rest
stores_from looping at (ask variable rest) = stores_from looping at (rest (bounds_of at.store variable))
stores_from looping at (pause event rest) = stores_behind looping at event (λ then_at told. stores_from looping then_at (rest told))

-- The stores of a run, from the one with which it begins to the one with which it ends. The store with which a
-- statement of the main program begins, and the one with which it ends, are among these.
abbrev pub stores_of : Rule → List Symbol → Source → ℕ → List ℕ → List Store
stores_of rule symbols source turns given =
    first_store symbols
    ∷ stores_from (looping_by rule symbols source turns) (record { store = first_store symbols; input = given; used = 0 }) (main_computation symbols source turns)

-- ---- the law

-- The stores before and after a loop that a run reaches are among its stores.
pub record IsAmong (stores : List Store) (visit : Visit) : Type 0 where
  pub opening : Contains stores visit.opening
  pub after : Contains stores visit.after

-- Each store of a run fits the declared variables: what a variable holds is always undefined or a value of its
-- kind, and each variable has all the elements within its bounds, and no other. So it is before and after each loop
-- that the run reaches, since these stores are among them.
pub record StoresFit (symbols : List Symbol) (source : Source) (turns : ℕ) (given : List ℕ) (visits : List Visit) : Type 0 where
  pub each : All (Fits symbols) (stores_of judging symbols source turns given)
  pub among : All (IsAmong (stores_of judging symbols source turns given)) visits
