-- How an iteration or a loop ends badly, and what a computation pauses for. This project's own.
use Rattle.std.specs.Prelude.{ℕ, List, [], ◌∷◌, Option, ℤ}
use Rattle.dc_int.specs.declared.access.Action.{Action}
use Rattle.dc_int.specs.declared.access.ElementId.{ElementId}
use Rattle.dc_int.specs.declared.fault.Why.{Why}
use Rattle.dc_int.specs.Sorts.{Sort}
use Rattle.dc_code.specs.Computation.{Computation}

-- A fault or a spent limit, at the line of its statement.
pub record Failure : Type 0 where
  pub why : Why
  pub line : ℕ

-- The index values of iterations of inner loops, from the outermost of these on.
abbrev pub Path : Type 0
Path = List (List ℤ)

-- One of two iterations that don't keep a restriction: its index values, and what it does.
pub record Side : Type 0 where
  pub at : List ℤ
  pub action : Action
  pub line : ℕ

-- A failure in an iteration of a loop or in a mask, at the values of the mask's indexes, or a race of an
-- inner loop. The path says in which iterations of inner loops it comes.
pub data Trouble : Type 0 where
  ended : Why → ℕ → Path → Trouble
  masked : Why → ℕ → Path → List ℤ → Trouble
  raced : ElementId → Side → Side → Path → Trouble

abbrev pub in_statement : Failure → Trouble
in_statement failure = ended failure.why failure.line []

abbrev pub in_mask : List ℤ → Failure → Trouble
in_mask at failure = masked failure.why failure.line [] at

-- The trouble as it is seen from the loop around, in whose block an iteration with these index values
-- meets it.
abbrev pub inside : List ℤ → Trouble → Trouble
inside at (ended why line path) = ended why line (at ∷ path)
inside at (masked why line path mask) = masked why line (at ∷ path) mask
inside at (raced x first second path) = raced x first second (at ∷ path)

-- The entities of a program unit, group after group: each group is a variable's elements.
abbrev pub Slots : Type 0
Slots = List (List (Option ℤ))

-- What a computation pauses for: to write the bytes of a line, to take one value of a sort, to take the values of
-- these elements, to end the reading of so many items, to run a loop with so many turns left inside these
-- entities, or to stop. What it is told is the value that was taken, or the turns that the loop left.
pub data Event : Type 0 where
  write_line : ℕ → List ℕ → Event
  take_value : ℕ → Sort → Event
  take_elements : ℕ → Sort → List ElementId → Event
  end_reading : ℕ → ℕ → Event
  enter_loop : ℕ → ℕ → Slots → Event
  stop : Event

-- What a source or a code computes.
abbrev pub Computing : Type 0 → Type 0
Computing A = Computation Event Failure A
