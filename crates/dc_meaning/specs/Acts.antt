-- Acts: computations that also change the frames of the program units and spend turns. This project's own.
use Rattle.std.specs.Prelude.{ℕ, zero, suc, ◌-◌, List, [], ◌∷◌, ◌++◌, length, take, slice_get, slice_set, Option, Some, None, option_and_then, ℤ}
use Rattle.dc_int.specs.declared.fault.FaultKind.{FaultKind}
use Rattle.dc_int.specs.declared.fault.Why.{Why}
use Rattle.dc_int.specs.Store.{changed_at, number_in}
use Rattle.dc_code.specs.declared.frame.Passed.{Passed}
use Rattle.dc_code.specs.declared.frame.Place.{Place}
use Rattle.dc_code.specs.Computation.{give, fail, read, define, undefine, sequence}
use Rattle.dc_code.specs.Troubles.{Computing, Slots}

-- What a unit has: its slots, and what its dummies are associated with. After ISO/IEC 1539-1:2023, clause 15.5.2;
-- that an INTENT(IN) dummy takes a value is this project's own.
pub record Frame : Type 0 where
  pub slots : Slots
  pub dummies : List Passed

-- The frames of the units that are being executed, the innermost last, and the turns left.
pub record State : Type 0 where
  pub frames : List Frame
  pub turns : ℕ

abbrev pub Act : Type 0 → Type 0
Act A = State → Computing (A × State)

-- First this, then what its result asks for; for `do` blocks.
infixl 20 ◌>>=◌
abbrev pub ◌>>=◌ : {A B : Type 0} → Act A → (A → Act B) → Act B
(act >>= next) state = sequence (act state) (λ w. next w.0 w.1)

-- ---- single acts

abbrev pub just : {A : Type 0} → A → Act A
just a state = give (a, state)

-- A computation that leaves frames and turns.
abbrev pub doing : {A : Type 0} → Computing A → Act A
doing computation state = sequence computation (λ a. give (a, state))

abbrev pub wrong : {A : Type 0} → FaultKind → ℕ → Act A
wrong kind line state = fail (record { why = Why.Fault kind; line = line })

-- One turn is spent, at a line.
abbrev pub spend : ℕ → Act Unit
spend line state = by state.turns
  where
    by : ℕ → Computing (Unit × State)
    by zero = fail (record { why = Why.Spent; line = line })
    by (suc left) = give (tt, record { frames = state.frames; turns = left })

-- An act for each item, from the first on, and their results.
abbrev pub for_each : {A B : Type 0} → (A → Act B) → List A → Act (List B)
for_each act [] = just []
for_each act (item ∷ items) = do
  first ← act item
  rest ← for_each act items
  just (first ∷ rest)

-- ---- frames

abbrev pub level : Act ℕ
level state = give (length state.frames - 1, state)

abbrev pub with_frames : (List Frame → List Frame) → Act Unit
with_frames change state = give (tt, record { frames = change state.frames; turns = state.turns })

-- A unit is entered with these slots and dummies, and left again.
abbrev pub enter_unit : Slots → List Passed → Act Unit
enter_unit slots dummies = with_frames (λ frames. frames ++ record { slots = slots; dummies = dummies } ∷ [])

abbrev pub leave_unit : Act Unit
leave_unit = with_frames (λ frames. take (length frames - 1) frames)

abbrev pub innermost : State → Frame
innermost state = by (slice_get state.frames (length state.frames - 1))
  where
    by : Option Frame → Frame
    by (Some frame) = frame
    by None = record { slots = []; dummies = [] }

-- The dummy of the innermost unit at a place.
abbrev pub passed_at : ℕ → Act (Option Passed)
passed_at place state = give (slice_get (innermost state).dummies place, state)

-- ---- slots

abbrev pub slot_of : List Frame → ℕ → ℕ → ℕ → Option ℤ
slot_of frames level group position =
    number_in (option_and_then (λ frame. option_and_then (λ cells. slice_get cells position) (slice_get frame.slots group)) (slice_get frames level))

abbrev pub slot_put : ℕ → ℕ → ℕ → Option ℤ → List Frame → List Frame
slot_put level group position state frames = changed_at in_frame_changed frames level
  where
    in_frame_changed : Frame → Frame
    in_frame_changed frame = record { slots = changed_at (λ cells. slice_set cells position state) frame.slots group; dummies = frame.dummies }

-- ---- reading and defining, at a line

-- What stands at a place. An element of an outside variable is read by an entry.
abbrev pub load : ℕ → Place → Act (Option ℤ)
load line (Place.Outer x) = doing (read x line (λ state. give state))
load line (Place.InFrame level group position) = λ state. give (slot_of state.frames level group position, state)

abbrev pub store : ℕ → Place → ℤ → Act Unit
store line (Place.Outer x) value = doing (define x value line (give tt))
store line (Place.InFrame level group position) value = with_frames (slot_put level group position (Some value))

-- What stands at a place becomes undefined.
abbrev pub forget : ℕ → Place → Act Unit
forget line (Place.Outer x) = doing (undefine x line (give tt))
forget line (Place.InFrame level group position) = with_frames (slot_put level group position None)

-- A number that has to be there.
abbrev pub required : ℕ → Option ℤ → Act ℤ
required line (Some value) = just value
required line None = wrong FaultKind.Undefined line

-- A reference to a place, which has to be defined.
abbrev pub refer_to : ℕ → Place → Act ℤ
refer_to line place = load line place >>= required line
