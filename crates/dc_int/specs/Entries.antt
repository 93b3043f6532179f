-- What a block does to the store, entry by entry: accesses, and contributions to reductions.
-- After ISO/IEC 1539-1:2023, clauses 11.1.7 and 19.6; the words exposed and touched, and the order
-- of the lists, are this project's own.
use Rattle.std.specs.Prelude.{ℕ, Bool, true, false, not, ◌&&◌, ◌||◌, List, [], ◌∷◌, map, filter, Option, Some, None, if◌then◌else◌, ℤ}
use Rattle.std.specs.List.{filter_map, list_any}
use Rattle.dc_int.specs.declared.access.ElementId.{ElementId}
use Rattle.dc_int.specs.declared.access.Action.{Action}
use Rattle.dc_int.specs.declared.access.Access.{Access}
use Rattle.dc_int.specs.declared.access.Contribution.{Contribution}
use Rattle.dc_int.specs.declared.access.Touch.{Touch}
use Rattle.dc_int.specs.declared.operation.ReduceOp.{ReduceOp}
use Rattle.dc_int.specs.Store.{Store, put_at, same_element}

-- An access to an element, with the line of its statement and for a definition the value, or a
-- contribution to a REDUCE element.
pub data Entry : Type 0 where
  Reads : ElementId → ℕ → Entry
  Defines : ElementId → ℤ → ℕ → Entry
  Undefines : ElementId → ℕ → Entry
  Contributes : ElementId → ReduceOp → ℤ → Entry

-- ---- the store after, by clause 19.6

abbrev pub store_after_entry : Entry → Store → Store
store_after_entry (Defines x value line) store = put_at store x (Some value)
store_after_entry (Undefines x line) store = put_at store x None
store_after_entry entry store = store

abbrev pub store_after : List Entry → Store → Store
store_after [] store = store
store_after (entry ∷ entries) store = store_after entries (store_after_entry entry store)

-- ---- reads and touches, after clause 11.1.7

abbrev pub is_read_of : ElementId → Entry → Bool
is_read_of x (Reads y line) = same_element x y
is_read_of x entry = false

-- A touch is a definition or a becoming undefined.
abbrev pub is_touch_of : ElementId → Entry → Bool
is_touch_of x (Defines y value line) = same_element x y
is_touch_of x (Undefines y line) = same_element x y
is_touch_of x entry = false

abbrev pub reads : ElementId → List Entry → Bool
reads x entries = list_any (is_read_of x) entries

abbrev pub touches : ElementId → List Entry → Bool
touches x entries = list_any (is_touch_of x) entries

-- An exposed read is one with no earlier touch of the same element.
abbrev pub exposes : ElementId → List Entry → Bool
exposes x [] = false
exposes x (entry ∷ entries) = is_read_of x entry || (not (is_touch_of x entry) && exposes x entries)

-- ---- lists of elements, this project's own

abbrev pub without : ElementId → List ElementId → List ElementId
without x elements = filter (λ y. not (same_element x y)) elements

abbrev pub touched_by : Entry → List ElementId → List ElementId
touched_by (Defines x value line) later = x ∷ without x later
touched_by (Undefines x line) later = x ∷ without x later
touched_by entry later = later

-- The touched elements, each once, in the order of first touch.
abbrev pub touched_of : List Entry → List ElementId
touched_of [] = []
touched_of (entry ∷ entries) = touched_by entry (touched_of entries)

abbrev pub exposed_by : Entry → List ElementId → List ElementId
exposed_by (Reads x line) later = x ∷ without x later
exposed_by (Defines x value line) later = without x later
exposed_by (Undefines x line) later = without x later
exposed_by (Contributes x op value) later = later

-- The elements with an exposed read, each once, in the order of their first reads.
abbrev pub exposed_of : List Entry → List ElementId
exposed_of [] = []
exposed_of (entry ∷ entries) = exposed_by entry (exposed_of entries)

-- ---- first accesses, this project's own

-- Both are reads, or both are touches, of one element.
abbrev pub alike : Entry → Entry → Bool
alike (Reads x line) later = is_read_of x later
alike (Defines x value line) later = is_touch_of x later
alike (Undefines x line) later = is_touch_of x later
alike (Contributes x op value) later = false

abbrev pub is_access : Entry → Bool
is_access (Contributes x op value) = false
is_access entry = true

-- The first accesses, in order: the entries that are the first read or the first touch of their
-- element.
abbrev pub firsts : List Entry → List Entry
firsts [] = []
firsts (entry ∷ entries) =
    let later = filter (λ other. not (alike entry other)) (firsts entries) in
    if is_access entry then entry ∷ later else later

-- ---- last states, this project's own

abbrev pub state_after_entry : ElementId → Entry → Option ℤ → Option ℤ
state_after_entry x (Defines y value line) state = if same_element x y then Some value else state
state_after_entry x (Undefines y line) state = if same_element x y then None else state
state_after_entry x entry state = state

-- The state in which the entries leave an element that was in this state.
abbrev pub state_after : ElementId → List Entry → Option ℤ → Option ℤ
state_after x [] state = state
state_after x (entry ∷ entries) state = state_after x entries (state_after_entry x entry state)

abbrev pub last_state : List Entry → ElementId → Touch
last_state entries x = record { element = x; value = state_after x entries None }

-- The last states: each touched element with the state that the entries leave, in the order of
-- first touch.
abbrev pub last_states : List Entry → List Touch
last_states entries = map (last_state entries) (touched_of entries)

-- The one entry that leaves an element in a last state, at a line.
abbrev pub settling_as : ElementId → ℕ → Option ℤ → Entry
settling_as x line (Some value) = Defines x value line
settling_as x line None = Undefines x line

abbrev pub settling : ℕ → Touch → Entry
settling line touch = settling_as touch.element line touch.value

-- ---- as the code lists them, this project's own

abbrev pub access_of : Entry → Option Access
access_of (Reads x line) = Some (record { action = Action.Reads; element = x; line = line })
access_of (Defines x value line) = Some (record { action = Action.Defines; element = x; line = line })
access_of (Undefines x line) = Some (record { action = Action.Undefines; element = x; line = line })
access_of (Contributes x op value) = None

abbrev pub accesses_of : List Entry → List Access
accesses_of entries = filter_map access_of entries

abbrev pub contribution_of : Entry → Option Contribution
contribution_of (Contributes x op value) = Some (record { element = x; value = value })
contribution_of entry = None

abbrev pub contributions_of : List Entry → List Contribution
contributions_of entries = filter_map contribution_of entries
