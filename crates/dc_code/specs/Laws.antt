-- What the laws of loops ask of a loop, and what they say of the orders of its iterations. This project's
-- own, on ISO/IEC 1539-1:2023, clauses 11.1.7.4 and 11.1.7.5.
use Rattle.std.specs.Prelude.{◌≡◌, ◌≢◌, ◌⊎◌, ℕ, Bool, true, false, ◌||◌, List, [], ◌∷◌, map, slice_get, All, Option, Some, None, is_some, ℤ}
use Rattle.std.specs.List.{list_any}
use Rattle.dc_int.specs.declared.access.Access.{Access}
use Rattle.dc_int.specs.declared.access.Action.{Action}
use Rattle.dc_int.specs.declared.access.ElementId.{ElementId}
use Rattle.dc_int.specs.declared.operation.ReduceOp.{ReduceOp}
use Rattle.dc_int.specs.declared.variable.Locality.{Locality}
use Rattle.dc_int.specs.declared.variable.Shape.{Shape}
use Rattle.dc_int.specs.Entries.{Entry, Contributes, touches, exposes, accesses_of, store_after}
use Rattle.dc_int.specs.Reductions.{is_logical, can_combine}
use Rattle.dc_int.specs.Shapes.{store_fits, state_fits}
use Rattle.dc_int.specs.Store.{Store, cell_of, value_at, same_element}
use Rattle.dc_code.specs.declared.verdict.Party.{Party}
use Rattle.dc_code.specs.declared.verdict.Race.{Race}
use Rattle.dc_code.specs.Breaks.{breaks}
use Rattle.dc_code.specs.Closing.{Localities}
use Rattle.dc_code.specs.Computation.{Computation, give, fail, read, define, undefine, contribute, ask, pause, SameShape, FirstDifference}
use Rattle.dc_code.specs.Loops.{Form, Copies, Orders, Passage, Loop, Ordered, alone, order, closed}
use Rattle.dc_code.specs.Pairs.{clashes, first_clash}
use Rattle.dc_code.specs.Troubles.{Trouble}
use Rattle.dc_code.specs.Verdicts.{Verdict, race}

-- ---- blocks without pauses

-- The computation comes to no pause, whatever it is told.
abbrev pub NeverPauses : {E T A : Type 0} → Computation E T A → Type 0
NeverPauses (give a) = Unit
NeverPauses (fail trouble) = Unit
NeverPauses (read x line rest) = (state : Option ℤ) → NeverPauses (rest state)
NeverPauses (define x value line rest) = NeverPauses rest
NeverPauses (undefine x line rest) = NeverPauses rest
NeverPauses (contribute x op value rest) = NeverPauses rest
NeverPauses (ask variable rest) = (bounds : Option (List (ℤ × ℤ))) → NeverPauses (rest bounds)
NeverPauses (pause event rest) = ⊥

-- No block of the loop pauses, so it holds no loop.
abbrev pub HasPlainBlocks : Form → Type 0
HasPlainBlocks form = (copies : Copies) (at : List ℤ) → NeverPauses (form.block copies at)

-- ---- what the laws ask of a loop

-- Both make the same entries, and leave the same turns, the same orders and the same trouble.
pub record SamePassage (one other : Passage) : Type 0 where
  pub entries : other.entries ≡ one.entries
  pub turns : other.turns ≡ one.turns
  pub orders : other.orders ≡ one.orders
  pub trouble : other.trouble ≡ one.trouble

-- An iteration begins alike over both stores: they have the same elements and bounds, and the same values
-- of the elements that LOCAL_INIT entities copy.
pub record SameStart (form : Form) (first second : Store) : Type 0 where
  pub shape : SameShape first second
  pub copied : (x : ElementId) → list_any (same_element x) form.copied ≡ true → value_at first x ≡ value_at second x

-- What an iteration does is decided by the elements of which it has exposed reads, and is told by its
-- entries. It leaves no order for a loop inside, where it was given none.
pub record IsFramed (loop : Loop) : Type 0 where
  pub alike
      : (first second : Store) (at : List ℤ) → SameStart loop.form first second
      → ((x : ElementId) → exposes x (alone loop first at).entries ≡ true → value_at first x ≡ value_at second x)
      → SamePassage (alone loop first at) (alone loop second at)
  pub replayed : (store : Store) (at : List ℤ) → (alone loop store at).store ≡ store_after (alone loop store at).entries store
  pub orders : (store : Store) (at : List ℤ) → (alone loop store at).orders ≡ []

-- Over two stores on which it begins alike, an iteration does the same, or its entries differ first at a
-- read.
pub record DiffersAtRead (loop : Loop) : Type 0 where
  pub differs
      : (first second : Store) (at : List ℤ) → SameStart loop.form first second
      → SamePassage (alone loop first at) (alone loop second at)
      ⊎ FirstDifference first second (alone loop first at).entries (alone loop second at).entries

-- ---- orders

-- The order has one run, that of the iteration alone, and ends with this trouble.
pub record EndsAt (loop : Loop) (store : Store) (at : List ℤ) (met : Trouble) (ordered : Ordered) : Type 0 where
  pub runs : ordered.runs ≡ (alone loop store at).entries ∷ []
  pub trouble : ordered.trouble ≡ Some met

-- ---- races

-- The access is one of those of a run.
pub record Made (access : Access) (run : List Entry) : Type 0 where
  pub place : ℕ
  pub is : slice_get (accesses_of run) place ≡ Some access

-- The party does to the element, in this run, what the race says of it.
abbrev pub Does : Party → ElementId → List Entry → Type 0
Does party x run = Made (record { action = party.action; element = x; line = party.line }) run

-- The action defines the element, or makes it undefined.
abbrev pub is_touching : Action → Bool
is_touching Action.Reads = false
is_touching action = true

-- Two runs break the restriction of the element that the race names. Its accesses are theirs, and at least
-- one of the two is a touch.
pub record IsReal (locality : ℕ → Locality) (found : Race) (one other : List Entry) : Type 0 where
  pub broken : breaks (locality found.element.variable) found.element one other ≡ true
  pub first_does : Does found.first found.element one
  pub second_does : Does found.second found.element other
  pub one_touches : (is_touching found.first.action || is_touching found.second.action) ≡ true

-- The order begins with two runs in which the race is real.
pub record BeginsWithRace (locality : ℕ → Locality) (found : Race) (ordered : Ordered) : Type 0 where
  pub one : List Entry
  pub other : List Entry
  pub later : List (List Entry)
  pub runs : ordered.runs ≡ one ∷ other ∷ later
  pub real : IsReal locality found one other

-- The race is of two different iterations, which have these index values.
pub record NamesIterations (found : Race) (iterations : List (List ℤ)) (first second : List ℤ) : Type 0 where
  pub first_is : slice_get iterations found.first.iteration ≡ Some first
  pub second_is : slice_get iterations found.second.iteration ≡ Some second
  pub different : found.first.iteration ≢ found.second.iteration

-- ---- what an iteration may touch

-- Only elements of unspecified locality and SHARED ones are touched.
abbrev pub may_touch : Locality → Bool
may_touch Locality.Plain = true
may_touch Locality.Shared = true
may_touch locality = false

-- A contribution is to a REDUCE element, by the operation of its variable, of a value that this combines.
abbrev pub IsCombinable : Localities → Entry → Type 0
IsCombinable localities (Contributes x op value) =
    (localities.locality x.variable ≡ Locality.Reduce op) × (can_combine op (localities.kind x.variable) value ≡ true)
IsCombinable localities entry = Unit

-- Alone on this store, the iteration with these index values keeps the localities of its loop: it touches only
-- elements that it may, and none that LOCAL_INIT entities copy, and its contributions can be combined.
pub record KeepsLocality (loop : Loop) (store : Store) (at : List ℤ) : Type 0 where
  pub allowed : (x : ElementId) → touches x (alone loop store at).entries ≡ true → may_touch (loop.form.localities.locality x.variable) ≡ true
  pub apart : (x : ElementId) → touches x (alone loop store at).entries ≡ true → list_any (same_element x) loop.form.copied ≡ false
  pub contributed : All (IsCombinable loop.form.localities) (alone loop store at).entries

-- Each of the iterations does.
abbrev pub KeepLocality : Loop → Store → List (List ℤ) → Type 0
KeepLocality loop store iterations = All (KeepsLocality loop store) iterations

-- Each of the iterations, alone on the store, ends well.
abbrev pub EndWell : Loop → Store → List (List ℤ) → Type 0
EndWell loop store iterations = All (λ at. (alone loop store at).trouble ≡ None) iterations

-- The entries that each iteration makes alone.
abbrev pub alone_runs : Loop → Store → List (List ℤ) → List (List Entry)
alone_runs loop store iterations = map (λ passage. passage.entries) (map (alone loop store) iterations)

-- The verdict is a race.
pub record TellsRace (said : Verdict) : Type 0 where
  pub found : Race
  pub first : List ℤ
  pub second : List ℤ
  pub is : said ≡ race found first second

-- Nothing is wrong with the iterations: each ends well, and no element of the store clashes.
pub record NothingWrong (loop : Loop) (store : Store) (iterations : List (List ℤ)) : Type 0 where
  pub well : EndWell loop store iterations
  pub clash : first_clash loop.form.localities.locality store (alone_runs loop store iterations) ≡ None

-- ---- stores that fit the declared variables

-- Over each store that fits, each iteration leaves one that does.
pub record KeepsFitting (shapes : List Shape) (loop : Loop) : Type 0 where
  pub each
      : (store : Store) (orders : Orders) (at : List ℤ) → store_fits shapes store ≡ true → store_fits shapes (loop.block store orders at).store ≡ true

-- Where each read is told a state that fits, each definition is of a value that does.
abbrev pub DefinesFitting : {E T A : Type 0} → List Shape → Computation E T A → Type 0
DefinesFitting shapes (give a) = Unit
DefinesFitting shapes (fail trouble) = Unit
DefinesFitting shapes (read x line rest) = (state : Option ℤ) → state_fits shapes x state ≡ true → DefinesFitting shapes (rest state)
DefinesFitting shapes (define x value line rest) = (state_fits shapes x (Some value) ≡ true) × DefinesFitting shapes rest
DefinesFitting shapes (undefine x line rest) = DefinesFitting shapes rest
DefinesFitting shapes (contribute x op value rest) = DefinesFitting shapes rest
DefinesFitting shapes (ask variable rest) = (bounds : Option (List (ℤ × ℤ))) → DefinesFitting shapes (rest bounds)
DefinesFitting shapes (pause event rest) = (told : ℤ) → DefinesFitting shapes (rest told)

-- ---- a loop that goes on

-- The loop takes its REDUCE variables as they are declared: of their kind, and of LOGICAL where their operation
-- is one on LOGICAL.
pub record MatchesShapes (localities : Localities) (shapes : List Shape) : Type 0 where
  pub reduces
      : (variable : ℕ) (op : ReduceOp) (shape : Shape) → localities.locality variable ≡ Locality.Reduce op → slice_get shapes variable ≡ Some shape
      → (localities.kind variable ≡ shape.kind) × (is_logical op ≡ shape.logical)

-- In this order all iterations end well, no two break the restriction of an element of the store, and the
-- loop ends with this store.
pub record EndsWith (loop : Loop) (store : Store) (ordered : List (List ℤ)) (after : Store) : Type 0 where
  pub well : (order loop [] store ordered).trouble ≡ None
  pub unbroken
      : (x : ElementId) → is_some (cell_of store x) ≡ true
      → clashes (loop.form.localities.locality x.variable) x (order loop [] store ordered).runs ≡ false
  pub closing : closed loop (order loop [] store ordered) ≡ after

-- This order ends with the same store as the ascending one, and each iteration makes the entries that it makes
-- alone.
pub record EndsAlike (loop : Loop) (store : Store) (iterations ordered : List (List ℤ)) : Type 0 where
  pub runs : (order loop [] store ordered).runs ≡ alone_runs loop store ordered
  pub ends : EndsWith loop store ordered (closed loop (order loop [] store iterations))
