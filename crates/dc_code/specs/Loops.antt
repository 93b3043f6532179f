-- A loop: its header, an iteration alone, and iterations in an order over one store. After ISO/IEC
-- 1539-1:2023, clause 11.1.7.4; the turns, the order of the header and the limit are this project's own.
use Rattle.std.specs.Prelude.{ℕ, ◌*◌, Bool, true, false, nat_lt, List, [], ◌∷◌, Option, None, is_some, is_none, if◌then◌else◌, ℤ, pos}
use Rattle.std.specs.List.{list_any}
use Rattle.dc_int.specs.declared.access.ElementId.{ElementId}
use Rattle.dc_int.specs.declared.fault.FaultKind.{FaultKind}
use Rattle.dc_int.specs.declared.fault.Why.{Why}
use Rattle.dc_int.specs.Entries.{Entry}
use Rattle.dc_int.specs.Store.{Store}
use Rattle.dc_code.specs.Closing.{Localities, closing}
use Rattle.dc_code.specs.Combinations.{Span, has_zero_step, value_count, combinations}
use Rattle.dc_code.specs.Computation.{Computation, Reached, done, give, fail, read, define, undefine, contribute, ask, pause, ◌>>=◌}
use Rattle.dc_code.specs.Troubles.{Failure, Trouble, Computing, ended, in_statement, in_mask}

-- What the states of the elements are that LOCAL_INIT entities take from the store.
abbrev pub Copies : Type 0
Copies = List (Option ℤ)

-- A loop as its source or its code gives it, where it is reached. Masks and blocks have turns of their
-- own; the header spends those that it is given, and gives what it leaves, as a block does.
pub record Form : Type 0 where
  pub line : ℕ
  pub localities : Localities
  -- the elements that LOCAL_INIT entities copy, and the elements of its own reductions, in store order
  pub copied : List ElementId
  pub combines : List ElementId
  pub header : ℕ → Computing (List Span × ℕ)
  pub mask : List ℤ → Computing Bool
  pub block : Copies → List ℤ → Computing ℕ

-- ---- the header

-- What the header of a loop does. It comes to no pause: the standard has no statement in a header.
abbrev pub HeaderComputing : Type 0 → Type 0
HeaderComputing A = Computation ⊥ Trouble A

-- A part of a source or a code as a part of the header, with its failures told as the header's. A pause, to
-- which no limit and no mask comes, is told 0, as one of a block is.
abbrev pub in_header : {A : Type 0} → (Failure → Trouble) → Computing A → HeaderComputing A
in_header tell (give a) = give a
in_header tell (fail failure) = fail (tell failure)
in_header tell (read x line rest) = read x line (λ state. in_header tell (rest state))
in_header tell (define x value line rest) = define x value line (in_header tell rest)
in_header tell (undefine x line rest) = undefine x line (in_header tell rest)
in_header tell (contribute x op value rest) = contribute x op value (in_header tell rest)
in_header tell (ask variable rest) = ask variable (λ bounds. in_header tell (rest bounds))
in_header tell (pause event rest) = in_header tell (rest (pos 0))

abbrev pub combination_count : List Span → ℕ
combination_count [] = 1
combination_count (span ∷ spans) = value_count span * combination_count spans

abbrev pub greatest_count : ℕ
greatest_count = 4194304

-- A fault of the header itself.
abbrev pub header_fault : {A : Type 0} → FaultKind → ℕ → HeaderComputing A
header_fault kind line = fail (ended (Why.Fault kind) line [])

abbrev pub are_too_many : List Span → Bool
are_too_many spans = nat_lt greatest_count (combination_count spans)

-- The combinations, unless a step is zero or there are too many. The header of a source finds a zero step by
-- itself, before it goes on to the next index; here it is found where a header leaves one.
abbrev pub combined_values : ℕ → List Span → HeaderComputing (List (List ℤ))
combined_values line spans =
    if list_any has_zero_step spans then header_fault FaultKind.StepZero line
    else if are_too_many spans then header_fault FaultKind.TooManyIterations line
    else give (combinations spans)

-- Those of the combinations for which the mask is true.
abbrev pub active : (List ℤ → Computing Bool) → List (List ℤ) → HeaderComputing (List (List ℤ))
active mask [] = give []
active mask (at ∷ rest) = do
  holds ← in_header (in_mask at) (mask at)
  others ← active mask rest
  give (if holds then at ∷ others else others)

-- A read of each element, without a fault; it gives whether all of them are defined.
abbrev pub read_all : ℕ → List ElementId → HeaderComputing Bool
read_all line [] = give true
read_all line (x ∷ elements) = read x line (λ state. read_all line elements >>= (λ others. give (if is_some state then others else false)))

-- Where there is an iteration, the elements that its entities begin with are read, and each element of
-- a reduction has to be defined.
abbrev pub begun : Form → List (List ℤ) → HeaderComputing Unit
begun form [] = give tt
begun form iterations = do
  copied ← read_all form.line form.copied
  defined ← read_all form.line form.combines
  if defined then give tt else header_fault FaultKind.Undefined form.line

-- The iterations, each by the values of its indexes, and the turns left.
pub record HeaderResult : Type 0 where
  pub iterations : List (List ℤ)
  pub turns : ℕ

-- The header: the limits and steps, the combinations, the mask of each, and the reductions.
abbrev pub header_of : Form → ℕ → HeaderComputing HeaderResult
header_of form turns = do
  (spans, left) ← in_header in_statement (form.header turns)
  values ← combined_values form.line spans
  iterations ← active form.mask values
  ready ← begun form iterations
  give (record { iterations = iterations; turns = left })

-- The iterations that a header gives, and none where it met trouble.
abbrev pub iterations_of : Reached ⊥ Trouble HeaderResult → List (List ℤ)
iterations_of (done given) = given.iterations
iterations_of other = []

-- ---- iterations

-- Orders for loops inside, one for each loop that is reached, as numbers of its iterations.
abbrev pub Orders : Type 0
Orders = List (List ℕ)

-- What an iteration does, or a loop inside one: its entries, the store after, the turns and the orders
-- that it leaves, and its trouble where it doesn't end well.
pub record Passage : Type 0 where
  pub entries : List Entry
  pub store : Store
  pub turns : ℕ
  pub orders : Orders
  pub trouble : Option Trouble

-- A loop whose block runs over a store, with orders for the loops inside.
pub record Loop : Type 0 where
  pub form : Form
  pub block : Store → Orders → List ℤ → Passage

-- An iteration alone: over the opening store, with fresh entities.
abbrev pub alone : Loop → Store → List ℤ → Passage
alone loop store at = loop.block store [] at

-- What the iterations of an order did, each by its entries, with the store and the orders after. The last
-- one may have met trouble.
pub record Ordered : Type 0 where
  pub runs : List (List Entry)
  pub store : Store
  pub orders : Orders
  pub trouble : Option Trouble

abbrev pub joined : Passage → Ordered → Ordered
joined passage later = record { runs = passage.entries ∷ later.runs; store = later.store; orders = later.orders; trouble = later.trouble }

abbrev pub nothing_done : Store → Orders → Option Trouble → Ordered
nothing_done store orders trouble = record { runs = []; store = store; orders = orders; trouble = trouble }

-- the rest of an order behind an iteration that ended well
abbrev pub behind_one : Passage → (Orders → Store → Ordered) → Ordered
behind_one passage rest =
    joined passage (if is_none passage.trouble then rest passage.orders passage.store else nothing_done passage.store passage.orders passage.trouble)

-- Iterations in an order: one after the other over one store, each with fresh entities, up to the first
-- that doesn't end well.
abbrev pub order : Loop → Orders → Store → List (List ℤ) → Ordered
order loop orders store [] = nothing_done store orders None
order loop orders store (at ∷ rest) = behind_one (loop.block store orders at) (λ left after. order loop left after rest)

-- The store with which a loop ends after an order in which all iterations ended well.
abbrev pub closed : Loop → Ordered → Store
closed loop ordered = closing loop.form.localities loop.form.line ordered.runs ordered.store
