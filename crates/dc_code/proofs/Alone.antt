-- Iterations in an order, of which none has an exposed read of what an earlier one touches, do what each
-- does alone.
use Rattle.std.proofs.Common.{◌≡◌, ℕ, Bool, true, false, ◌&&◌, ◌||◌, List, [], ◌∷◌, All, Option, Some, None, refl, sym, ap, ◌∙◌}
use Rattle.std.proofs.lemmas.Bool.{false≢true}
use Rattle.std.proofs.lemmas.List.Elements.{All-nil, All-cons, All-head, All-tail}
use Rattle.std.specs.Prelude.{ℤ, is_some}
use Rattle.std.specs.List.{list_any}
use Rattle.dc_int.specs.declared.access.ElementId.{ElementId}
use Rattle.dc_int.specs.declared.variable.Locality.{Locality}
use Rattle.dc_int.specs.Entries.{Entry, reads, touches, exposes, store_after}
use Rattle.dc_int.specs.Store.{Store, cell_of, value_at, same_element, number_in}
use Rattle.dc_code.specs.Breaks.{breaks, accesses}
use Rattle.dc_code.specs.Computation.{SameShape}
use Rattle.dc_code.specs.Laws.{SameStart, IsFramed, KeepsLocality, KeepLocality, EndWell, alone_runs, may_touch}
use Rattle.dc_code.specs.Loops.{Loop, Ordered, alone, order, joined}
use Rattle.dc_code.specs.Pairs.{clashes}
use Rattle.dc_code.proofs.Orders.{behind-good}
use Rattle.dc_code.proofs.Pairs.{or-left, and-true, exposed-is_read}
use Rattle.dc_code.proofs.Runs.{value-cell}
use Rattle.dc_code.proofs.Stores.{shape-after, shape-then, value-untouched}

-- The store that runs leave, one after another.
abbrev pub left_by : List (List Entry) → Store → Store
left_by [] store = store
left_by (run ∷ runs) store = left_by runs (store_after run store)

-- what an order does where each iteration does what it does alone on a store
abbrev pub done_alone : Loop → Store → Store → List (List ℤ) → Ordered
done_alone loop opening store iterations =
    record { runs = alone_runs loop opening iterations; store = left_by (alone_runs loop opening iterations) store; orders = []; trouble = None }

-- ---- what one iteration touches and another sees

-- Whoever touches what it may breaks the restriction with another who has an exposed read.
broken-by_touch
    : (locality : Locality) (x : ElementId) (one other : List Entry) → may_touch locality ≡ true → touches x one ≡ true → exposes x other ≡ true
    → breaks locality x one other ≡ true
broken-by_touch Locality.Plain x one other may touched exposed =
    or-left (touches x one && exposes x other) (touches x other && exposes x one) (and-true (touches x one) (exposes x other) touched exposed)
broken-by_touch Locality.Shared x one other may touched exposed =
    let access : accesses x other ≡ true = or-left (reads x other) (touches x other) (exposed-is_read x other exposed) in
    or-left (touches x one && accesses x other) (touches x other && accesses x one) (and-true (touches x one) (accesses x other) touched access)
broken-by_touch other x one second may touched exposed = absurd (false≢true may)

pub or-neither : (a b : Bool) → (a || b) ≡ false → (a ≡ false) × (b ≡ false)
or-neither true b e = absurd (false≢true (sym e))
or-neither false b e = (refl, e)

-- An element that isn't there has no value in either of two stores of one shape.
no-value : (first second : Store) (x : ElementId) → SameShape first second → is_some (cell_of first x) ≡ false → value_at first x ≡ value_at second x
no-value first second x shape none =
    value-cell first x ∙ nothing (cell_of first x) none ∙ sym (value-cell second x ∙ nothing (cell_of second x) (sym (shape.elements x) ∙ none))
  where
    nothing : (cell : Option (Option ℤ)) → is_some cell ≡ false → number_in cell ≡ None
    nothing None e = refl
    nothing (Some state) e = absurd (false≢true (sym e))

-- ---- an order

module _ (loop : Loop) (opening : Store) (framed : IsFramed loop) where
  abbrev locality : ℕ → Locality
  locality = loop.form.localities.locality

  -- what an iteration does alone on the opening store
  abbrev entries_of : List ℤ → List Entry
  entries_of at = (alone loop opening at).entries

  -- An iteration sees over a store what it sees over the opening one.
  abbrev Sees : Store → List ℤ → Type 0
  Sees store at = (x : ElementId) → exposes x (entries_of at) ≡ true → value_at opening x ≡ value_at store x

  -- No element of the opening store clashes among these.
  abbrev NoClash : List (List ℤ) → Type 0
  NoClash iterations =
      (x : ElementId) → is_some (cell_of opening x) ≡ true → clashes (locality x.variable) x (alone_runs loop opening iterations) ≡ false

  -- no one of these breaks a restriction with this run
  abbrev NoneBreaks : List Entry → List (List ℤ) → Type 0
  NoneBreaks run iterations =
      (x : ElementId) → is_some (cell_of opening x) ≡ true
      → list_any (breaks (locality x.variable) x run) (alone_runs loop opening iterations) ≡ false

  start-later
      : (store : Store) (at : List ℤ) → KeepsLocality loop opening at → SameStart loop.form opening store
      → SameStart loop.form opening (store_after (entries_of at) store)
  start-later store at keeps start = record {
    shape = shape-then opening store (store_after (entries_of at) store) start.shape (shape-after (entries_of at) store);
    copied = λ x among. start.copied x among ∙ value-untouched (entries_of at) store x (kept x among (touches x (entries_of at)) refl);
  }
    where
      kept
          : (x : ElementId) → list_any (same_element x) loop.form.copied ≡ true → (b : Bool) → touches x (entries_of at) ≡ b
          → touches x (entries_of at) ≡ false
      kept x among true touched = absurd (false≢true (sym (keeps.apart x touched) ∙ among))
      kept x among false apart = apart

  sees-later
      : (store : Store) (at other : List ℤ) → KeepsLocality loop opening at → SameStart loop.form opening store
      → ((x : ElementId) → is_some (cell_of opening x) ≡ true → breaks (locality x.variable) x (entries_of at) (entries_of other) ≡ false)
      → Sees store other → Sees (store_after (entries_of at) store) other
  sees-later store at other keeps start apart sees x exposed = by (is_some (cell_of opening x)) (touches x (entries_of at)) refl refl
    where
      by
          : (b c : Bool) → is_some (cell_of opening x) ≡ b → touches x (entries_of at) ≡ c
          → value_at opening x ≡ value_at (store_after (entries_of at) store) x
      by false c none touch = no-value opening (store_after (entries_of at) store) x (start-later store at keeps start).shape none
      by true true some touched =
          absurd (false≢true (sym (apart x some)
          ∙ broken-by_touch (locality x.variable) x (entries_of at) (entries_of other) (keeps.allowed x touched) touched exposed))
      by true false some untouched = sees x exposed ∙ value-untouched (entries_of at) store x untouched

  all-see-later
      : (store : Store) (at : List ℤ) (rest : List (List ℤ)) → KeepsLocality loop opening at → SameStart loop.form opening store
      → NoneBreaks (entries_of at) rest → All (Sees store) rest
      → All (Sees (store_after (entries_of at) store)) rest
  all-see-later store at [] keeps start apart sees = All-nil (Sees (store_after (entries_of at) store))
  all-see-later store at (other ∷ rest) keeps start apart sees =
      let each = λ (x : ElementId) (some : is_some (cell_of opening x) ≡ true). or-neither
      (breaks (locality x.variable) x (entries_of at) (entries_of other))
      (list_any (breaks (locality x.variable) x (entries_of at)) (alone_runs loop opening rest)) (apart x some) in
      All-cons (Sees (store_after (entries_of at) store)) other rest
      (sees-later store at other keeps start (λ x some. (each x some).0) (All-head (Sees store) other rest sees))
      (all-see-later store at rest keeps start (λ x some. (each x some).1) (All-tail (Sees store) other rest sees))

  -- Over a store on which they begin alike and see the same, iterations do what each does alone.
  order-over
      : (store : Store) (iterations : List (List ℤ)) → KeepLocality loop opening iterations → EndWell loop opening iterations → NoClash iterations
      → SameStart loop.form opening store
      → All (Sees store) iterations
      → order loop [] store iterations ≡ done_alone loop opening store iterations
  order-over store [] keep well apart start sees = refl
  order-over store (at ∷ rest) keep well apart start sees =
      let keeps = All-head (KeepsLocality loop opening) at rest keep in
      let here = framed.alike opening store at start (All-head (Sees store) at rest sees) in
      let good : (alone loop store at).trouble ≡ None = here.trouble ∙ All-head (λ a. (alone loop opening a).trouble ≡ None) at rest well in
      let none : (alone loop store at).orders ≡ [] = framed.orders store at in
      let after : (alone loop store at).store ≡ store_after (entries_of at) store =
      framed.replayed store at ∙ ap (λ run. store_after run store) here.entries in
      let each = λ (x : ElementId) (some : is_some (cell_of opening x) ≡ true). or-neither
      (list_any (breaks (locality x.variable) x (entries_of at)) (alone_runs loop opening rest))
      (clashes (locality x.variable) x (alone_runs loop opening rest)) (apart x some) in
      let later =
      order-over (store_after (entries_of at) store) rest (All-tail (KeepsLocality loop opening) at rest keep) (All-tail (λ a. (alone loop opening a).trouble ≡ None) at rest well)
      (λ x some. (each x some).1) (start-later store at keeps start)
      (all-see-later store at rest keeps start (λ x some. (each x some).0) (All-tail (Sees store) at rest sees)) in
      behind-good (alone loop store at) (λ left behind. order loop left behind rest) good
      ∙ (λ i. joined (alone loop store at) (order loop (none i) (after i) rest))
      ∙ ap (joined (alone loop store at)) later
      ∙ ap (λ run. record {
        runs = run ∷ alone_runs loop opening rest;
        store = left_by (alone_runs loop opening rest)
            (store_after (entries_of at) store);
        orders = [];
        trouble = None;
      }) here.entries

  all-see : (iterations : List (List ℤ)) → All (Sees opening) iterations
  all-see [] = All-nil (Sees opening)
  all-see (at ∷ rest) = All-cons (Sees opening) at rest (λ x exposed. refl) (all-see rest)

  -- Where each iteration ends well alone and none of the store's elements clashes, an order is made of
  -- what each does alone.
  pub order-alone
      : (iterations : List (List ℤ)) → KeepLocality loop opening iterations → EndWell loop opening iterations → NoClash iterations
      → order loop [] opening iterations ≡ done_alone loop opening opening iterations
  order-alone iterations keep well apart =
      order-over opening iterations keep well apart
      (record { shape = record { elements = λ x. refl; bounds = λ variable. refl }; copied = λ x among. refl }) (all-see iterations)
