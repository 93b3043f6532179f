-- A block without pauses runs as its computation does, and so is framed.
use Rattle.std.proofs.Common.{◌≡◌, ◌⊎◌, inl, inr, ℕ, Bool, true, false, ◌||◌, List, [], ◌∷◌, map, Option, Some, None, refl, sym, ap, ◌∙◌, subst}
use Rattle.std.specs.Prelude.{ℤ}
use Rattle.std.specs.List.{list_any}
use Rattle.dc_int.specs.declared.access.ElementId.{ElementId}
use Rattle.dc_int.specs.Entries.{Reads, Defines, Undefines, Contributes, exposes, store_after}
use Rattle.dc_int.specs.Store.{Store, value_at, put_at, bounds_of, same_element}
use Rattle.dc_int.proofs.Stores.{same_element-itself}
use Rattle.dc_code.specs.Computation.{give, fail, read, define, undefine, contribute, ask, pause, Reached, done, bad, paused, Run, over, SameRun, FirstDifference}
use Rattle.dc_code.specs.Inner.{loop_with}
use Rattle.dc_code.specs.Laws.{NeverPauses, HasPlainBlocks, SamePassage, SameStart, IsFramed, DiffersAtRead}
use Rattle.dc_code.specs.Loops.{Form, Orders, Passage, alone}
use Rattle.dc_code.specs.Passages.{Entering, passage_behind, through}
use Rattle.dc_code.specs.Troubles.{Failure, Trouble, Event, Computing, in_statement}
use Rattle.dc_code.proofs.Runs.{replayed, framed, first-difference}

abbrev turns_of : Reached Event Failure ℕ → ℕ
turns_of (done turns) = turns
turns_of (bad failure) = 0
turns_of (paused event rest) = 0

abbrev trouble_of : Reached Event Failure ℕ → Option Trouble
trouble_of (done turns) = None
trouble_of (bad failure) = Some (in_statement failure)
trouble_of (paused event rest) = None

-- a run as a passage, where it doesn't pause
abbrev passage_of : Orders → Run Event Failure ℕ → Passage
passage_of orders run =
    record { entries = run.entries; store = run.store; turns = turns_of run.reached; orders = orders; trouble = trouble_of run.reached }

-- A block that never pauses does what its computation does over the store.
pub through-over
    : (enter : Entering) (store : Store) (orders : Orders) (c : Computing ℕ) → NeverPauses c
    → through enter store orders c ≡ passage_of orders (over store c)
through-over enter store orders (give turns) plain = refl
through-over enter store orders (fail failure) plain = refl
through-over enter store orders (read x line rest) plain =
    ap (passage_behind (Reads x line ∷ [])) (through-over enter store orders (rest (value_at store x)) (plain (value_at store x)))
through-over enter store orders (define x value line rest) plain =
    ap (passage_behind (Defines x value line ∷ [])) (through-over enter (put_at store x (Some value)) orders rest plain)
through-over enter store orders (undefine x line rest) plain =
    ap (passage_behind (Undefines x line ∷ [])) (through-over enter (put_at store x None) orders rest plain)
through-over enter store orders (contribute x op value rest) plain =
    ap (passage_behind (Contributes x op value ∷ [])) (through-over enter store orders rest plain)
through-over enter store orders (ask variable rest) plain =
    through-over enter store orders (rest (bounds_of store variable)) (plain (bounds_of store variable))
through-over enter store orders (pause event rest) plain = absurd plain

same-passage : (orders : Orders) (one other : Run Event Failure ℕ) → SameRun one other → SamePassage (passage_of orders one) (passage_of orders other)
same-passage orders one other same =
    record { entries = same.entries; turns = ap turns_of same.reached; orders = refl; trouble = ap trouble_of same.reached }

-- the values of some elements, over stores that agree on each of them
same-values
    : (first second : Store) (elements : List ElementId)
    → ((x : ElementId) → list_any (same_element x) elements ≡ true → value_at first x ≡ value_at second x)
    → map (value_at first) elements ≡ map (value_at second) elements
same-values first second [] same = refl
same-values first second (x ∷ elements) same =
    let here : value_at first x ≡ value_at second x = same x (rw (same_element-itself x) refl) in
    let rest = same-values first second elements (λ y among. same y (later (same_element y x) (list_any (same_element y) elements) among)) in
    λ i. here i ∷ rest i
  where
    later : (a b : Bool) → b ≡ true → (a || b) ≡ true
    later true b e = refl
    later false b e = e

module _ (enter : Entering) (form : Form) (plain : HasPlainBlocks form) where
  -- the block of an iteration, with what its LOCAL_INIT entities copy from a store
  abbrev block_from : Store → List ℤ → Computing ℕ
  block_from store at = form.block (map (value_at store) form.copied) at

  is-over : (store : Store) (at : List ℤ) → alone (loop_with enter form) store at ≡ passage_of [] (over store (block_from store at))
  is-over store at = through-over enter store [] (block_from store at) (plain (map (value_at store) form.copied) at)

  same-block : (first second : Store) (at : List ℤ) → SameStart form first second → block_from first at ≡ block_from second at
  same-block first second at start = ap (λ copies. form.block copies at) (same-values first second form.copied start.copied)

  -- the second run, by the computation of the first
  second-is
      : (first second : Store) (at : List ℤ) → SameStart form first second
      → alone (loop_with enter form) second at ≡ passage_of [] (over second (block_from first at))
  second-is first second at start = is-over second at ∙ ap (λ c. passage_of [] (over second c)) (sym (same-block first second at start))

  as-passages
      : (first second : Store) (at : List ℤ) → SameStart form first second
      → SameRun (over first (block_from first at)) (over second (block_from first at))
      → SamePassage (alone (loop_with enter form) first at) (alone (loop_with enter form) second at)
  as-passages first second at start same =
      subst (λ one. SamePassage one (alone (loop_with enter form) second at)) (sym (is-over first at))
      (subst (SamePassage (passage_of [] (over first (block_from first at)))) (sym (second-is first second at start))
      (same-passage [] (over first (block_from first at)) (over second (block_from first at)) same))

  alike
      : (first second : Store) (at : List ℤ) → SameStart form first second
      → ((x : ElementId) → exposes x (alone (loop_with enter form) first at).entries ≡ true → value_at first x ≡ value_at second x)
      → SamePassage (alone (loop_with enter form) first at) (alone (loop_with enter form) second at)
  alike first second at start exposed =
      let seen : (x : ElementId) → exposes x (over first (block_from first at)).entries ≡ true → value_at first x ≡ value_at second x =
      λ x read. exposed x (ap (λ passage. exposes x passage.entries) (is-over first at) ∙ read) in
      as-passages first second at start
      (framed (block_from first at) first second (record { shape = start.shape; exposed = seen }))

  -- A loop whose blocks don't pause is framed.
  pub plain-framed : IsFramed (loop_with enter form)
  plain-framed = record {
    alike = alike;
    replayed = λ store at.
        ap (λ passage. passage.store) (is-over store at) ∙ replayed store (block_from store at)
        ∙ ap (λ passage. store_after passage.entries store) (sym (is-over store at));
    orders = λ store at. ap (λ passage. passage.orders) (is-over store at);
  }

  by_difference
      : (first second : Store) (at : List ℤ) → SameStart form first second
      → SameRun (over first (block_from first at)) (over second (block_from first at))
      ⊎ FirstDifference first second (over first (block_from first at)).entries (over second (block_from first at)).entries
      → SamePassage (alone (loop_with enter form) first at) (alone (loop_with enter form) second at)
      ⊎ FirstDifference first second (alone (loop_with enter form) first at).entries (alone (loop_with enter form) second at).entries
  by_difference first second at start (inl same) = inl (as-passages first second at start same)
  by_difference first second at start (inr difference) =
      inr (subst (λ one. FirstDifference first second one.entries (alone (loop_with enter form) second at).entries) (sym (is-over first at))
      (subst (λ other. FirstDifference first second (over first (block_from first at)).entries other.entries)
      (sym (second-is first second at start)) difference))

  -- And two of its runs differ first at a read.
  pub plain-differs : DiffersAtRead (loop_with enter form)
  plain-differs = record {
    differs = λ first second at start. by_difference first second at start (first-difference (block_from first at) first second start.shape);
  }
