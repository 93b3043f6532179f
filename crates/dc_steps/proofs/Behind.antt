-- What follows a computation that halts, and what is made of values that are read one after another.
use Rattle.std.proofs.Common.{◌≡◌, ℕ, List, ◌∷◌, Option, Some, refl, ap, ◌∙◌}
use Rattle.std.specs.Prelude.{ℤ, Result, Err}
use Rattle.dc_int.specs.declared.access.ElementId.{ElementId}
use Rattle.dc_int.specs.Entries.{Entry}
use Rattle.dc_int.specs.Store.{Store}
use Rattle.dc_code.specs.Codes.{CodeLists}
use Rattle.dc_code.specs.Computation.{give, fail, read, define, undefine, contribute, ask, pause, sequence, done}
use Rattle.dc_code.specs.OverCells.{CellsRun, over_cells}
use Rattle.dc_code.specs.Reaching.{element_read, all_read, all_required}
use Rattle.dc_code.specs.Troubles.{Computing, Event, Failure}
use Rattle.dc_code.proofs.Sequences.{sequence-then}
use Rattle.dc_steps.specs.declared.halt.Halt.{Halt}
use Rattle.dc_steps.specs.Halting.{Gives, Reaches}
use Rattle.dc_steps.proofs.Leading.{followed, over_cells_then, behind_done}

-- A computation that gives its result does no more.
pub sequence-give : {A : Type 0} (c : Computing A) → sequence c (λ a. give a) ≡ c
sequence-give (give a) = refl
sequence-give (fail trouble) = refl
sequence-give (read x line rest) = λ i. read x line (λ state. sequence-give (rest state) i)
sequence-give (define x z line rest) = ap (define x z line) (sequence-give rest)
sequence-give (undefine x line rest) = ap (undefine x line) (sequence-give rest)
sequence-give (contribute x op z rest) = ap (contribute x op z) (sequence-give rest)
sequence-give (ask variable rest) = λ i. ask variable (λ bounds. sequence-give (rest bounds) i)
sequence-give (pause event rest) = λ i. pause event (λ told. sequence-give (rest told) i)

-- ---- a computation that halts

-- The same fault, whatever would have been given.
pub gives_alike : {A B C D : Type 0} (line : ℕ) (halt : Halt) (made : A → B) (also : C → D) (c : Computing B) (next : B → Computing D)
    → Gives line (Err halt) made c → Gives line (Err halt) also (sequence c next)
gives_alike line (Halt.Fault kind) made also c next halts = ap (λ c. sequence c next) halts
gives_alike line Halt.NoMemory made also c next halts = tt

pub halts_alike : {A B C D M : Type 0} (line : ℕ) (halt : Halt) (made : A → B) (also : C → D) (shown : M → Store) (after : Entry → M → M) (held now : M) (c : Computing B) (next : B → Computing D)
    → Reaches line (Err halt) made now (over_cells shown after held c) → Reaches line (Err halt) also now (over_cells shown after held (sequence c next))
halts_alike line (Halt.Fault kind) made also shown after held now c next halts =
    over_cells_then shown after held c next ∙ ap (λ run. followed shown after run next) halts
halts_alike line Halt.NoMemory made also shown after held now c next halts = tt

-- a run that goes on as another ends as that does
pub reaches_as : {A B M : Type 0} (line : ℕ) (result : Result A Halt) (made : A → B) (now : M) (run other : CellsRun M Event Failure B)
    → run ≡ other → Reaches line result made now other → Reaches line result made now run
reaches_as line result made now run other same reaches = rw same reaches

-- ---- values that are read

module _ {M : Type 0} (code : CodeLists) (shown : M → Store) (after : Entry → M → M) (line : ℕ) (held now : M) (x : ElementId) (xs : List ElementId) where
  -- what is left to do of all elements, with one that is read
  abbrev with_others : {B : Type 0} → (List ℤ → Computing B) → ℤ → Computing B
  with_others make z = sequence (sequence (all_read code line xs) (λ others. give (z ∷ others))) make

  -- An element is read, and then the others.
  pub read_more : {B : Type 0} (z : ℤ) (make : List ℤ → Computing B)
      → over_cells shown after held (element_read code line x) ≡ record { meaning = now; reached = done z }
      → over_cells shown after held (sequence (all_read code line (x ∷ xs)) make)
      ≡ over_cells shown after now (sequence (all_read code line xs) (λ others. make (z ∷ others)))
  read_more z make reached =
      ap (over_cells shown after held) (sequence-then (element_read code line x) (λ z. sequence (all_read code line xs) (λ others. give (z ∷ others))) make)
      ∙ (behind_done shown after held now (element_read code line x) z reached (with_others make)
      ∙ ap (over_cells shown after now) (sequence-then (all_read code line xs) (λ others. give (z ∷ others)) make))

  -- Where one can't be read.
  pub read_halts : {A B : Type 0} (halt : Halt) (also : A → B) (make : List ℤ → Computing B)
      → Reaches line (Err halt) (λ (z : ℤ). z) now (over_cells shown after held (element_read code line x))
      → Reaches line (Err halt) also now (over_cells shown after held (sequence (all_read code line (x ∷ xs)) make))
  read_halts halt also make halts =
      halts_alike line halt (λ (zs : List ℤ). zs) also shown after held now (all_read code line (x ∷ xs)) make
      (halts_alike line halt (λ (z : ℤ). z) (λ (zs : List ℤ). zs) shown after held now (element_read code line x) (λ z. sequence (all_read code line xs) (λ others. give (z ∷ others))) halts)

-- The same of states.
pub required_more : {B : Type 0} (line : ℕ) (z : ℤ) (states : List (Option ℤ)) (make : List ℤ → Computing B)
    → sequence (all_required line (Some z ∷ states)) make ≡ sequence (all_required line states) (λ others. make (z ∷ others))
required_more line z states make = sequence-then (all_required line states) (λ others. give (z ∷ others)) make
