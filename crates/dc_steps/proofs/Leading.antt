-- From the work of an instruction to the instruction.
use Rattle.std.proofs.Common.{◌≡◌, ℕ, suc, refl, ap, ◌∙◌}
use Rattle.std.specs.Prelude.{Result, Ok, Err}
use Rattle.dc_int.specs.Entries.{Entry, Reads, Defines, Undefines, Contributes}
use Rattle.dc_int.specs.Store.{Store, value_at, bounds_of}
use Rattle.dc_code.specs.Codes.{CodeLists}
use Rattle.dc_code.specs.Computation.{Computation, give, fail, read, define, undefine, contribute, ask, pause, sequence, Reached, done, bad, paused}
use Rattle.dc_code.specs.Frames.{Frame}
use Rattle.dc_code.specs.Instructions.{behind}
use Rattle.dc_code.specs.OverCells.{CellsRun, over_cells}
use Rattle.dc_code.specs.Troubles.{Computing}
use Rattle.dc_steps.specs.declared.halt.Halt.{Halt}
use Rattle.dc_steps.specs.Ending.{Steps, next_behind}
use Rattle.dc_steps.specs.Halting.{Leaves, LeavesBoth}

-- What comes behind a run over cells.
abbrev pub followed_from : {M E T A B : Type 0} → (M → Store) → (Entry → M → M) → M → Reached E T A → (A → Computation E T B) → CellsRun M E T B
followed_from shown after held (done a) next = over_cells shown after held (next a)
followed_from shown after held (bad trouble) next = record { meaning = held; reached = bad trouble }
followed_from shown after held (paused event rest) next = record { meaning = held; reached = paused event (λ told. sequence (rest told) next) }

abbrev pub followed : {M E T A B : Type 0} → (M → Store) → (Entry → M → M) → CellsRun M E T A → (A → Computation E T B) → CellsRun M E T B
followed shown after run next = followed_from shown after run.meaning run.reached next

module _ {M E T A B : Type 0} (shown : M → Store) (after : Entry → M → M) where
  -- First this and then that over cells.
  pub over_cells_then : (held : M) (c : Computation E T A) (next : A → Computation E T B)
      → over_cells shown after held (sequence c next) ≡ followed shown after (over_cells shown after held c) next
  over_cells_then held (give a) next = refl
  over_cells_then held (fail trouble) next = refl
  over_cells_then held (read x line rest) next = over_cells_then (after (Reads x line) held) (rest (value_at (shown held) x)) next
  over_cells_then held (define x z line rest) next = over_cells_then (after (Defines x z line) held) rest next
  over_cells_then held (undefine x line rest) next = over_cells_then (after (Undefines x line) held) rest next
  over_cells_then held (contribute x op z rest) next = over_cells_then (after (Contributes x op z) held) rest next
  over_cells_then held (ask variable rest) next = over_cells_then held (rest (bounds_of (shown held) variable)) next
  over_cells_then held (pause event rest) next = refl

module _ {M : Type 0} (code : CodeLists) (shown : M → Store) (after : Entry → M → M) where
  -- The work of an instruction over cells, and what goes on behind it.
  pub led : {A : Type 0} (result : Result A Halt) (line at turns : ℕ) (held : M) (work : Computing Frame) (left : Frame) (now : M)
      → LeavesBoth line result left now (over_cells shown after held work)
      → Steps code shown after (next_behind result at turns line) left now (λ go. over_cells shown after held (behind go at turns work))
  led (Ok a) line at turns held work left now reached =
      λ go. over_cells_then shown after held work (λ frame. go (suc at) frame turns) ∙ ap (λ run. followed shown after run (λ frame. go (suc at) frame turns)) reached
  led (Err (Halt.Fault kind)) line at turns held work left now reached =
      λ go. over_cells_then shown after held work (λ frame. go (suc at) frame turns) ∙ ap (λ run. followed shown after run (λ frame. go (suc at) frame turns)) reached
  led (Err Halt.NoMemory) line at turns held work left now reached = λ go. tt

  -- the same where no cells are asked
  pub led_alone : {A : Type 0} (result : Result A Halt) (line at turns : ℕ) (held : M) (work : Computing Frame) (left : Frame)
      → Leaves line result left work
      → Steps code shown after (next_behind result at turns line) left held (λ go. over_cells shown after held (behind go at turns work))
  led_alone (Ok a) line at turns held work left leaves = λ go. ap (λ c. over_cells shown after held (behind go at turns c)) leaves
  led_alone (Err (Halt.Fault kind)) line at turns held work left leaves = λ go. ap (λ c. over_cells shown after held (behind go at turns c)) leaves
  led_alone (Err Halt.NoMemory) line at turns held work left leaves = λ go. tt

-- ---- a computation over cells, and then another

module _ {M A : Type 0} (shown : M → Store) (after : Entry → M → M) (held now : M) (c : Computing A) (a : A) (reached : over_cells shown after held c ≡ record { meaning = now; reached = done a }) where
  pub behind_done : {B : Type 0} (next : A → Computing B) → over_cells shown after held (sequence c next) ≡ over_cells shown after now (next a)
  behind_done next = over_cells_then shown after held c next ∙ ap (λ run. followed shown after run next) reached

  -- what follows asks no cells
  pub then_leaves : {U : Type 0} (line : ℕ) (result : Result U Halt) (left : Frame) (next : A → Computing Frame)
      → Leaves line result left (next a) → LeavesBoth line result left now (over_cells shown after held (sequence c next))
  then_leaves line (Ok u) left next leaves = behind_done next ∙ ap (over_cells shown after now) leaves
  then_leaves line (Err (Halt.Fault kind)) left next leaves = behind_done next ∙ ap (over_cells shown after now) leaves
  then_leaves line (Err Halt.NoMemory) left next leaves = tt

  -- what follows is over cells too
  pub then_reaches : {U : Type 0} (line : ℕ) (result : Result U Halt) (left : Frame) (next : A → Computing Frame) (later : M)
      → LeavesBoth line result left later (over_cells shown after now (next a)) → LeavesBoth line result left later (over_cells shown after held (sequence c next))
  then_reaches line (Ok u) left next later leaves = behind_done next ∙ leaves
  then_reaches line (Err (Halt.Fault kind)) left next later leaves = behind_done next ∙ leaves
  then_reaches line (Err Halt.NoMemory) left next later leaves = tt

pub ruleset behind_work = (over_cells_then)
