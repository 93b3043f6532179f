-- From the work of an instruction of each group to the instruction.
use Rattle.std.proofs.Common.{◌≡◌, ℕ, suc, Bool, true, false, [], ◌∷◌, ◌++◌, Option, Some, None, refl, sym, ap, ◌∙◌, subst}
use Rattle.std.specs.Prelude.{ℤ, length, nat_lt, slice_get, if◌then◌else◌, Result, Ok, Err}
use Rattle.dc_int.specs.Entries.{Entry}
use Rattle.dc_int.specs.Store.{Store}
use Rattle.dc_int.specs.Reductions.{truth}
use Rattle.dc_code.specs.declared.instr.Instr.{Instr}
use Rattle.dc_code.specs.declared.instr.What.{What}
use Rattle.dc_code.specs.Codes.{CodeLists}
use Rattle.dc_code.specs.Computation.{give, pause, sequence, Reached, done, bad, paused}
use Rattle.dc_code.specs.Frames.{Frame, with_line, innermost, left_unit}
use Rattle.dc_code.specs.Instructions.{Going, act, behind, ahead, returned}
use Rattle.dc_code.specs.Operands.{stuck, item_off, value_off}
use Rattle.dc_code.specs.OverCells.{CellsRun, over_cells}
use Rattle.dc_code.specs.Troubles.{Computing, Event, Failure, write_line}
use Rattle.dc_code.proofs.Sequences.{sequence-then}
use Rattle.dc_steps.specs.declared.ended.Ended.{Ended}
use Rattle.dc_steps.specs.declared.ended.Next.{Next}
use Rattle.dc_steps.specs.declared.halt.Halt.{Halt}
use Rattle.dc_steps.specs.Calling.{unit_left}
use Rattle.dc_steps.specs.Carrying.{Carries}
use Rattle.dc_steps.specs.Ending.{Steps, Ends, ComesTo, next_behind, what_is_left, left_at}
use Rattle.dc_steps.specs.Halting.{Gives, Leaves, LeavesBoth}
use Rattle.dc_steps.specs.Working.{line_ended}
use Rattle.dc_steps.proofs.Leading.{led, led_alone}
use Rattle.dc_vm.specs.declared.work.Work.{Work}
use Rattle.dc_vm.specs.Groups.{work_of, values_made, frame_asked, cells_asked}
use Rattle.dc_vm.specs.Moving.{Moves, EndsAlone, paused_behind, halted, jumped_unless}

-- ---- what an instruction of each group does

-- It pauses at what it has to leave to the caller.
abbrev PausesAt : Computing (Frame × ℕ) → Option (Reached Event Failure (Frame × ℕ)) → Type 0
PausesAt c None = ⊥
PausesAt c (Some (done a)) = ⊥
PausesAt c (Some (bad trouble)) = ⊥
PausesAt c (Some (paused event rest)) = c ≡ pause event rest

abbrev Acts : What → Work → Type 0
Acts what Work.Values = (code : CodeLists) (go : Going) (line at : ℕ) (frame : Frame) (turns : ℕ)
    → act code go line what at frame turns ≡ behind go at turns (values_made line what frame)
Acts what Work.Frame = (code : CodeLists) (go : Going) (line at : ℕ) (frame : Frame) (turns : ℕ)
    → act code go line what at frame turns ≡ behind go at turns (frame_asked code line what frame)
Acts what Work.Cells = (code : CodeLists) (go : Going) (line at : ℕ) (frame : Frame) (turns : ℕ)
    → act code go line what at frame turns ≡ behind go at turns (cells_asked code line what frame)
Acts what Work.Callers = (code : CodeLists) (go : Going) (line at : ℕ) (frame : Frame) (turns : ℕ)
    → PausesAt (act code go line what at frame turns) (what_is_left code go at line what frame turns)
Acts what Work.Control = Unit {0}

acts : (what : What) → Acts what (work_of what)
acts (What.Const k n) = λ code go line at frame turns. refl
acts (What.Truth n) = λ code go line at frame turns. refl
acts What.Drop = λ code go line at frame turns. sym (sequence-then (item_off line frame) (λ w. give w.1) (λ left. go (suc at) left turns))
acts (What.Arith op k) = λ code go line at frame turns. refl
acts (What.Wrap k) = λ code go line at frame turns. refl
acts (What.Compare r) = λ code go line at frame turns. refl
acts What.And = λ code go line at frame turns. refl
acts What.Or = λ code go line at frame turns. refl
acts What.Eqv = λ code go line at frame turns. refl
acts What.Neqv = λ code go line at frame turns. refl
acts What.Not = λ code go line at frame turns. refl
acts What.Merge = λ code go line at frame turns. refl
acts (What.Subscript v) = λ code go line at frame turns. refl
acts (What.SubscriptSlot s) = λ code go line at frame turns. refl
acts (What.Load v) = λ code go line at frame turns. refl
acts (What.LoadSlot s) = λ code go line at frame turns. refl
acts (What.Store v) = λ code go line at frame turns. refl
acts (What.StoreSlot s) = λ code go line at frame turns. refl
acts (What.Forget v) = λ code go line at frame turns. refl
acts (What.ForgetSlot s) = λ code go line at frame turns. refl
acts (What.PlaceOf v) = λ code go line at frame turns. refl
acts (What.PlaceOfSlot s) = λ code go line at frame turns. refl
acts (What.PlaceOfDummy d) = λ code go line at frame turns. refl
acts (What.LoadDummy d) = λ code go line at frame turns. refl
acts (What.StoreDummy d) = λ code go line at frame turns. refl
acts (What.Fill v) = λ code go line at frame turns. refl
acts (What.FillSlot s) = λ code go line at frame turns. refl
acts (What.Fold f v) = λ code go line at frame turns. refl
acts (What.FoldSlot f s) = λ code go line at frame turns. refl
acts (What.Contribute op v) = λ code go line at frame turns. refl
acts (What.Jump t) = tt
acts (What.JumpFalse t) = tt
acts What.Turn = tt
acts (What.Back t) = tt
acts (What.Count k) = λ code go line at frame turns. refl
acts (What.Call p n) = tt
acts What.Return = tt
acts What.LoadResult = λ code go line at frame turns. refl
acts What.PutNumber = λ code go line at frame turns. refl
acts What.PutTruth = λ code go line at frame turns. refl
acts (What.PutChars x) = λ code go line at frame turns. refl
acts (What.PutAll v) = λ code go line at frame turns. refl
acts What.PutEnd = tt
acts (What.TakeNumber k) = λ code go line at frame turns. refl
acts What.TakeTruth = λ code go line at frame turns. refl
acts (What.TakeAll v) = λ code go line at frame turns. refl
acts (What.TakeEnd n) = λ code go line at frame turns. refl
acts (What.Enter c) = λ code go line at frame turns. refl
acts What.End = tt
acts What.Stop = λ code go line at frame turns. refl
acts What.ErrorStop = tt

-- ---- what is given

abbrev is_given : {A : Type 0} → Computing A → Type 0
is_given (give a) = Unit {0}
is_given c = ⊥

abbrev given_or : Frame → Computing Frame → Frame
given_or other (give frame) = frame
given_or other c = other

given-same : (first second : Frame) → ◌≡◌ {A = Computing Frame} (give first) (give second) → first ≡ second
given-same first second same = ap (given_or first) same

-- the frame with a line feed at the end of its line
abbrev ended : Frame → Frame
ended frame = with_line (frame.line ++ 10 ∷ []) frame.begun frame

-- ---- moves

-- What moves as another that does the same.
pub moves_alike : (next : Next) (left : Frame) (moved other : Going → Computing (Frame × ℕ)) → ((go : Going) → moved go ≡ other go) → Moves next left other → Moves next left moved
moves_alike (Next.On at turns) left moved other same moves = λ go. same go ∙ moves go
moves_alike (Next.Over ended) left moved other same moves = λ go. subst (EndsAlone ended left) (sym (same go)) (moves go)

-- A work that ends badly.
pub halts_move : {A B : Type 0} (halt : Halt) (line : ℕ) (left : Frame) (made : A → B) (work : Computing B) (next : Going → B → Computing (Frame × ℕ))
    → Gives line (Err halt) made work → Moves (halted halt line) left (λ go. sequence work (next go))
halts_move (Halt.Fault kind) line left made work next gives = λ go. ap (λ c. sequence c (next go)) gives
halts_move Halt.NoMemory line left made work next gives = λ go. tt

-- Where a truth that is taken off is false.
pub unless_false : (next : Next) (line target at turns : ℕ) (frame left : Frame) (z : ℤ) → value_off line frame ≡ give (z, left) → truth z ≡ false
    → Moves next left (λ go. ahead go line target at left turns) → Moves next left (λ go. jumped_unless go line target at frame turns)
unless_false next line target at turns frame left z off is moves =
    moves_alike next left (λ go. jumped_unless go line target at frame turns) (λ go. ahead go line target at left turns)
    (λ go. ap (λ c. sequence c (λ (w : ℤ × Frame). if truth w.0 then go (suc at) w.1 turns else ahead go line target at w.1 turns)) off
    ∙ ap (λ b. if b then go (suc at) left turns else ahead go line target at left turns) is)
    moves

-- A return is a unit that is left, and then what is behind its call.
returned-first : (go : Going) (line : ℕ) (frame : Frame) (turns : ℕ) → returned go line frame turns ≡ sequence (unit_left line frame) (λ (w : ℕ × Frame). go w.0 w.1 turns)
returned-first go line frame turns = by (nat_lt 1 (length frame.units))
  where
    by : (b : Bool) → (if b then go (innermost frame).back (left_unit frame) turns else stuck line) ≡ sequence (if b then give ((innermost frame).back, left_unit frame) else stuck line) (λ (w : ℕ × Frame). go w.0 w.1 turns)
    by true = refl
    by false = refl

pub returned_so : (line turns : ℕ) (frame left : Frame) (back : ℕ) → unit_left line frame ≡ give (back, left) → (go : Going) → returned go line frame turns ≡ go back left turns
returned_so line turns frame left back is go = returned-first go line frame turns ∙ ap (λ c. sequence c (λ (w : ℕ × Frame). go w.0 w.1 turns)) is

pub returned_halts : (halt : Halt) (line turns : ℕ) (frame left : Frame) → Gives line (Err halt) (λ (back : ℕ). (back, left)) (unit_left line frame)
    → Moves (halted halt line) left (λ go. returned go line frame turns)
returned_halts halt line turns frame left gives =
    moves_alike (halted halt line) left (λ go. returned go line frame turns) (λ go. sequence (unit_left line frame) (λ (w : ℕ × Frame). go w.0 w.1 turns)) (λ go. returned-first go line frame turns)
    (halts_move halt line left (λ (back : ℕ). (back, left)) (unit_left line frame) (λ go w. go w.0 w.1 turns) gives)

-- ---- over cells

module _ {M : Type 0} (code : CodeLists) (shown : M → Store) (after : Entry → M → M) where
  -- What steps as another that does the same.
  pub steps_alike : (next : Next) (left : Frame) (now : M) (run other : Going → CellsRun M Event Failure (Frame × ℕ))
      → ((go : Going) → run go ≡ other go) → Steps code shown after next left now other → Steps code shown after next left now run
  steps_alike (Next.On at turns) left now run other same steps = λ go. same go ∙ steps go
  steps_alike (Next.Over ended) left now run other same steps = λ go. subst (Ends code go ended left now) (sym (same go)) (steps go)

  -- What moves without cells.
  pub moves_carry : (next : Next) (left : Frame) (held : M) (moved : Going → Computing (Frame × ℕ))
      → Moves next left moved → Steps code shown after next left held (λ go. over_cells shown after held (moved go))
  moves_carry (Next.On at turns) left held moved moves = λ go. ap (over_cells shown after held) (moves go)
  moves_carry (Next.Over (Ended.Done turns)) left held moved moves = λ go. ap (over_cells shown after held) (moves go)
  moves_carry (Next.Over (Ended.Paused at turns)) left held moved moves = λ go. absurd (moves go)
  moves_carry (Next.Over (Ended.Fault kind line)) left held moved moves = λ go. ap (over_cells shown after held) (moves go)
  moves_carry (Next.Over (Ended.Spent line)) left held moved moves = λ go. ap (over_cells shown after held) (moves go)
  moves_carry (Next.Over Ended.NoMemory) left held moved moves = λ go. tt

  module _ (what : What) (line at turns : ℕ) (before left : Frame) (held : M) where
    pub values_carry : (result : Result Unit Halt) → Work.Values ≡ work_of what → Leaves line result left (values_made line what before)
        → Carries code shown after line what at turns before held (next_behind result at turns line) left held
    values_carry result is leaves =
        steps_alike (next_behind result at turns line) left held _ _ (λ go. ap (over_cells shown after held) (subst (Acts what) (sym is) (acts what) code go line at before turns))
        (led_alone code shown after result line at turns held (values_made line what before) left leaves)

    pub frame_carries : (result : Result Unit Halt) → Work.Frame ≡ work_of what → Leaves line result left (frame_asked code line what before)
        → Carries code shown after line what at turns before held (next_behind result at turns line) left held
    frame_carries result is leaves =
        steps_alike (next_behind result at turns line) left held _ _ (λ go. ap (over_cells shown after held) (subst (Acts what) (sym is) (acts what) code go line at before turns))
        (led_alone code shown after result line at turns held (frame_asked code line what before) left leaves)

    pub cells_carry : (result : Result Unit Halt) (now : M) → Work.Cells ≡ work_of what → LeavesBoth line result left now (over_cells shown after held (cells_asked code line what before))
        → Carries code shown after line what at turns before held (next_behind result at turns line) left now
    cells_carry result now is leaves =
        steps_alike (next_behind result at turns line) left now _ _ (λ go. ap (over_cells shown after held) (subst (Acts what) (sym is) (acts what) code go line at before turns))
        (led code shown after result line at turns held (cells_asked code line what before) left now leaves)

  pauses-there : (held : M) (c : Computing (Frame × ℕ)) (there : Option (Reached Event Failure (Frame × ℕ))) → PausesAt c there → ComesTo held there (over_cells shown after held c)
  pauses-there held c None pauses = absurd pauses
  pauses-there held c (Some (done a)) pauses = absurd pauses
  pauses-there held c (Some (bad trouble)) pauses = absurd pauses
  pauses-there held c (Some (paused event rest)) pauses = ap (over_cells shown after held) pauses

  -- The caller's are told by their place.
  pub callers_carry : (instr : Instr) (at turns : ℕ) (frame : Frame) (held : M) → slice_get code.instructions at ≡ Some instr → Work.Callers ≡ work_of instr.what
      → Carries code shown after instr.line instr.what at turns frame held (Next.Over (Ended.Paused at turns)) frame held
  callers_carry instr at turns frame held found is = λ go.
      subst (λ there. ComesTo held (left_at code go at frame turns there) (over_cells shown after held (act code go instr.line instr.what at frame turns))) (sym found)
      (pauses-there held (act code go instr.line instr.what at frame turns) (what_is_left code go at instr.line instr.what frame turns)
      (subst (Acts instr.what) (sym is) (acts instr.what) code go instr.line at frame turns))

  -- A line is ended, and the caller writes it.
  pub line_carries : (instr : Instr) (at turns : ℕ) (before left : Frame) (held : M) (result : Result Unit Halt) → slice_get code.instructions at ≡ Some instr → What.PutEnd ≡ instr.what
      → Leaves instr.line result left (line_ended before)
      → Carries code shown after instr.line What.PutEnd at turns before held (paused_behind result at turns instr.line) left held
  line_carries instr at turns before left held (Ok a) found is leaves = λ go.
      subst (λ there. ComesTo held there (over_cells shown after held (act code go instr.line What.PutEnd at before turns)))
      (sym (ap (left_at code go at left turns) found ∙ ap (λ what. what_is_left code go at instr.line what left turns) (sym is)))
      (ap (λ frame. record { meaning = held; reached = paused (write_line instr.line frame.line) (λ told. go (suc at) (with_line [] false frame) turns) }) (given-same (ended before) left leaves))
  line_carries instr at turns before left held (Err (Halt.Fault kind)) found is leaves = absurd (subst is_given leaves tt)
  line_carries instr at turns before left held (Err Halt.NoMemory) found is leaves = λ go. tt

pub ruleset moved = (moves_carry, line_carries)

pub ruleset carried = (values_carry, frame_carries, cells_carry, callers_carry)
