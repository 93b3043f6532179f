-- From one instruction to the run.
use Rattle.std.proofs.Common.{◌≡◌, ◌<◌, ℕ, zero, suc, Bool, true, false, List, [], ◌∷◌, length, Option, Some, None, refl, sym, ap, ◌∙◌, subst, arith}
use Rattle.std.proofs.lemmas.Bool.{ltb-true, lt-ltb}
use Rattle.std.proofs.lemmas.Option.{none-some}
use Rattle.std.specs.Prelude.{ℤ, pos, min, nat_lt, slice_get, if◌then◌else◌}
use Rattle.dc_int.specs.declared.fault.Why.{Why}
use Rattle.dc_int.specs.Entries.{Entry}
use Rattle.dc_int.specs.Store.{Store}
use Rattle.dc_code.specs.declared.frame.Item.{Item}
use Rattle.dc_code.specs.declared.instr.Instr.{Instr}
use Rattle.dc_code.specs.declared.instr.What.{What}
use Rattle.dc_code.specs.Codes.{CodeLists}
use Rattle.dc_code.specs.Computation.{give, fail, Reached, done, bad, paused}
use Rattle.dc_code.specs.Frames.{Frame, pushed, with_line}
use Rattle.dc_code.specs.Instructions.{Going, act}
use Rattle.dc_code.specs.Machine.{machine, fetched, bound}
use Rattle.dc_code.specs.OverCells.{CellsRun, over_cells}
use Rattle.dc_code.specs.Troubles.{Computing, Event, Failure}
use Rattle.dc_code.proofs.Unfolding.{unfolds, act-same, SameBelow}
use Rattle.dc_steps.specs.declared.ended.Ended.{Ended}
use Rattle.dc_steps.specs.declared.ended.Next.{Next}
use Rattle.dc_steps.specs.Carrying.{Carries}
use Rattle.dc_steps.specs.Ending.{Ends, ComesTo, what_is_left, left_at}

-- The run from a place is the instruction there.
pub carried_out : (code : CodeLists) (at : ℕ) (frame : Frame) (turns : ℕ) (instr : Instr) → slice_get code.instructions at ≡ Some instr
    → machine code at frame turns ≡ act code (machine code) instr.line instr.what at frame turns
carried_out code at frame turns instr found = unfolds code at frame turns ∙ ap (λ found. fetched code (machine code) found at frame turns) found

pub past_the_end : (code : CodeLists) (at : ℕ) (frame : Frame) (turns : ℕ) → slice_get code.instructions at ≡ None
    → machine code at frame turns ≡ fetched code (machine code) None at frame turns
past_the_end code at frame turns found = unfolds code at frame turns ∙ ap (λ found. fetched code (machine code) found at frame turns) found

inside : {A : Type 0} (items : List A) (at : ℕ) (item : A) → slice_get items at ≡ Some item → at < length items
inside [] zero item e = absurd (none-some item e)
inside [] (suc at) item e = absurd (none-some item e)
inside (first ∷ items) zero item e = omega arith
inside (first ∷ items) (suc at) item e = below at (length items) (inside items at item e)
  where
    below : (m n : ℕ) → m < n → suc m < suc n
    below m n less = omega (arith, less)

-- ---- the bound falls

-- It goes on no further than it tells.
abbrev told : Going
told at frame turns = give (frame, turns)

-- The same, but it fails unless the bound is below this.
abbrev told_below : CodeLists → ℕ → Going
told_below code most at frame turns =
    if nat_lt (bound code at frame turns) most then give (frame, turns) else fail (record { why = Why.Spent; line = 0 })

same-told : (code : CodeLists) (most : ℕ) → SameBelow code told (told_below code most) most
same-told code most at frame turns less = by (nat_lt (bound code at frame turns) most) (lt-ltb _ _ less)
  where
    by : (b : Bool) → b ≡ true → told at frame turns ≡ (if b then give (frame, turns) else fail (record { why = Why.Spent; line = 0 }))
    by true e = refl
    by false e = absurd (cc e)

abbrev is_done : {M E T A : Type 0} → CellsRun M E T A → Type 0
is_done run = by run.reached
  where
    by : {E T A : Type 0} → Reached E T A → Type 0
    by (done a) = Unit {0}
    by (bad trouble) = ⊥
    by (paused event rest) = ⊥

apart : {M E T A P : Type 0} (held : M) (a : A) (trouble : T) → ◌≡◌ {A = CellsRun M E T A} (record { meaning = held; reached = done a }) (record { meaning = held; reached = bad trouble }) → P
apart held a trouble e = absurd (subst is_done e tt)

module _ {M : Type 0} (code : CodeLists) (shown : M → Store) (after : Entry → M → M) where
  -- An instruction that goes on lowers the bound, whatever goes on behind it.
  pub lower : (at : ℕ) (before : Frame) (turns : ℕ) (instr : Instr) (held : M) (to : ℕ) (left : Frame) (fewer : ℕ) (now : M)
      → slice_get code.instructions at ≡ Some instr
      → Carries code shown after instr.line instr.what at turns before held (Next.On to fewer) left now
      → bound code to left fewer < bound code at before turns
  lower at before turns instr held to left fewer now found carries = by (nat_lt (bound code to left fewer) most) refl (sym (carries told) ∙ ap (over_cells shown after held) same ∙ carries (told_below code most))
    where
      most : ℕ
      most = bound code at before turns

      same : act code told instr.line instr.what at before turns ≡ act code (told_below code most) instr.line instr.what at before turns
      same = act-same code told (told_below code most) instr.line instr.what at before turns (inside code.instructions at instr found) (same-told code most)

      by : (b : Bool) → nat_lt (bound code to left fewer) most ≡ b
          → over_cells shown after now (told to left fewer) ≡ over_cells shown after now (if b then told to left fewer else fail (record { why = Why.Spent; line = 0 }))
          → bound code to left fewer < most
      by true e equal = ltb-true _ _ e
      by false e equal = apart now (left, fewer) _ equal

  -- So a run that comes to an instruction comes to where that goes on.
  pub goes_on : (at : ℕ) (before : Frame) (turns : ℕ) (instr : Instr) (held : M) (to : ℕ) (left : Frame) (fewer : ℕ) (now : M)
      → slice_get code.instructions at ≡ Some instr
      → Carries code shown after instr.line instr.what at turns before held (Next.On to fewer) left now
      → over_cells shown after held (machine code at before turns) ≡ over_cells shown after now (machine code to left fewer)
  goes_on at before turns instr held to left fewer now found carries =
      ap (over_cells shown after held) (carried_out code at before turns instr found) ∙ carries (machine code)

  -- And it ends where that ends.
  pub ends : (at : ℕ) (before : Frame) (turns : ℕ) (instr : Instr) (held : M) (ended : Ended) (left : Frame) (now : M) (whole : CellsRun M Event Failure (Frame × ℕ))
      → slice_get code.instructions at ≡ Some instr
      → Carries code shown after instr.line instr.what at turns before held (Next.Over ended) left now
      → whole ≡ over_cells shown after held (machine code at before turns)
      → Ends code (machine code) ended left now whole
  ends at before turns instr held ended left now whole found carries same =
      subst (λ run. Ends code (machine code) ended left now run) (sym (same ∙ ap (over_cells shown after held) (carried_out code at before turns instr found))) (carries (machine code))

-- ---- the bound falls where a run pauses

min-same : (n : ℕ) → min n n ≡ n
min-same n = omega arith

-- What goes on behind a pause that is told this.
abbrev resumed : {M : Type 0} → ℤ → CellsRun M Event Failure (Frame × ℕ) → Computing (Frame × ℕ)
resumed z run = by run.reached
  where
    by : Reached Event Failure (Frame × ℕ) → Computing (Frame × ℕ)
    by (done a) = give a
    by (bad trouble) = fail trouble
    by (paused event rest) = rest z

abbrev is_given : {A : Type 0} → Computing A → Type 0
is_given (give a) = Unit {0}
is_given c = ⊥

below-most : (code : CodeLists) (most at : ℕ) (frame : Frame) (turns : ℕ) → told at frame turns ≡ told_below code most at frame turns → bound code at frame turns < most
below-most code most at frame turns same = by (nat_lt (bound code at frame turns) most) refl same
  where
    by : (b : Bool) → nat_lt (bound code at frame turns) most ≡ b
        → told at frame turns ≡ (if b then give (frame, turns) else fail (record { why = Why.Spent; line = 0 }))
        → bound code at frame turns < most
    by true e equal = ltb-true _ _ e
    by false e equal = absurd (subst is_given equal tt)

module _ {M : Type 0} (code : CodeLists) (now : M) (to fewer most : ℕ) (left : Frame) where
  -- A pause goes on as another where the runs are the same.
  resumes : (frame : Frame) (turns : ℕ) (z : ℤ) (event : Event) (rest other : ℤ → Computing (Frame × ℕ))
      → ◌≡◌ {A = CellsRun M Event Failure (Frame × ℕ)} (record { meaning = now; reached = paused event rest }) (record { meaning = now; reached = paused event other })
      → rest z ≡ told (suc to) frame turns → other z ≡ told_below code most (suc to) frame turns
      → bound code (suc to) frame turns < most
  resumes frame turns z event rest other same first second = below-most code most (suc to) frame turns (sym first ∙ ap (resumed z) same ∙ second)

  paused_lower : (what : What) (line : ℕ) (run : CellsRun M Event Failure (Frame × ℕ))
      → ComesTo now (what_is_left code told to line what left fewer) run
      → ComesTo now (what_is_left code (told_below code most) to line what left fewer) run
      → bound code (suc to) left fewer < most
  paused_lower (What.Const k n) line run first second = absurd first
  paused_lower (What.Truth n) line run first second = absurd first
  paused_lower What.Drop line run first second = absurd first
  paused_lower (What.Arith op k) line run first second = absurd first
  paused_lower (What.Wrap k) line run first second = absurd first
  paused_lower (What.Compare r) line run first second = absurd first
  paused_lower What.And line run first second = absurd first
  paused_lower What.Or line run first second = absurd first
  paused_lower What.Eqv line run first second = absurd first
  paused_lower What.Neqv line run first second = absurd first
  paused_lower What.Not line run first second = absurd first
  paused_lower What.Merge line run first second = absurd first
  paused_lower (What.Subscript v) line run first second = absurd first
  paused_lower (What.SubscriptSlot s) line run first second = absurd first
  paused_lower (What.Load v) line run first second = absurd first
  paused_lower (What.LoadSlot s) line run first second = absurd first
  paused_lower (What.Store v) line run first second = absurd first
  paused_lower (What.StoreSlot s) line run first second = absurd first
  paused_lower (What.Forget v) line run first second = absurd first
  paused_lower (What.ForgetSlot s) line run first second = absurd first
  paused_lower (What.PlaceOf v) line run first second = absurd first
  paused_lower (What.PlaceOfSlot s) line run first second = absurd first
  paused_lower (What.PlaceOfDummy d) line run first second = absurd first
  paused_lower (What.LoadDummy d) line run first second = absurd first
  paused_lower (What.StoreDummy d) line run first second = absurd first
  paused_lower (What.Fill v) line run first second = absurd first
  paused_lower (What.FillSlot s) line run first second = absurd first
  paused_lower (What.Fold f v) line run first second = absurd first
  paused_lower (What.FoldSlot f s) line run first second = absurd first
  paused_lower (What.Contribute op v) line run first second = absurd first
  paused_lower (What.Jump t) line run first second = absurd first
  paused_lower (What.JumpFalse t) line run first second = absurd first
  paused_lower What.Turn line run first second = absurd first
  paused_lower (What.Back t) line run first second = absurd first
  paused_lower (What.Count k) line run first second = absurd first
  paused_lower (What.Call p n) line run first second = absurd first
  paused_lower What.Return line run first second = absurd first
  paused_lower What.LoadResult line run first second = absurd first
  paused_lower What.PutNumber line run first second = absurd first
  paused_lower What.PutTruth line run first second = absurd first
  paused_lower (What.PutChars x) line run first second = absurd first
  paused_lower (What.PutAll v) line run first second = absurd first
  paused_lower What.PutEnd line run first second = resumes (with_line [] false left) fewer (pos 0) _ _ _ (sym first ∙ second) refl refl
  paused_lower (What.TakeNumber k) line run first second = resumes (pushed (Item.Value (pos 0)) left) fewer (pos 0) _ _ _ (sym first ∙ second) refl refl
  paused_lower What.TakeTruth line run first second = resumes (pushed (Item.Value (pos 0)) left) fewer (pos 0) _ _ _ (sym first ∙ second) refl refl
  paused_lower (What.TakeAll v) line run first second = resumes left fewer (pos 0) _ _ _ (sym first ∙ second) refl refl
  paused_lower (What.TakeEnd n) line run first second = resumes left fewer (pos 0) _ _ _ (sym first ∙ second) refl refl
  paused_lower (What.Enter c) line run first second = subst (λ n. bound code (suc to) left n < most) (min-same fewer) (resumes left (min fewer fewer) (pos fewer) _ _ _ (sym first ∙ second) refl refl)
  paused_lower What.End line run first second = absurd first
  paused_lower What.Stop line run first second = resumes left fewer (pos 0) _ _ _ (sym first ∙ second) refl refl
  paused_lower What.ErrorStop line run first second = absurd first

  left_lower : (there : Option Instr) (run : CellsRun M Event Failure (Frame × ℕ))
      → ComesTo now (left_at code told to left fewer there) run
      → ComesTo now (left_at code (told_below code most) to left fewer there) run
      → bound code (suc to) left fewer < most
  left_lower None run first second = absurd first
  left_lower (Some instr) run first second = paused_lower instr.what instr.line run first second

module _ {M : Type 0} (code : CodeLists) (shown : M → Store) (after : Entry → M → M) where
  -- What goes on behind an instruction that pauses has a lower bound.
  pub pause_lowers : (at : ℕ) (before : Frame) (turns : ℕ) (instr : Instr) (held : M) (to : ℕ) (left : Frame) (fewer : ℕ) (now : M)
      → slice_get code.instructions at ≡ Some instr
      → Carries code shown after instr.line instr.what at turns before held (Next.Over (Ended.Paused to fewer)) left now
      → bound code (suc to) left fewer < bound code at before turns
  pause_lowers at before turns instr held to left fewer now found carries =
      left_lower code now to fewer most left (slice_get code.instructions to) (over_cells shown after held (act code told instr.line instr.what at before turns))
      (carries told) (subst (λ c. ComesTo now (left_at code (told_below code most) to left fewer (slice_get code.instructions to)) (over_cells shown after held c)) (sym same) (carries (told_below code most)))
    where
      most : ℕ
      most = bound code at before turns

      same : act code told instr.line instr.what at before turns ≡ act code (told_below code most) instr.line instr.what at before turns
      same = act-same code told (told_below code most) instr.line instr.what at before turns (inside code.instructions at instr found) (same-told code most)
