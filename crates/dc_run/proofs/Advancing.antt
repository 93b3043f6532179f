-- How far a run goes from a place.
use Rattle.std.proofs.Common.{◌≡◌, ◌+◌, ◌*◌, ◌<◌, ◌≤◌, ℕ, suc, false, List, [], ◌∷◌, length, Some, sym, ap, subst, ◌∙◌, arith}
use Rattle.std.proofs.Math.Nat.{mul-le-mul}
use Rattle.std.specs.Prelude.{slice_get, Result, Ok, Err, IfOk, OnOk}
use Rattle.dc_int.specs.declared.fault.Why.{Why}
use Rattle.dc_int.specs.Entries.{Reads, Defines, Undefines, Contributes}
use Rattle.dc_int.specs.Store.{value_at, bounds_of}
use Rattle.dc_code.specs.Codes.{CodeLists}
use Rattle.dc_code.specs.Computation.{give, fail, read, define, undefine, contribute, ask, pause, Reached, done, bad, SameShape}
use Rattle.dc_code.specs.Frames.{Frame, UnitFrame}
use Rattle.dc_code.specs.Machine.{machine, bound}
use Rattle.dc_code.specs.OverCells.{CellsRun}
use Rattle.dc_code.specs.Troubles.{Computing, Event, Failure}
use Rattle.dc_code.proofs.Stores.{shape-after, shape-then}
use Rattle.dc_steps.specs.Ending.{left_at}
use Rattle.dc_steps.specs.Ready.{AreReady}
use Rattle.dc_tree.specs.declared.symbols.Symbol.{Symbol}
use Rattle.dc_meaning.specs.Programs.{first_store}
use Rattle.dc_run.specs.declared.ending.Ending as endings
use Rattle.dc_run.specs.declared.standing.Standing as standings
use Rattle.dc_run.specs.declared.standing.Step.{Step}
use Rattle.dc_run.specs.Playing.{Looping, greatest_output}
use Rattle.dc_run.specs.Resuming.{IsUsual, Attends}
use Rattle.dc_run.specs.Tasks.{Advances}
use Rattle.dc_run.specs.Variables.{Held, held_by, after_entry}
use Rattle.dc_run.proofs.Played.{over_held, told-run, told-done, told-bad}
use Rattle.dc_run.proofs.Visited.{same-shape}

-- What the machine does leaves the elements and bounds.
cells-shape : {A : Type 0} (held : Held) (c : Computing A) → SameShape held.store (over_held held c).meaning.store
cells-shape held (give a) = same-shape held.store
cells-shape held (fail failure) = same-shape held.store
cells-shape held (read x line rest) = cells-shape (after_entry (Reads x line) held) (rest (value_at held.store x))
cells-shape held (define x z line rest) =
    let next = after_entry (Defines x z line) held in
    shape-then held.store next.store (over_held next rest).meaning.store (shape-after (Defines x z line ∷ []) held.store) (cells-shape next rest)
cells-shape held (undefine x line rest) =
    let next = after_entry (Undefines x line) held in
    shape-then held.store next.store (over_held next rest).meaning.store (shape-after (Undefines x line ∷ []) held.store) (cells-shape next rest)
cells-shape held (contribute x op z rest) = cells-shape (after_entry (Contributes x op z) held) rest
cells-shape held (ask variable rest) = cells-shape held (rest (bounds_of held.store variable))
cells-shape held (pause event rest) = same-shape held.store

-- The machine has run from a place: it has come to this, and the output is as it was.
pub record HasRun (code : CodeLists) (at turns : ℕ) (before after : standings.Standing) (reached : Reached Event Failure (Frame × ℕ)) : Type 0 where
  pub is : over_held (held_by before.variables) (machine code at before.frame turns) ≡ record { meaning = held_by after.variables; reached = reached }
  pub output : after.output ≡ before.output

pub usual-ran : (symbols : List Symbol) (code : CodeLists) (at turns : ℕ) (before after : standings.Standing) (reached : Reached Event Failure (Frame × ℕ)) → HasRun code at turns before after reached
    → AreReady code (λ (held : Held). held.shapes) (λ (held : Held). held.store) (held_by after.variables) → IsUsual symbols code before → IsUsual symbols code after
usual-ran symbols code at turns before after reached ran ready usual =
    let held = held_by before.variables in
    let c = machine code at before.frame turns in
    record {
      shape =
          shape-then (first_store symbols) before.variables.ledger.store after.variables.ledger.store usual.shape
          (subst (SameShape held.store) (ap (λ (run : CellsRun Held Event Failure (Frame × ℕ)). run.meaning.store) ran.is) (cells-shape held c));
      ready = ready;
      room = subst (λ (o : List ℕ). length o ≤ greatest_output) (sym ran.output) usual.room;
    }

pub done-advances : (looping : Looping) (symbols : List Symbol) (code : CodeLists) (at turns : ℕ) (before after : standings.Standing) (w : Frame × ℕ) → HasRun code at turns before after (done w)
    → Advances looping symbols code at turns before after (Step.Over endings.Ending.Done)
done-advances looping symbols code at turns before after w ran =
    (λ given. told-run given looping code at turns before after (done w) ran.output ran.is ∙ told-done given looping symbols after w, tt)

pub bad-advances : (looping : Looping) (symbols : List Symbol) (code : CodeLists) (at turns : ℕ) (before after : standings.Standing) (why : Why) (line : ℕ) (step : Step) → step ≡ Step.Over (endings.Ending.Bad why line)
    → HasRun code at turns before after (bad (record { why = why; line = line })) → Advances looping symbols code at turns before after step
bad-advances looping symbols code at turns before after why line step is ran =
    subst (Advances looping symbols code at turns before after) (sym is)
    (λ given. told-run given looping code at turns before after (bad (record { why = why; line = line })) ran.output ran.is ∙ told-bad given looping symbols after why line, tt)

abbrev bound-by : CodeLists → ℕ → List UnitFrame → ℕ → ℕ
bound-by code at units turns = bound code at (record { stack = []; units = units; line = []; begun = false }) turns

-- Fewer turns, less to do.
less-bound : (code : CodeLists) (at : ℕ) (units : List UnitFrame) (left turns : ℕ) → left ≤ turns → bound-by code at units left ≤ bound-by code at units turns
less-bound code at units left turns less =
    let size = suc (length code.instructions) in
    let rounds : 2 * left + length units ≤ 2 * turns + length units = omega (arith, less) in
    let all : (2 * left + length units) * size ≤ (2 * turns + length units) * size = mul-le-mul rounds (omega arith) in
    omega (arith, all)

-- A pause that is attended to.
pub attended-advances : (looping : Looping) (symbols : List Symbol) (code : CodeLists) (at turns : ℕ) (before middle after : standings.Standing) (reached : Reached Event Failure (Frame × ℕ)) → HasRun code at turns before middle reached
    → (there left : ℕ) → left_at code (machine code) there middle.frame left (slice_get code.instructions there) ≡ Some reached → (step : Step) → Attends looping symbols code there left middle after step
    → after.frame.units ≡ middle.frame.units → bound code (suc there) middle.frame left < bound code at before.frame turns
    → Advances looping symbols code at turns before after step
attended-advances looping symbols code at turns before middle after reached ran there left is (Step.Over ending) attends units lower =
    (λ given. told-run given looping code at turns before middle reached ran.output ran.is ∙ attends.is given reached is, attends.own)
attended-advances looping symbols code at turns before middle after reached ran there left is (Step.On next rest) attends units lower =
    let less = less-bound code (suc there) middle.frame.units rest left attends.behind.1 in
    let same : bound code next after.frame rest ≡ bound code (suc there) middle.frame rest = λ i. bound-by code (attends.behind.0 i) (units i) rest in (
      λ given. told-run given looping code at turns before middle reached ran.output ran.is ∙ attends.is given reached is,
      omega (arith, same, less, lower),
    )

pub both-ok : {A E : Type 0} (result : Result A E) (P : A → Type 0) (Q : Type 0) (R : A → Type 0) → IfOk result P → OnOk result Q → ((a : A) → P a → Q → R a) → IfOk result R
both-ok (Ok a) P Q R p q then = then a p q
both-ok (Err e) P Q R p q then = tt
