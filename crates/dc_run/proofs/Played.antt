-- A program that is run over the variables from one pause to the next.
use Rattle.std.proofs.Common.{◌≡◌, ◌++◌, ℕ, List, [], length, Option, Some, None, refl, sym, ap, ◌∙◌, append-nil}
use Rattle.dc_int.specs.declared.fault.Why.{Why}
use Rattle.dc_int.specs.Entries.{Reads, Defines, Undefines, Contributes}
use Rattle.dc_int.specs.Store.{value_at, bounds_of}
use Rattle.dc_code.specs.Codes.{CodeLists}
use Rattle.dc_code.specs.Computation.{give, fail, read, define, undefine, contribute, ask, pause, sequence, Reached, done, bad}
use Rattle.dc_code.specs.Frames.{Frame}
use Rattle.dc_code.specs.Machine.{machine}
use Rattle.dc_code.specs.OverCells.{CellsRun, over_cells}
use Rattle.dc_code.specs.Troubles.{Failure, Computing, Event}
use Rattle.dc_steps.specs.Ending.{ComesTo}
use Rattle.dc_tree.specs.declared.symbols.Symbol.{Symbol}
use Rattle.dc_run.specs.declared.ending.Ending as code_endings
use Rattle.dc_run.specs.declared.standing.Standing as standings
use Rattle.dc_run.specs.Answered.{ending_of}
use Rattle.dc_run.specs.Playing.{Standing, Looping, played}
use Rattle.dc_run.specs.ReportLine as endings
use Rattle.dc_run.specs.Resuming.{told_from, resumed_from, told_at}
use Rattle.dc_run.specs.Running.{Told, told_behind}
use Rattle.dc_run.specs.Variables.{Held, held_by, after_entry}

abbrev pub over_held : {A : Type 0} → Held → Computing A → CellsRun Held Event Failure A
over_held held c = over_cells (λ (h : Held). h.store) after_entry held c

module _ {A : Type 0} (looping : Looping) (input : List ℕ) (used : ℕ) (next : A → Computing Unit) where
  abbrev here : Held → Standing
  here held = record { store = held.store; input = input; used = used }

  -- A part of a program, and then the rest.
  pub played-cells : (held : Held) (c : Computing A)
      → played looping (here held) (sequence c next) ≡ resumed_from looping (here (over_held held c).meaning) (over_held held c).reached next
  played-cells held (give a) = refl
  played-cells held (fail failure) = refl
  played-cells held (read x line rest) = played-cells (after_entry (Reads x line) held) (rest (value_at (held.store) x))
  played-cells held (define x z line rest) = played-cells (after_entry (Defines x z line) held) rest
  played-cells held (undefine x line rest) = played-cells (after_entry (Undefines x line) held) rest
  played-cells held (contribute x op z rest) = played-cells (after_entry (Contributes x op z) held) rest
  played-cells held (ask variable rest) = played-cells held (rest (bounds_of (held.store) variable))
  played-cells held (pause event rest) = refl

-- The variables and the frame of a run have changed.
abbrev pub moved : standings.Standing → standings.Standing → Type 0
moved before after = after.output ≡ before.output

-- What is told in all from a place is what is told where the machine stops.
pub told-run : (given : List ℕ) (looping : Looping) (code : CodeLists) (at turns : ℕ) (before after : standings.Standing) (reached : Reached Event Failure (Frame × ℕ))
    → after.output ≡ before.output
    → over_held (held_by before.variables) (machine code at before.frame turns) ≡ record { meaning = held_by after.variables; reached = reached }
    → told_from given looping code at turns before ≡ told_at given looping after reached
told-run given looping code at turns before after reached same is =
    ap (told_behind before.output)
    (played-cells looping given (length before.output) (λ w. give tt) (held_by before.variables) (machine code at before.frame turns)
    ∙ ap (λ (run : CellsRun Held Event Failure (Frame × ℕ)). resumed_from looping (record { store = run.meaning.store; input = given; used = length before.output }) run.reached (λ w. give tt)) is)
    ∙ ap (λ (o : List ℕ). told_behind o (resumed_from looping (record { store = after.variables.ledger.store; input = given; used = length o }) reached (λ w. give tt))) (sym same)

-- ---- the end of a run

pub nothing-more : (written : List ℕ) (ending : endings.Ending) → ◌≡◌ {A = Told} (record { output = written ++ []; ending = ending }) (record { output = written; ending = ending })
nothing-more written ending = λ i. record { output = append-nil written i; ending = ending }

pub told-done : (given : List ℕ) (looping : Looping) (symbols : List Symbol) (standing : standings.Standing) (w : Frame × ℕ)
    → told_at given looping standing (done w) ≡ record { output = standing.output; ending = ending_of symbols code_endings.Ending.Done }
told-done given looping symbols standing w = nothing-more standing.output endings.done

pub told-bad : (given : List ℕ) (looping : Looping) (symbols : List Symbol) (standing : standings.Standing) (why : Why) (line : ℕ)
    → told_at given looping standing (bad (record { why = why; line = line })) ≡ record { output = standing.output; ending = ending_of symbols (code_endings.Ending.Bad why line) }
told-bad given looping symbols standing why line = nothing-more standing.output (endings.bad (record { why = why; line = line }))

-- ---- a pause

-- Where the cells come to what is left at an instruction, that is there.
pub record Comes {M : Type 0} (held : M) (left : Option (Reached Event Failure (Frame × ℕ))) (run : CellsRun M Event Failure (Frame × ℕ)) : Type 0 where
  pub reached : Reached Event Failure (Frame × ℕ)
  pub is : left ≡ Some reached
  pub run_is : run ≡ record { meaning = held; reached = reached }

pub comes-there : {M : Type 0} (held : M) (left : Option (Reached Event Failure (Frame × ℕ))) (run : CellsRun M Event Failure (Frame × ℕ)) → ComesTo held left run → Comes held left run
comes-there held (Some reached) run comes = record { reached = reached; is = refl; run_is = comes }
comes-there held None run comes = absurd comes
