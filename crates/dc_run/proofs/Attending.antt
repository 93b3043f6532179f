-- What is done at a pause of the machine.
use Rattle.std.proofs.Common.{◌≡◌, ◌≤◌, ◌+◌, ℕ, suc, Bool, true, false, cond, List, [], ◌++◌, length, Option, Some, None, refl, sym, ap, subst, ◌∙◌, append_assoc, length-append, arith}
use Rattle.std.proofs.lemmas.Option.{same_Some}
use Rattle.std.specs.Prelude.{ℤ, min, nat_le, slice_get}
use Rattle.dc_int.specs.declared.fault.FaultKind.{FaultKind}
use Rattle.dc_int.specs.declared.fault.Why.{Why}
use Rattle.dc_code.specs.declared.instr.Instr.{Instr}
use Rattle.dc_code.specs.declared.instr.What.{What}
use Rattle.dc_code.specs.declared.verdict.Verdict as answers
use Rattle.dc_code.specs.Codes.{CodeLists}
use Rattle.dc_code.specs.Combinations.{natural}
use Rattle.dc_code.specs.Computation.{Reached, paused}
use Rattle.dc_code.specs.Frames.{Frame, with_line}
use Rattle.dc_code.specs.Inner.{Forms}
use Rattle.dc_code.specs.Machine.{machine}
use Rattle.dc_code.specs.Troubles.{Failure, Computing, Event, write_line, enter_loop}
use Rattle.dc_code.specs.Verdicts.{seen}
use Rattle.dc_code.specs.Visits.{Visited}
use Rattle.dc_steps.specs.Ending.{left_at}
use Rattle.dc_tree.specs.declared.symbols.Symbol.{Symbol}
use Rattle.dc_walk.specs.Visiting.{visit_of}
use Rattle.dc_run.specs.declared.ending.Ending as endings
use Rattle.dc_run.specs.declared.standing.Standing as standings
use Rattle.dc_run.specs.declared.variables.Variables.{Variables}
use Rattle.dc_run.specs.Answered.{ending_of, bounds_named, NamesOwn}
use Rattle.dc_run.specs.Playing.{Standing, Outcome, Looping, greatest_output, behind_output, fails_with, bounds_in, visits_loop, played}
use Rattle.dc_run.specs.ReportLine as lines
use Rattle.dc_run.specs.Resuming.{at_of, rest_from, told_at, told_after, GoesBehind, Attends}
use Rattle.dc_run.specs.Running.{IsWritten, Told, told_behind, StepsOwn, stopped_by, step_behind, IsVisitWith, loop_in, looping_in}
use Rattle.dc_run.proofs.Played.{nothing-more}

-- What is left at an instruction that is known.
left-is : (code : CodeLists) (at turns : ℕ) (frame : Frame) (instr : Instr) (left reached : Reached Event Failure (Frame × ℕ)) → slice_get code.instructions at ≡ Some instr
    → left_at code (machine code) at frame turns (Some instr) ≡ Some left
    → left_at code (machine code) at frame turns (slice_get code.instructions at) ≡ Some reached → reached ≡ left
left-is code at turns frame instr left reached found is there =
    same_Some reached left (sym there ∙ ap (left_at code (machine code) at frame turns) found ∙ is)

-- ---- a line

module _ (given : List ℕ) (looping : Looping) (symbols : List Symbol) (code : CodeLists) (at turns : ℕ) (before : standings.Standing) (line : ℕ) (output : List ℕ) where
  abbrev bytes : List ℕ
  bytes = before.frame.line

  abbrev next : Computing Unit
  next = rest_from code (suc at) (with_line [] false before.frame) turns

  abbrev behind-line : ℕ → Outcome
  behind-line used = played looping (record { store = before.variables.ledger.store; input = given; used = used }) next

  abbrev line-written : Bool → Outcome
  line-written room =
      cond room (behind_output bytes (behind-line (length before.output + length bytes))) (fails_with FaultKind.OutputFull line)

  abbrev after-line : standings.Standing
  after-line = record { variables = before.variables; frame = with_line [] false before.frame; output = output }

  output-step : (met : Option endings.Ending) → IsWritten line bytes before.output output met
      → told_behind before.output (line-written (nat_le (length before.output + length bytes) greatest_output)) ≡ told_after given looping symbols code after-line (step_behind at turns met)
  output-step None (room, is) =
      let fits : nat_le (length before.output + length bytes) greatest_output ≡ true = search (arith, room) in
      let long : length before.output + length bytes ≡ length (before.output ++ bytes) = sym (length-append before.output bytes) in
      ap (λ b. told_behind before.output (line-written b)) fits
      ∙ (λ i. record { output = sym (append_assoc before.output bytes (behind-line (length before.output + length bytes)).output) i; ending = (behind-line (length before.output + length bytes)).ending })
      ∙ ap (λ n. told_behind (before.output ++ bytes) (behind-line n)) long
      ∙ ap (λ o. told_behind o (behind-line (length o))) (sym is)
  output-step (Some ending) (full, (is, ends)) =
      let full_test : nat_le (length before.output + length bytes) greatest_output ≡ false = search (arith, full) in
      ap (λ b. told_behind before.output (line-written b)) full_test
      ∙ nothing-more before.output (lines.bad (record { why = Why.Fault FaultKind.OutputFull; line = line }))
      ∙ (λ i. record { output = sym is i; ending = ending_of symbols (sym ends i) })

written-own : (symbols : List Symbol) (line at turns : ℕ) (text before output : List ℕ) (met : Option endings.Ending) → IsWritten line text before output met → StepsOwn symbols (step_behind at turns met)
written-own symbols line at turns text before output None written = tt
written-own symbols line at turns text before output (Some ending) (full, (is, ends)) = subst (NamesOwn symbols) (sym ends) tt

goes-behind : (at turns left : ℕ) (met : Option endings.Ending) → left ≤ turns → GoesBehind at turns (step_behind at left met)
goes-behind at turns left None less = (refl, less)
goes-behind at turns left (Some ending) less = tt

pub line-attended : (looping : Looping) (symbols : List Symbol) (code : CodeLists) (at turns : ℕ) (before : standings.Standing) (line : ℕ) (output : List ℕ) (met : Option endings.Ending)
    → slice_get code.instructions at ≡ Some (record { line = line; what = What.PutEnd })
    → IsWritten line before.frame.line before.output output met
    → Attends looping symbols code at turns before (record { variables = before.variables; frame = with_line [] false before.frame; output = output }) (step_behind at turns met)
line-attended looping symbols code at turns before line output met found written =
    let left : Reached Event Failure (Frame × ℕ) = paused (write_line line before.frame.line) (λ told. machine code (suc at) (with_line [] false before.frame) turns) in
    record {
      is = λ given reached there.
          ap (told_at given looping before) (left-is code at turns before.frame (record { line = line; what = What.PutEnd }) left reached found refl there)
          ∙ output-step given looping symbols code at turns before line output met written;
      own = written-own symbols line at turns before.frame.line before.output output met written;
      behind = goes-behind at turns turns met (omega arith);
    }

-- ---- a loop

module _ (given : List ℕ) (looping : Looping) (symbols : List Symbol) (code : CodeLists) (at turns left number : ℕ) (before : standings.Standing) (after : Variables) where
  abbrev rest : Standing → ℤ → Outcome
  rest then_at told = played looping then_at (rest_from code (suc at) before.frame (min (natural told) turns))

  abbrev visit-told : Visited → Told
  visit-told found = told_behind before.output (visits_loop (λ number slots left store. found) (at_of given before) number turns [] rest)

  abbrev behind-visit : standings.Standing
  behind-visit = record { variables = after; frame = before.frame; output = before.output }

  said-told : (said : answers.Verdict) → bounds_in before.variables.ledger.store (seen said) ≡ bounds_named symbols said
      → visit-told (visit_of (seen said) after.ledger.store left) ≡ told_after given looping symbols code behind-visit (step_behind at (min left turns) (stopped_by said))
  said-told answers.Verdict.GoOn bounds = refl
  said-told (answers.Verdict.HeaderFault why line mask) bounds = nothing-more before.output _ ∙ ap (λ b. record { output = before.output; ending = lines.stopped (seen (answers.Verdict.HeaderFault why line mask)) b }) bounds
  said-told (answers.Verdict.IterFault why line at) bounds = nothing-more before.output _ ∙ ap (λ b. record { output = before.output; ending = lines.stopped (seen (answers.Verdict.IterFault why line at)) b }) bounds
  said-told (answers.Verdict.IterSpent line at) bounds = nothing-more before.output _ ∙ ap (λ b. record { output = before.output; ending = lines.stopped (seen (answers.Verdict.IterSpent line at)) b }) bounds
  said-told (answers.Verdict.Race found first second) bounds = nothing-more before.output _ ∙ ap (λ b. record { output = before.output; ending = lines.stopped (seen (answers.Verdict.Race found first second)) b }) bounds

pub loop-attended : (forms : Forms) (symbols : List Symbol) (code : CodeLists) (at turns left line number : ℕ) (before : standings.Standing) (after : Variables) (said : answers.Verdict)
    → slice_get code.instructions at ≡ Some (record { line = line; what = What.Enter number })
    → IsVisitWith (loop_in forms number) turns left before.variables.ledger.store after.ledger.store said
    → bounds_in before.variables.ledger.store (seen said) ≡ bounds_named symbols said → StepsOwn symbols (step_behind at (min left turns) (stopped_by said))
    → Attends (looping_in forms) symbols code at turns before (record { variables = after; frame = before.frame; output = before.output }) (step_behind at (min left turns) (stopped_by said))
unfolding loop_in
loop-attended forms symbols code at turns left line number before after said found visit bounds own =
    let paused_here : Reached Event Failure (Frame × ℕ) = paused (enter_loop number turns []) (λ told. machine code (suc at) before.frame (min (natural told) turns)) in
    record {
      is = λ given reached there.
          ap (told_at given (looping_in forms) before) (left-is code at turns before.frame (record { line = line; what = What.Enter number }) paused_here reached found refl there)
          ∙ ap (visit-told given (looping_in forms) symbols code at turns left number before after) visit.is
          ∙ said-told given (looping_in forms) symbols code at turns left number before after said bounds;
      own = own;
      behind = goes-behind at turns (min left turns) (stopped_by said) (omega arith);
    }
