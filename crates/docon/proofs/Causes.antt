-- From the report that a call wrote to the cause of its answer.
use Rattle.std.proofs.Common.{◌≡◌, ◌≤◌, ℕ, true, false, List, take, Option, Some, None, Result, Ok, Err, refl, sym, ap, ◌∙◌, subst, inl, inr, arith}
use Rattle.std.specs.Result.{result_ok}
use Rattle.std.specs.Prelude.{MatchResult, IfSome, IsSome, option_map, codes, ◌⊎◌}
use Rattle.dc_int.specs.declared.fault.Why.{Why}
use Rattle.dc_code.specs.Troubles as troubles
use Rattle.dc_code.specs.Troubles.{Trouble, masked, raced}
use Rattle.dc_code.specs.Verdicts.{trouble_in}
use Rattle.dc_tree.specs.Blocks.{source_of}
use Rattle.dc_front.proofs.Accepting.{one-program, one-answer}
use Rattle.dc_outer.specs.Causes.{Rose}
use Rattle.dc_run.specs.Playing as playing
use Rattle.dc_run.specs.ReportLine as endings
use Rattle.dc_run.specs.ReportLine.{Ending}
use Rattle.docon.specs.Answers.{Answers}
use Rattle.docon.specs.declared.request.BadWords.{BadWords}
use Rattle.docon.specs.declared.request.Request.{Request}
use Rattle.docon.specs.declared.request.Task.{Task}
use Rattle.docon.specs.declared.report.Report.{Report}
use Rattle.docon.specs.Report.{Reading, Outcome, contents, fault, read_limit, only_log, run_of, status_of_why, status_of_trouble, status_of, RunReport, CheckReport, CodeReport, RefusalReport, IsTaskReport, IsSourceReport, IsReportOf, IsReport, HasOutcome, Reported}
use Rattle.docon.specs.Room.{Fits}
use Rattle.docon.specs.Words.{asks, AsksFor, file_of, request_of, why_bad}
use Rattle.docon.specs.Writing.{Change, Took, Untouched, WroteAll, WritesReport, IsWritten}
use Rattle.docon.specs.Causes.{IsAccepted, IsRefused, Gave, Tells, IsStatus, IsUnlessFailed, Ran, RanWith, Checked, Listed, EndsWithStatus, AnswersRun, AnswersAccepted, CausesOfDone, CausesOfRun, CausesOfRefused, RefusedWords, CausesOfWords, CausesOfRead, IsCutShort, CausesOfWrite, HaveRoom, CausesOfMemory, Causes, NothingFailed, IsComplete}

-- the call wrote its report or gave up
abbrev pub Wrote : {W L : Type 0} → Reading → Change W → Change L → ℕ → Type 0
Wrote asked out log answer = WritesReport asked out log answer

-- no write failed
pub record Steady {W L : Type 0} (out : Change W) (log : Change L) : Type 0 where
  pub out_steady : out.faults out.now ≡ out.faults out.before
  pub log_steady : log.faults log.now ≡ log.faults log.before

-- ---- the status of a run

-- the status of a run: 0, 2, 3 or 4
record IsRunStatus (status : ℕ) : Type 0 where
  most : status ≤ 4
  other : ¬ (status ≡ 1)

why-status : (why : Why) → IsRunStatus (status_of_why why)
why-status (Why.Fault kind) = record { most = omega arith; other = λ one. omega (arith, one) }
why-status Why.Spent = record { most = omega arith; other = λ one. omega (arith, one) }

trouble-status : (trouble : Option Trouble) → IsRunStatus (status_of_trouble trouble)
trouble-status None = record { most = omega arith; other = λ one. omega (arith, one) }
trouble-status (Some (troubles.ended why line path)) = why-status why
trouble-status (Some (masked why line path mask)) = why-status why
trouble-status (Some (raced element first second path)) = record { most = omega arith; other = λ one. omega (arith, one) }

ending-status : (ending : Ending) → IsRunStatus (status_of ending)
ending-status endings.done = record { most = omega arith; other = λ one. omega (arith, one) }
ending-status (endings.bad failure) = why-status failure.why
ending-status (endings.stopped verdict bounds) = trouble-status (trouble_in verdict)

run-status : (turns : ℕ) (text : List ℕ) (report : Report) → RunReport turns text report → IsRunStatus report.status
run-status turns text report run =
    subst IsRunStatus (sym run.ran.status_is) (ending-status run.ran.ending)

-- ---- how a call ended

-- What the report of a reading is.
pub data Kind (asked : Reading) (report : Report) : Type 0 where
  of_words : (bad : BadWords) → request_of asked.words ≡ Err bad → report ≡ only_log (why_bad bad) 5 → Kind asked report
  of_run : (turns : ℕ) (text : List ℕ) → Gave asked (Task.Run turns) text → RunReport turns text report → Kind asked report
  of_check : (text : List ℕ) → Gave asked Task.Check text → CheckReport text report → Kind asked report
  of_code : (text : List ℕ) → Gave asked Task.Code text → CodeReport text report → Kind asked report
  of_refusal : (task : Task) (text : List ℕ) → Gave asked task text → RefusalReport text report → Kind asked report
  of_fault : IsSome (file_of asked.words) → Rose asked.before asked.now → report ≡ only_log (codes "read: file") 6 → Kind asked report

kind_of_task : (asked : Reading) (report : Report) (text : List ℕ) (task : Task) → Gave asked task text → IsTaskReport task text report → Kind asked report
kind_of_task asked report text (Task.Run turns) read run = of_run turns text read run
kind_of_task asked report text Task.Check read check = of_check text read check
kind_of_task asked report text Task.Code read code = of_code text read code

kind_of_outcome : (asked : Reading) (report : Report) (request : Request) → request_of asked.words ≡ Ok request → (outcome : Outcome) → HasOutcome (asked.told request.file) asked.before asked.now outcome
    → IsReportOf request.task outcome report → Kind asked report
kind_of_outcome asked report request is_asked (contents text) gave is =
    let read : Gave asked request.task text = record { file = request.file; asks = is_asked; gave = gave } in
    elim is [ inl done ↦ kind_of_task asked report text request.task read done | inr refusal ↦ of_refusal request.task text read refusal ]
kind_of_outcome asked report request is_asked fault rose is = of_fault (rw is_asked refl) rose is

kind_of_request : (asked : Reading) (report : Report) (wanted : Result Request BadWords) → request_of asked.words ≡ wanted → (outcome : Outcome)
    → MatchResult wanted (λ request. HasOutcome (asked.told request.file) asked.before asked.now outcome) (λ bad. asked.now ≡ asked.before)
    → MatchResult wanted (λ request. IsReportOf request.task outcome report) (λ bad. report ≡ only_log (why_bad bad) 5) → Kind asked report
kind_of_request asked report (Err bad) is_bad outcome read is = of_words bad is_bad is
kind_of_request asked report (Ok request) is_asked outcome read is = kind_of_outcome asked report request is_asked outcome read is

pub kind_of : (asked : Reading) (report : Report) → Reported asked report → Kind asked report
kind_of asked report reported = kind_of_request asked report (request_of asked.words) refl reported.outcome reported.read reported.is_report

-- How a call ended, by its answer.
pub data Ended {W L : Type 0} (asked : Reading) (out : Change W) (log : Change L) (answer : ℕ) : Type 0 where
  with_run : (ran : Ran asked out log) → Steady out log → answer ≡ ran.report.status → answer ≤ 4 → ¬ (answer ≡ 1) → Ended asked out log answer
  with_check : Checked asked out log → Steady out log → answer ≡ 0 → Ended asked out log answer
  with_code : Listed asked out log → Steady out log → answer ≡ 0 → Ended asked out log answer
  with_refused : (task : Task) (text : List ℕ) → Gave asked task text → IsRefused text → Steady out log → answer ≡ 1 → Ended asked out log answer
  with_words : (bad : BadWords) → RefusedWords bad asked.words out log → Steady out log → answer ≡ 5 → Ended asked out log answer
  with_read : IsSome (file_of asked.words) → Rose asked.before asked.now → Steady out log → answer ≡ 6 → Ended asked out log answer
  with_write : (report : Report) → Reported asked report → IsCutShort report out log → answer ≡ 7 → Ended asked out log answer
  with_memory : Untouched out → Untouched log → answer ≡ 8 → Ended asked out log answer

steady_of : {W L : Type 0} (report : Report) (out : Change W) (log : Change L) (answer : ℕ) → WroteAll report out log answer → Steady out log
steady_of report out log answer all = record { out_steady = all.out_all.steady; log_steady = all.log_all.steady }

ended_whole : {W L : Type 0} (asked : Reading) (out : Change W) (log : Change L) (answer : ℕ) (report : Report) → Kind asked report → WroteAll report out log answer → Ended asked out log answer
ended_whole asked out log answer report (of_words bad is_bad is) all =
    let refused : RefusedWords bad asked.words out log = record {
      refused = is_bad;
      out_all = subst (λ (x : Report). Took out x.out) is all.out_all;
      log_all = subst (λ (x : Report). Took log x.log) is all.log_all;
    } in
    with_words bad refused (steady_of report out log answer all) (all.answer_is ∙ ap (λ (x : Report). x.status) is)
ended_whole asked out log answer report (of_check text read check) all =
    let checked : Checked asked out log = record {
      text = text;
      read = read;
      accepted = (check.program, check.symbols, check.spelled);
      out_all = subst (λ (x : Report). Took out x.out) check.is all.out_all;
      log_all = subst (λ (x : Report). Took log x.log) check.is all.log_all;
    } in
    with_check checked (steady_of report out log answer all) (all.answer_is ∙ ap (λ (x : Report). x.status) check.is)
ended_whole asked out log answer report (of_code text read code) all =
    let listed : Listed asked out log = record {
      text = text;
      read = read;
      report = report;
      code = code;
      out_all = all.out_all;
      log_all = all.log_all;
    } in
    with_code listed (steady_of report out log answer all) (all.answer_is ∙ code.listed.status_is)
ended_whole asked out log answer report (of_run turns text read run) all =
    let ran : Ran asked out log = record {
      turns = turns;
      text = text;
      read = read;
      report = report;
      run = run;
      out_all = all.out_all;
      log_all = all.log_all;
    } in
    let status = run-status turns text report run in
    with_run ran (steady_of report out log answer all) all.answer_is (omega (arith, all.answer_is, status.most)) (λ one. status.other (sym all.answer_is ∙ one))
ended_whole asked out log answer report (of_refusal task text read refusal) all =
    with_refused task text read (refusal.refusal, refusal.first) (steady_of report out log answer all) (all.answer_is ∙ ap (λ (x : Report). x.status) refusal.is)
ended_whole asked out log answer report (of_fault named rose is) all =
    with_read named rose (steady_of report out log answer all) (all.answer_is ∙ ap (λ (x : Report). x.status) is)

ended_written : {W L : Type 0} (asked : Reading) (out : Change W) (log : Change L) (answer : ℕ) (report : Report) → Reported asked report
    → IsWritten report out log answer → Ended asked out log answer
ended_written asked out log answer report reported (inl all) = ended_whole asked out log answer report (kind_of asked report reported) all
ended_written asked out log answer report reported (inr (inl failed)) = with_write report reported (inl (failed.out_part, failed.log_none)) failed.answer_is
ended_written asked out log answer report reported (inr (inr failed)) = with_write report reported (inr (failed.out_all, failed.log_part)) failed.answer_is

pub ended : {W L : Type 0} (asked : Reading) (out : Change W) (log : Change L) (answer : ℕ) → Wrote asked out log answer → Ended asked out log answer
ended asked out log answer (inl gave_up) = with_memory gave_up.out_none gave_up.log_none gave_up.answer_is
ended asked out log answer (inr wrote) = ended_written asked out log answer wrote.0 wrote.1 wrote.2

status_of_ended : {W L : Type 0} (asked : Reading) (out : Change W) (log : Change L) (answer : ℕ) → Ended asked out log answer → IsStatus answer
status_of_ended asked out log answer (with_run ran steady is most other) = omega arith
status_of_ended asked out log answer (with_check checked steady is) = omega arith
status_of_ended asked out log answer (with_code listed steady is) = omega arith
status_of_ended asked out log answer (with_refused task text read refused steady is) = omega arith
status_of_ended asked out log answer (with_words bad line steady is) = omega arith
status_of_ended asked out log answer (with_read named rose steady is) = omega arith
status_of_ended asked out log answer (with_write report reported cut is) = omega arith
status_of_ended asked out log answer (with_memory out_none log_none is) = omega arith

-- what was given is what was told
same_text : (limit : ℕ) (held : Option (List ℕ)) (given text : List ℕ) → IfSome held (λ whole. given ≡ take limit whole) → option_map (take limit) held ≡ Some text → given ≡ text
same_text limit None given text gave tells = absurd (let no : None ≡ Some text = tells in cc)
same_text limit (Some whole) given text gave tells = gave ∙ (let same : Some (take limit whole) ≡ Some text = tells in cc)

-- words ask for one task with one file
one-request : (words : List (List ℕ)) (task other : Task) (file name : List ℕ) → AsksFor words task file → AsksFor words other name → (task ≡ other) × (file ≡ name)
one-request words task other file name asks_this asks_that =
    let same : asks task file ≡ asks other name = sym asks_this ∙ asks_that in
    let requests : ◌≡◌ {A = Request} (record { task = task; file = file }) (record { task = other; file = name }) = cc in
    (ap (λ (x : Request). x.task) requests, ap (λ (x : Request). x.file) requests)

same-task : (asked : Reading) (task other : Task) (given text : List ℕ) → Gave asked task given → Tells asked other text → task ≡ other
same-task asked task other given text gave tells = (one-request asked.words task other gave.file tells.file gave.asks tells.asks).0

given_is_told : (asked : Reading) (task other : Task) (given text : List ℕ) → Gave asked task given → Tells asked other text → given ≡ text
given_is_told asked task other given text gave tells =
    let file = (one-request asked.words task other gave.file tells.file gave.asks tells.asks).1 in
    let told : option_map (take read_limit) (asked.told gave.file) ≡ Some text = subst (λ (x : List ℕ). option_map (take read_limit) (asked.told x) ≡ Some text) (sym file) tells.tells in
    same_text read_limit (asked.told gave.file) given text gave.gave.first told

-- words that ask for a task aren't refused
not_both_words : (words : List (List ℕ)) (task : Task) (file : List ℕ) (bad : BadWords) → AsksFor words task file → request_of words ≡ Err bad → ⊥
not_both_words words task file bad asks_this is_bad = let no : asks task file ≡ Err bad = sym asks_this ∙ is_bad in cc

only_run : {W L : Type 0} (status : ℕ) → status ≤ 4 → ¬ (status ≡ 1) → ¬ (status ≡ 0) → (asked : Reading) (out : Change W) (log : Change L) (answer : ℕ) → Ended asked out log answer → answer ≡ status → RanWith status asked out log
only_run status few other some asked out log answer (with_run ran steady is most apart) same = record { ran = ran; is = sym is ∙ same }
only_run status few other some asked out log answer (with_check checked steady is) same = absurd (some (sym same ∙ is))
only_run status few other some asked out log answer (with_code listed steady is) same = absurd (some (sym same ∙ is))
only_run status few other some asked out log answer (with_refused task text read refused steady is) same = absurd (other (sym same ∙ is))
only_run status few other some asked out log answer (with_words bad line steady is) same = absurd (omega arith)
only_run status few other some asked out log answer (with_read named rose steady is) same = absurd (omega arith)
only_run status few other some asked out log answer (with_write report reported cut is) same = absurd (omega arith)
only_run status few other some asked out log answer (with_memory out_none log_none is) same = absurd (omega arith)

only_done : {W L : Type 0} (asked : Reading) (out : Change W) (log : Change L) (answer : ℕ) → Ended asked out log answer → answer ≡ 0 → RanWith 0 asked out log ⊎ (Checked asked out log ⊎ Listed asked out log)
only_done asked out log answer (with_run ran steady is most apart) same = inl (record { ran = ran; is = sym is ∙ same })
only_done asked out log answer (with_check checked steady is) same = inr (inl checked)
only_done asked out log answer (with_code listed steady is) same = inr (inr listed)
only_done asked out log answer (with_refused task text read refused steady is) same = absurd (omega arith)
only_done asked out log answer (with_words bad line steady is) same = absurd (omega arith)
only_done asked out log answer (with_read named rose steady is) same = absurd (omega arith)
only_done asked out log answer (with_write report reported cut is) same = absurd (omega arith)
only_done asked out log answer (with_memory out_none log_none is) same = absurd (omega arith)

-- neither a check nor a listing is a run
check_is_no_run : (turns : ℕ) → ¬ (Task.Check ≡ Task.Run turns)
check_is_no_run turns same = cc

code_is_no_run : (turns : ℕ) → ¬ (Task.Code ≡ Task.Run turns)
code_is_no_run turns same = cc

same-turns : (turns others : ℕ) → Task.Run turns ≡ Task.Run others → turns ≡ others
same-turns turns others same = cc

-- a source has one program, so its run with these turns has one status
one_status : (turns : ℕ) (text : List ℕ) (report : Report) (run : RunReport turns text report) (status : ℕ) → EndsWithStatus status turns text → report.status ≡ status
one_status turns text report run status ends =
    let same = one-program text run.program ends.program run.symbols ends.symbols run.spelled ends.spelled in
    run.ran.status_is ∙ ap (λ (outcome : playing.Outcome). status_of outcome.ending) (sym run.ran.ran.is)
    ∙ (λ i. status_of (run_of turns (same.1 i) (source_of (same.0 i))).ending) ∙ ends.is

-- A source that is refused spells no program.
not_both : (text : List ℕ) → IsRefused text → IsAccepted text → ⊥
not_both text refused accepted = one-answer text refused.0 accepted.0 accepted.1 refused.1 accepted.2

wherever_run : {W L : Type 0} (status : ℕ) (asked : Reading) (out : Change W) (log : Change L) (answer : ℕ) → Ended asked out log answer → AnswersRun status asked answer
wherever_run status asked out log answer (with_run ran steady is most other) turns text tells ends =
    let told = given_is_told asked (Task.Run ran.turns) (Task.Run turns) ran.text text ran.read tells in
    let more = same-turns ran.turns turns (same-task asked (Task.Run ran.turns) (Task.Run turns) ran.text text ran.read tells) in
    let ends_so : EndsWithStatus status ran.turns text = subst (λ (t : ℕ). EndsWithStatus status t text) (sym more) ends in
    inl (is ∙ one_status ran.turns ran.text ran.report ran.run status (subst (EndsWithStatus status ran.turns) (sym told) ends_so))
wherever_run status asked out log answer (with_check checked steady is) turns text tells ends =
    absurd (check_is_no_run turns (same-task asked Task.Check (Task.Run turns) checked.text text checked.read tells))
wherever_run status asked out log answer (with_code listed steady is) turns text tells ends =
    absurd (code_is_no_run turns (same-task asked Task.Code (Task.Run turns) listed.text text listed.read tells))
wherever_run status asked out log answer (with_refused task given read refused steady is) turns text tells ends =
    absurd (not_both given refused (subst IsAccepted (sym (given_is_told asked task (Task.Run turns) given text read tells)) (ends.program, ends.symbols, ends.spelled)))
wherever_run status asked out log answer (with_words bad line steady is) turns text tells ends = absurd (not_both_words asked.words (Task.Run turns) tells.file bad tells.asks line.refused)
wherever_run status asked out log answer (with_read named rose steady is) turns text tells ends = absurd (tells.no_fault rose)
wherever_run status asked out log answer (with_write report reported cut is) turns text tells ends = inr (inl is)
wherever_run status asked out log answer (with_memory out_none log_none is) turns text tells ends = inr (inr is)

wherever_accepted : {W L : Type 0} (task : Task) → ((turns : ℕ) → ¬ (task ≡ Task.Run turns)) → (asked : Reading) (out : Change W) (log : Change L) (answer : ℕ) → Ended asked out log answer
    → AnswersAccepted task asked answer
wherever_accepted task apart asked out log answer (with_run ran steady is most other) text tells accepted =
    absurd (apart ran.turns (sym (same-task asked (Task.Run ran.turns) task ran.text text ran.read tells)))
wherever_accepted task apart asked out log answer (with_check checked steady is) text tells accepted = inl is
wherever_accepted task apart asked out log answer (with_code listed steady is) text tells accepted = inl is
wherever_accepted task apart asked out log answer (with_refused other given read refused steady is) text tells accepted =
    absurd (not_both given refused (subst IsAccepted (sym (given_is_told asked other task given text read tells)) accepted))
wherever_accepted task apart asked out log answer (with_words bad line steady is) text tells accepted = absurd (not_both_words asked.words task tells.file bad tells.asks line.refused)
wherever_accepted task apart asked out log answer (with_read named rose steady is) text tells accepted = absurd (tells.no_fault rose)
wherever_accepted task apart asked out log answer (with_write report reported cut is) text tells accepted = inr (inl is)
wherever_accepted task apart asked out log answer (with_memory out_none log_none is) text tells accepted = inr (inr is)

pub causes_run : {W L : Type 0} (status : ℕ) → status ≤ 4 → ¬ (status ≡ 1) → ¬ (status ≡ 0) → (asked : Reading) (out : Change W) (log : Change L) (answer : ℕ) → Wrote asked out log answer → CausesOfRun status asked out log answer
causes_run status few other some asked out log answer wrote =
    let end = ended asked out log answer wrote in
    record { only = only_run status few other some asked out log answer end; wherever = wherever_run status asked out log answer end }

pub causes_done : {W L : Type 0} (asked : Reading) (out : Change W) (log : Change L) (answer : ℕ) → Wrote asked out log answer → CausesOfDone asked out log answer
causes_done asked out log answer wrote =
    let end = ended asked out log answer wrote in
    record {
      only = only_done asked out log answer end;
      wherever_run = wherever_run 0 asked out log answer end;
      wherever_check = wherever_accepted Task.Check check_is_no_run asked out log answer end;
      wherever_code = wherever_accepted Task.Code code_is_no_run asked out log answer end;
    }

only_refused : {W L : Type 0} (asked : Reading) (out : Change W) (log : Change L) (answer : ℕ) → Ended asked out log answer → answer ≡ 1
    → (task : Task) × (text : List ℕ) × Gave asked task text × IsRefused text
only_refused asked out log answer (with_run ran steady is most other) one = absurd (other one)
only_refused asked out log answer (with_check checked steady is) one = absurd (omega arith)
only_refused asked out log answer (with_code listed steady is) one = absurd (omega arith)
only_refused asked out log answer (with_refused task text read refused steady is) one = (task, text, read, refused)
only_refused asked out log answer (with_words bad line steady is) one = absurd (omega arith)
only_refused asked out log answer (with_read named rose steady is) one = absurd (omega arith)
only_refused asked out log answer (with_write report reported cut is) one = absurd (omega arith)
only_refused asked out log answer (with_memory out_none log_none is) one = absurd (omega arith)

wherever_refused : {W L : Type 0} (asked : Reading) (out : Change W) (log : Change L) (answer : ℕ) → Ended asked out log answer → (task : Task) (text : List ℕ) → Tells asked task text → IsRefused text
    → IsUnlessFailed 1 answer
wherever_refused asked out log answer (with_run ran steady is most other) task text tells refused =
    absurd (not_both text refused (subst IsAccepted (given_is_told asked (Task.Run ran.turns) task ran.text text ran.read tells) (ran.run.program, ran.run.symbols, ran.run.spelled)))
wherever_refused asked out log answer (with_check checked steady is) task text tells refused =
    absurd (not_both text refused (subst IsAccepted (given_is_told asked Task.Check task checked.text text checked.read tells) checked.accepted))
wherever_refused asked out log answer (with_code listed steady is) task text tells refused =
    absurd (not_both text refused (subst IsAccepted (given_is_told asked Task.Code task listed.text text listed.read tells) (listed.code.program, listed.code.symbols, listed.code.spelled)))
wherever_refused asked out log answer (with_refused other given read others steady is) task text tells refused = inl is
wherever_refused asked out log answer (with_words bad line steady is) task text tells refused = absurd (not_both_words asked.words task tells.file bad tells.asks line.refused)
wherever_refused asked out log answer (with_read named rose steady is) task text tells refused = absurd (tells.no_fault rose)
wherever_refused asked out log answer (with_write report reported cut is) task text tells refused = inr (inl is)
wherever_refused asked out log answer (with_memory out_none log_none is) task text tells refused = inr (inr is)

pub causes_refused : {W L : Type 0} (asked : Reading) (out : Change W) (log : Change L) (answer : ℕ) → Wrote asked out log answer → CausesOfRefused asked answer
causes_refused asked out log answer wrote =
    let end = ended asked out log answer wrote in
    record { only = only_refused asked out log answer end; wherever = wherever_refused asked out log answer end }

only_words : {W L : Type 0} (asked : Reading) (out : Change W) (log : Change L) (answer : ℕ) → Ended asked out log answer → answer ≡ 5
    → (bad : BadWords) × RefusedWords bad asked.words out log
only_words asked out log answer (with_run ran steady is most other) five = absurd (omega arith)
only_words asked out log answer (with_check checked steady is) five = absurd (omega arith)
only_words asked out log answer (with_code listed steady is) five = absurd (omega arith)
only_words asked out log answer (with_refused task text read refused steady is) five = absurd (omega arith)
only_words asked out log answer (with_words bad line steady is) five = (bad, line)
only_words asked out log answer (with_read named rose steady is) five = absurd (omega arith)
only_words asked out log answer (with_write report reported cut is) five = absurd (omega arith)
only_words asked out log answer (with_memory out_none log_none is) five = absurd (omega arith)

-- words that are refused name no file
no-file-named : (words : List (List ℕ)) (bad : BadWords) → request_of words ≡ Err bad → file_of words ≡ None
no-file-named words bad is_bad = rw is_bad refl

-- a file that is there is not absent
not_some : (file : Option (List ℕ)) → file ≡ None → IsSome file → ⊥
not_some None nameless some = let no : false ≡ true = some in cc
not_some (Some name) nameless some = let no : Some name ≡ None = nameless in cc

wherever_words : {W L : Type 0} (asked : Reading) (out : Change W) (log : Change L) (answer : ℕ) → Ended asked out log answer → (bad : BadWords) → request_of asked.words ≡ Err bad → IsUnlessFailed 5 answer
wherever_words asked out log answer (with_run ran steady is most other) bad is_bad = absurd (not_both_words asked.words (Task.Run ran.turns) ran.read.file bad ran.read.asks is_bad)
wherever_words asked out log answer (with_check checked steady is) bad is_bad = absurd (not_both_words asked.words Task.Check checked.read.file bad checked.read.asks is_bad)
wherever_words asked out log answer (with_code listed steady is) bad is_bad = absurd (not_both_words asked.words Task.Code listed.read.file bad listed.read.asks is_bad)
wherever_words asked out log answer (with_refused task text read refused steady is) bad is_bad = absurd (not_both_words asked.words task read.file bad read.asks is_bad)
wherever_words asked out log answer (with_words same line steady is) bad is_bad = inl is
wherever_words asked out log answer (with_read named rose steady is) bad is_bad = absurd (not_some (file_of asked.words) (no-file-named asked.words bad is_bad) named)
wherever_words asked out log answer (with_write report reported cut is) bad is_bad = inr (inl is)
wherever_words asked out log answer (with_memory out_none log_none is) bad is_bad = inr (inr is)

pub causes_words : {W L : Type 0} (asked : Reading) (out : Change W) (log : Change L) (answer : ℕ) → Wrote asked out log answer → CausesOfWords asked.words out log answer
causes_words asked out log answer wrote =
    let end = ended asked out log answer wrote in
    record { only = only_words asked out log answer end; wherever = wherever_words asked out log answer end }

only_read : {W L : Type 0} (asked : Reading) (out : Change W) (log : Change L) (answer : ℕ) → Ended asked out log answer → answer ≡ 6 → IsSome (file_of asked.words) × Rose asked.before asked.now
only_read asked out log answer (with_run ran steady is most other) six = absurd (omega arith)
only_read asked out log answer (with_check checked steady is) six = absurd (omega arith)
only_read asked out log answer (with_code listed steady is) six = absurd (omega arith)
only_read asked out log answer (with_refused task text read refused steady is) six = absurd (omega arith)
only_read asked out log answer (with_words bad line steady is) six = absurd (omega arith)
only_read asked out log answer (with_read named rose steady is) six = (named, rose)
only_read asked out log answer (with_write report reported cut is) six = absurd (omega arith)
only_read asked out log answer (with_memory out_none log_none is) six = absurd (omega arith)

wherever_read : {W L : Type 0} (asked : Reading) (out : Change W) (log : Change L) (answer : ℕ) → Ended asked out log answer → (file_of asked.words ≡ None → asked.now ≡ asked.before) → ¬ (asked.now ≡ asked.before) → IsUnlessFailed 6 answer
wherever_read asked out log answer (with_run ran steady is most other) unread moved = absurd (moved ran.read.gave.steady)
wherever_read asked out log answer (with_check checked steady is) unread moved = absurd (moved checked.read.gave.steady)
wherever_read asked out log answer (with_code listed steady is) unread moved = absurd (moved listed.read.gave.steady)
wherever_read asked out log answer (with_refused task text read refused steady is) unread moved = absurd (moved read.gave.steady)
wherever_read asked out log answer (with_words bad line steady is) unread moved = absurd (moved (unread (no-file-named asked.words bad line.refused)))
wherever_read asked out log answer (with_read named rose steady is) unread moved = inl is
wherever_read asked out log answer (with_write report reported cut is) unread moved = inr (inl is)
wherever_read asked out log answer (with_memory out_none log_none is) unread moved = inr (inr is)

pub causes_read : {W L : Type 0} (asked : Reading) (out : Change W) (log : Change L) (answer : ℕ) → Wrote asked out log answer → (file_of asked.words ≡ None → asked.now ≡ asked.before) → CausesOfRead asked.words asked.before asked.now answer
causes_read asked out log answer wrote unread =
    let end = ended asked out log answer wrote in
    record { only = only_read asked out log answer end; wherever = wherever_read asked out log answer end unread }

only_write : {W L : Type 0} (asked : Reading) (out : Change W) (log : Change L) (answer : ℕ) → Ended asked out log answer → answer ≡ 7
    → (report : Report) × Reported asked report × IsCutShort report out log
only_write asked out log answer (with_run ran steady is most other) seven = absurd (omega arith)
only_write asked out log answer (with_check checked steady is) seven = absurd (omega arith)
only_write asked out log answer (with_code listed steady is) seven = absurd (omega arith)
only_write asked out log answer (with_refused task text read refused steady is) seven = absurd (omega arith)
only_write asked out log answer (with_words bad line steady is) seven = absurd (omega arith)
only_write asked out log answer (with_read named rose steady is) seven = absurd (omega arith)
only_write asked out log answer (with_write report reported cut is) seven = (report, reported, cut)
only_write asked out log answer (with_memory out_none log_none is) seven = absurd (omega arith)

wherever_write : {W L : Type 0} (asked : Reading) (out : Change W) (log : Change L) (answer : ℕ) → Ended asked out log answer → ¬ (Steady out log) → answer ≡ 7
wherever_write asked out log answer (with_run ran steady is most other) moved = absurd (moved steady)
wherever_write asked out log answer (with_check checked steady is) moved = absurd (moved steady)
wherever_write asked out log answer (with_code listed steady is) moved = absurd (moved steady)
wherever_write asked out log answer (with_refused task text read refused steady is) moved = absurd (moved steady)
wherever_write asked out log answer (with_words bad line steady is) moved = absurd (moved steady)
wherever_write asked out log answer (with_read named rose steady is) moved = absurd (moved steady)
wherever_write asked out log answer (with_write report reported cut is) moved = is
wherever_write asked out log answer (with_memory out_none log_none is) moved =
    absurd (moved (record { out_steady = ap out.faults out_none; log_steady = ap log.faults log_none }))

only_memory : {W L : Type 0} (asked : Reading) (out : Change W) (log : Change L) (answer : ℕ) → Ended asked out log answer → CausesOfMemory out log answer
only_memory asked out log answer (with_run ran steady is most other) = λ eight. absurd (omega arith)
only_memory asked out log answer (with_check checked steady is) = λ eight. absurd (omega arith)
only_memory asked out log answer (with_code listed steady is) = λ eight. absurd (omega arith)
only_memory asked out log answer (with_refused task text read refused steady is) = λ eight. absurd (omega arith)
only_memory asked out log answer (with_words bad line steady is) = λ eight. absurd (omega arith)
only_memory asked out log answer (with_read named rose steady is) = λ eight. absurd (omega arith)
only_memory asked out log answer (with_write report reported cut is) = λ eight. absurd (omega arith)
only_memory asked out log answer (with_memory out_none log_none is) = λ eight. (out_none, log_none)

pub causes_memory : {W L : Type 0} (asked : Reading) (out : Change W) (log : Change L) (answer : ℕ) → Wrote asked out log answer → CausesOfMemory out log answer
causes_memory asked out log answer wrote = only_memory asked out log answer (ended asked out log answer wrote)

pub is_status : {W L : Type 0} (asked : Reading) (out : Change W) (log : Change L) (answer : ℕ) → Wrote asked out log answer → IsStatus answer
is_status asked out log answer wrote = status_of_ended asked out log answer (ended asked out log answer wrote)

-- the report of the outcome is that of the told source
told_outcome : (task : Task) (report : Report) (held : Option (List ℕ)) (before now : ℕ) (text : List ℕ) → ¬ (Rose before now) → option_map (take read_limit) held ≡ Some text
    → (outcome : Outcome) → HasOutcome held before now outcome → IsReportOf task outcome report → IsReportOf task (contents text) report
told_outcome task report held before now text no_fault tells (contents given) gave is =
    subst (λ (x : List ℕ). IsSourceReport task x report) (same_text read_limit held given text gave.first tells) is
told_outcome task report held before now text no_fault tells fault rose is = absurd (no_fault rose)

told_report : (asked : Reading) (report : Report) (text : List ℕ) → ¬ (Rose asked.before asked.now) → (wanted : Result Request BadWords)
    → IfSome (option_map (λ (request : Request). request.file) (result_ok wanted)) (λ file. option_map (take read_limit) (asked.told file) ≡ Some text) → (outcome : Outcome)
    → MatchResult wanted (λ request. HasOutcome (asked.told request.file) asked.before asked.now outcome) (λ bad. asked.now ≡ asked.before)
    → MatchResult wanted (λ request. IsReportOf request.task outcome report) (λ bad. report ≡ only_log (why_bad bad) 5)
    → MatchResult wanted (λ request. IsReportOf request.task (contents text) report) (λ bad. report ≡ only_log (why_bad bad) 5)
told_report asked report text no_fault (Err bad) tells outcome read is = is
told_report asked report text no_fault (Ok request) tells outcome read is = told_outcome request.task report (asked.told request.file) asked.before asked.now text no_fault tells outcome read is

complete_written : {W L : Type 0} (asked : Reading) (out : Change W) (log : Change L) (answer : ℕ) (report : Report) (text : List ℕ) → IsReport asked.words (contents text) report
    → IsWritten report out log answer → NothingFailed asked out log text → WroteAll report out log answer
complete_written asked out log answer report text is (inl all) quiet = all
complete_written asked out log answer report text is (inr (inl failed)) quiet = absurd (quiet.out_no_fault failed.out_part.rose)
complete_written asked out log answer report text is (inr (inr failed)) quiet = absurd (quiet.log_no_fault failed.log_part.rose)

pub complete : {W L : Type 0} (asked : Reading) (out : Change W) (log : Change L) (answer : ℕ) → Wrote asked out log answer → IsComplete asked out log answer
complete asked out log answer (inl gave_up) = λ text quiet. inl gave_up
complete asked out log answer (inr wrote) =
    λ text quiet.
    let is = told_report asked wrote.0 text quiet.files_no_fault (request_of asked.words) quiet.tells wrote.1.outcome wrote.1.read wrote.1.is_report in
    inr (wrote.0, is, complete_written asked out log answer wrote.0 text is wrote.2 quiet)

-- no report has the status of a failed write
not_seven_kind : (asked : Reading) (report : Report) → Kind asked report → ¬ (report.status ≡ 7)
not_seven_kind asked report (of_words bad is_bad is) = λ seven. absurd (let same : report.status ≡ 5 = ap (λ (x : Report). x.status) is in omega arith)
not_seven_kind asked report (of_check text read check) = λ seven. absurd (let same : report.status ≡ 0 = ap (λ (x : Report). x.status) check.is in omega arith)
not_seven_kind asked report (of_code text read code) = λ seven. absurd (let same : report.status ≡ 0 = code.listed.status_is in omega arith)
not_seven_kind asked report (of_run turns text read run) = λ seven. absurd (let most : report.status ≤ 4 = (run-status turns text report run).most in omega arith)
not_seven_kind asked report (of_refusal task text read refusal) = λ seven. absurd (let same : report.status ≡ 1 = ap (λ (x : Report). x.status) refusal.is in omega arith)
not_seven_kind asked report (of_fault named rose is) = λ seven. absurd (let same : report.status ≡ 6 = ap (λ (x : Report). x.status) is in omega arith)

pub not_seven : (asked : Reading) (report : Report) → Reported asked report → ¬ (report.status ≡ 7)
not_seven asked report reported = not_seven_kind asked report (kind_of asked report reported)

pub no_write_fails : {W L : Type 0} (asked : Reading) (out : Change W) (log : Change L) (answer : ℕ) (report : Report) → Reported asked report
    → (Fits report (out.room out.before) (log.room log.before) → answer ≡ report.status) → HaveRoom asked out log → ¬ (answer ≡ 7)
no_write_fails asked out log answer report reported answered =
    λ fits seven. not_seven asked report reported (sym (answered (fits report reported)) ∙ seven)

pub causes_write : {W L : Type 0} (asked : Reading) (out : Change W) (log : Change L) (answer : ℕ) → Wrote asked out log answer → (HaveRoom asked out log → ¬ (answer ≡ 7)) → CausesOfWrite asked out log answer
causes_write asked out log answer wrote never =
    let end = ended asked out log answer wrote in
    record {
      only = only_write asked out log answer end;
      wherever_out = λ moved. wherever_write asked out log answer end (λ steady. moved steady.out_steady);
      wherever_log = λ moved. wherever_write asked out log answer end (λ steady. moved steady.log_steady);
      never = never;
    }

-- Where a call wrote its report or gave up, its answer has its cause.
pub causes : {W L : Type 0} (asked : Reading) (out : Change W) (log : Change L) (answer : ℕ) → Wrote asked out log answer → (file_of asked.words ≡ None → asked.now ≡ asked.before)
    → (HaveRoom asked out log → ¬ (answer ≡ 7)) → Causes asked out log answer
causes asked out log answer wrote unread never =
    record {
      done = causes_done asked out log answer wrote;
      raced = causes_run 2 (omega arith) (λ one. omega (arith, one)) (λ none. omega (arith, none)) asked out log answer wrote;
      faulted = causes_run 3 (omega arith) (λ one. omega (arith, one)) (λ none. omega (arith, none)) asked out log answer wrote;
      spent = causes_run 4 (omega arith) (λ one. omega (arith, one)) (λ none. omega (arith, none)) asked out log answer wrote;
      refused = causes_refused asked out log answer wrote;
      words = causes_words asked out log answer wrote;
      read = causes_read asked out log answer wrote unread;
      write = causes_write asked out log answer wrote never;
      memory = causes_memory asked out log answer wrote;
      status = is_status asked out log answer wrote;
    }

-- What a call answers that wrote its report or gave up.
pub answers : {W L : Type 0} (asked : Reading) (out : Change W) (log : Change L) (answer : ℕ) → Wrote asked out log answer → (file_of asked.words ≡ None → asked.now ≡ asked.before)
    → (HaveRoom asked out log → ¬ (answer ≡ 7)) → Answers asked out log answer
answers asked out log answer wrote unread never =
    record { report = wrote; causes = causes asked out log answer wrote unread never; complete = complete asked out log answer wrote }
