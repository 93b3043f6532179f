-- Where each answer of the top call comes, and what then stands. This project's own.
use Rattle.std.specs.Prelude.{◌≡◌, ℕ, ◌≤◌, List, [], take, Some, Err, option_map, IsSome, IfSome, ◌⊎◌}
use Rattle.dc_tree.specs.declared.fail.Refusal.{Refusal}
use Rattle.dc_tree.specs.declared.program.Program.{Program}
use Rattle.dc_tree.specs.declared.symbols.Symbol.{Symbol}
use Rattle.dc_tree.specs.Blocks.{source_of}
use Rattle.dc_front.specs.Form.{Spells, IsFirstRefusal}
use Rattle.dc_outer.specs.Causes.{Rose}
use Rattle.docon.specs.declared.request.BadWords.{BadWords}
use Rattle.docon.specs.declared.request.Task.{Task}
use Rattle.docon.specs.declared.report.Report.{Report}
use Rattle.docon.specs.Report.{Reading, contents, read_limit, only_log, run_of, status_of, accepted_report, RunReport, CodeReport, IsReport, HasOutcome, Reported}
use Rattle.docon.specs.Room.{Fits}
use Rattle.docon.specs.Words.{AsksFor, file_of, request_of, why_bad}
use Rattle.docon.specs.Writing.{Change, Took, FailedIn, Untouched, WroteAll, GaveUp}

-- the count did not rise
abbrev pub NoFault : ℕ → ℕ → Type 0
NoFault before now = ¬ (Rose before now)

-- the sink's count did not rise
abbrev pub NoWriteFault : {T : Type 0} → Change T → Type 0
NoWriteFault sink = NoFault (sink.faults sink.before) (sink.faults sink.now)

-- some program is spelled by the source
abbrev pub IsAccepted : List ℕ → Type 0
IsAccepted text = (program : Program) × (symbols : List Symbol) × Spells text program symbols

-- the source has a first refusal
abbrev pub IsRefused : List ℕ → Type 0
IsRefused text = (refusal : Refusal) × IsFirstRefusal text refusal

-- The reading gave this source for a task: the words ask for the task with a file, no fault came, and where the files
-- tell, these are the first bytes that they hold.
pub record Gave (asked : Reading) (task : Task) (text : List ℕ) : Type 0 where
  pub file : List ℕ
  pub asks : AsksFor asked.words task file
  pub gave : HasOutcome (asked.told file) asked.before asked.now (contents text)

-- The files tell this source for a task: the words ask for the task with a file, these are the first bytes that the
-- files hold under its name, and the count did not rise.
pub record Tells (asked : Reading) (task : Task) (text : List ℕ) : Type 0 where
  pub file : List ℕ
  pub asks : AsksFor asked.words task file
  pub tells : option_map (take read_limit) (asked.told file) ≡ Some text
  pub no_fault : NoFault asked.before asked.now

-- the answer is this status, or a write failed, or memory was wanting
abbrev pub IsUnlessFailed : ℕ → ℕ → Type 0
IsUnlessFailed status answer = (answer ≡ status) ⊎ ((answer ≡ 7) ⊎ (answer ≡ 8))

-- one of the nine answers, 0 to 8
abbrev pub IsStatus : ℕ → Type 0
IsStatus answer = answer ≤ 8

-- The words ask for a run with these turns, and a source was read that some program is spelled by. The report of its
-- run was written whole: what it wrote to out, and the line that tells how it ended to the log.
pub record Ran {W L : Type 0} (asked : Reading) (out : Change W) (log : Change L) : Type 0 where
  pub turns : ℕ
  pub text : List ℕ
  pub read : Gave asked (Task.Run turns) text
  pub report : Report
  pub run : RunReport turns text report
  pub out_all : Took out report.out
  pub log_all : Took log report.log

-- It ran, and its run has this status.
pub record RanWith {W L : Type 0} (status : ℕ) (asked : Reading) (out : Change W) (log : Change L) : Type 0 where
  pub ran : Ran asked out log
  pub is : ran.report.status ≡ status

-- The words ask for a check, and an accepted source was read. That it is accepted was written to out.
pub record Checked {W L : Type 0} (asked : Reading) (out : Change W) (log : Change L) : Type 0 where
  pub text : List ℕ
  pub read : Gave asked Task.Check text
  pub accepted : IsAccepted text
  pub out_all : Took out accepted_report.out
  pub log_all : Took log accepted_report.log

-- The words ask for the code, and an accepted source was read. The report of its code was written whole: the listing to
-- out.
pub record Listed {W L : Type 0} (asked : Reading) (out : Change W) (log : Change L) : Type 0 where
  pub text : List ℕ
  pub read : Gave asked Task.Code text
  pub report : Report
  pub code : CodeReport text report
  pub out_all : Took out report.out
  pub log_all : Took log report.log

-- The source spells a program whose run with so many turns has this status.
pub record EndsWithStatus (status turns : ℕ) (text : List ℕ) : Type 0 where
  pub program : Program
  pub symbols : List Symbol
  pub spelled : Spells text program symbols
  pub is : status_of (run_of turns symbols (source_of program)).ending ≡ status

-- Where the words ask for a run and the files tell a source whose run, with the turns of the words, has this status, it
-- is answered.
abbrev pub AnswersRun : ℕ → Reading → ℕ → Type 0
AnswersRun status asked answer =
    (turns : ℕ) (text : List ℕ) → Tells asked (Task.Run turns) text → EndsWithStatus status turns text → IsUnlessFailed status answer

-- Where the words ask for this and the files tell an accepted source, 0 is answered.
abbrev pub AnswersAccepted : Task → Reading → ℕ → Type 0
AnswersAccepted task asked answer = (text : List ℕ) → Tells asked task text → IsAccepted text → IsUnlessFailed 0 answer

-- Answer 0: only where the words ask for a run, and a source was read whose run has this status, or where they
-- ask for a check or for the code, and an accepted source was read; and the report was written whole. And wherever
-- the files tell such a source.
pub record CausesOfDone {W L : Type 0} (asked : Reading) (out : Change W) (log : Change L) (answer : ℕ) : Type 0 where
  pub only : answer ≡ 0 → RanWith 0 asked out log ⊎ (Checked asked out log ⊎ Listed asked out log)
  pub wherever_run : AnswersRun 0 asked answer
  pub wherever_check : AnswersAccepted Task.Check asked answer
  pub wherever_code : AnswersAccepted Task.Code asked answer

-- Answers 2, 3 and 4: only where the words ask for a run, a source was read whose run has this status, and its
-- report was written whole; and wherever the files tell such a source.
pub record CausesOfRun {W L : Type 0} (status : ℕ) (asked : Reading) (out : Change W) (log : Change L) (answer : ℕ) : Type 0 where
  pub only : answer ≡ status → RanWith status asked out log
  pub wherever : AnswersRun status asked answer

-- Answer 1: only where a source was read that is refused; and wherever the files tell such a source.
pub record CausesOfRefused (asked : Reading) (answer : ℕ) : Type 0 where
  pub only : answer ≡ 1 → (task : Task) × (text : List ℕ) × Gave asked task text × IsRefused text
  pub wherever : (task : Task) (text : List ℕ) → Tells asked task text → IsRefused text → IsUnlessFailed 1 answer

-- The words are refused for this, and the line that says so was written to the log.
pub record RefusedWords {W L : Type 0} (bad : BadWords) (words : List (List ℕ)) (out : Change W) (log : Change L) : Type 0 where
  pub refused : request_of words ≡ Err bad
  pub out_all : Took out []
  pub log_all : Took log (only_log (why_bad bad) 5).log

-- Answer 5: only where the words are refused, as no command or for their turns, and the line of just that was written;
-- and wherever they are refused.
pub record CausesOfWords {W L : Type 0} (words : List (List ℕ)) (out : Change W) (log : Change L) (answer : ℕ) : Type 0 where
  pub only : answer ≡ 5 → (bad : BadWords) × RefusedWords bad words out log
  pub wherever : (bad : BadWords) → request_of words ≡ Err bad → IsUnlessFailed 5 answer

-- Answer 6: only where the words name a file and the files' count rose; and wherever it changed.
pub record CausesOfRead (words : List (List ℕ)) (before now : ℕ) (answer : ℕ) : Type 0 where
  pub only : answer ≡ 6 → IsSome (file_of words) × Rose before now
  pub wherever : ¬ (now ≡ before) → IsUnlessFailed 6 answer

-- A write of the report failed: a proper prefix of its out bytes stands, and the log is as it was; or all of out
-- stands, and a proper prefix of its log bytes.
abbrev pub IsCutShort : {W L : Type 0} → Report → Change W → Change L → Type 0
IsCutShort report out log = (FailedIn out report.out × Untouched log) ⊎ (Took out report.out × FailedIn log report.log)

-- The sinks tell that they have room for each report of this reading.
abbrev pub HaveRoom : {W L : Type 0} → Reading → Change W → Change L → Type 0
HaveRoom asked out log = (report : Report) → Reported asked report → Fits report (out.room out.before) (log.room log.before)

-- Answer 7: only where a write of the call's report failed; wherever a sink's count changed; and never where
-- the sinks have room.
pub record CausesOfWrite {W L : Type 0} (asked : Reading) (out : Change W) (log : Change L) (answer : ℕ) : Type 0 where
  pub only : answer ≡ 7 → (report : Report) × Reported asked report × IsCutShort report out log
  pub wherever_out : ¬ (out.faults out.now ≡ out.faults out.before) → answer ≡ 7
  pub wherever_log : ¬ (log.faults log.now ≡ log.faults log.before) → answer ≡ 7
  pub never : HaveRoom asked out log → ¬ (answer ≡ 7)

-- Answer 8: only where both sinks are as they were.
abbrev pub CausesOfMemory : {W L : Type 0} → Change W → Change L → ℕ → Type 0
CausesOfMemory out log answer = answer ≡ 8 → Untouched out × Untouched log

-- Where each answer comes: 0 where the run came to its end, or an accepted source was checked or its code listed, 2 for
-- a race, 3 for a fault, 4 for a spent limit, 1 where the source is refused, 5 where the words are, 6 and 7 where a
-- reading or a write failed, and 8 where memory was wanting. There is no other.
pub record Causes {W L : Type 0} (asked : Reading) (out : Change W) (log : Change L) (answer : ℕ) : Type 0 where
  pub done : CausesOfDone asked out log answer
  pub raced : CausesOfRun 2 asked out log answer
  pub faulted : CausesOfRun 3 asked out log answer
  pub spent : CausesOfRun 4 asked out log answer
  pub refused : CausesOfRefused asked answer
  pub words : CausesOfWords asked.words out log answer
  pub read : CausesOfRead asked.words asked.before asked.now answer
  pub write : CausesOfWrite asked out log answer
  pub memory : CausesOfMemory out log answer
  pub status : IsStatus answer

-- No count rose, and where the words name a file, the files tell this source.
pub record NothingFailed {W L : Type 0} (asked : Reading) (out : Change W) (log : Change L) (text : List ℕ) : Type 0 where
  pub files_no_fault : NoFault asked.before asked.now
  pub out_no_fault : NoWriteFault out
  pub log_no_fault : NoWriteFault log
  pub tells : IfSome (file_of asked.words) (λ file. option_map (take read_limit) (asked.told file) ≡ Some text)

-- Where nothing failed, the report of the words and of the told source was written whole and its
-- status is answered; or nothing was written, for want of memory.
abbrev pub IsComplete : {W L : Type 0} → Reading → Change W → Change L → ℕ → Type 0
IsComplete asked out log answer =
    (text : List ℕ) → NothingFailed asked out log text → GaveUp out log answer ⊎ ((report : Report) × IsReport asked.words (contents text) report × WroteAll report out log answer)
