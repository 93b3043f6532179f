-- The report: what the program writes and answers, from its words and the outcome of the file's
-- reading. This project's own.
use Rattle.std.specs.Prelude.{◌≡◌, ◌≤◌, ℕ, List, [], ◌∷◌, ◌++◌, length, take, codes, decimal, Option, Some, None, MatchResult, IfSome, ◌⊎◌}
use Rattle.dc_int.specs.declared.fault.Why.{Why}
use Rattle.dc_code.specs.Codes.{CodeLists}
use Rattle.dc_code.specs.Inner.{judging}
use Rattle.dc_code.specs.Troubles.{Trouble, ended, masked, raced}
use Rattle.dc_code.specs.Verdicts.{trouble_in}
use Rattle.dc_tree.specs.declared.fail.Refusal.{Refusal}
use Rattle.dc_tree.specs.declared.program.Program.{Program}
use Rattle.dc_tree.specs.declared.symbols.Symbol.{Symbol}
use Rattle.dc_tree.specs.Blocks.{Source, source_of}
use Rattle.dc_front.specs.Form.{Spells, IsFirstRefusal}
use Rattle.dc_listing.specs.Listing.{listing}
use Rattle.dc_lower.specs.CodeOf.{IsCodeOf}
use Rattle.dc_outer.specs.Causes.{Rose}
use Rattle.dc_run.specs.Playing as playing
use Rattle.dc_run.specs.ReportLine.{Ending, done, bad, stopped, outside_names, report_line}
use Rattle.dc_run.specs.Headline.{Reports}
use Rattle.docon.specs.declared.request.Task.{Task}
use Rattle.docon.specs.declared.report.Report.{Report}
use Rattle.docon.specs.Words.{request_of, why_bad}

abbrev pub feed : List ℕ
feed = 10 ∷ []

-- nothing but a line of the log
abbrev pub only_log : List ℕ → ℕ → Report
only_log words status = record { out = []; log = words ++ feed; status = status }

-- the first bytes of a file that are read: one more than a source may have
unfoldable pub read_limit : ℕ
read_limit = 1048577

-- What the reading of the file came to.
pub data Outcome : Type 0 where
  contents : List ℕ → Outcome
  fault : Outcome

abbrev pub refusal_words : ℕ → ℕ → List ℕ
refusal_words line rule = codes "refused: line " ++ decimal line ++ codes ": K" ++ decimal rule

-- ---- the run of an accepted source

-- The run of a program with so many turns for the main program, each mask and each iteration, its loops judged. No
-- program of today reads, so it is given no input.
abbrev pub run_of : ℕ → List Symbol → Source → playing.Outcome
run_of turns symbols source = playing.run judging symbols source turns []

-- 3 for a fault, 4 for a spent limit
abbrev pub status_of_why : Why → ℕ
status_of_why (Why.Fault kind) = 3
status_of_why Why.Spent = 4

abbrev pub status_of_trouble : Option Trouble → ℕ
status_of_trouble None = 0
status_of_trouble (Some (ended why line path)) = status_of_why why
status_of_trouble (Some (masked why line path mask)) = status_of_why why
status_of_trouble (Some (raced element first second path)) = 2

-- The status of a run: 0 where it came to its end, 2 for a race, 3 for a fault, 4 for a spent limit.
abbrev pub status_of : Ending → ℕ
status_of done = 0
status_of (bad failure) = status_of_why failure.why
status_of (stopped verdict bounds) = status_of_trouble (trouble_in verdict)

-- The report of a program's run with so many turns, which `Reports` is about: what the run wrote, the line that tells
-- how it ended, and its status.
pub record IsRunReport (turns : ℕ) (symbols : List Symbol) (source : Source) (report : Report) : Type 0 where
  pub ending : Ending
  pub ran : Reports symbols source turns [] report.out ending
  pub log_is : report.log ≡ report_line (outside_names symbols) ending
  pub status_is : report.status ≡ status_of ending

-- The source is accepted: some program is spelled by it, and the report is that of its run with so many turns.
pub record RunReport (turns : ℕ) (text : List ℕ) (report : Report) : Type 0 where
  pub program : Program
  pub symbols : List Symbol
  pub spelled : Spells text program symbols
  pub ran : IsRunReport turns symbols (source_of program) report

-- What is written of an accepted source that isn't run.
abbrev pub accepted_report : Report
accepted_report = record { out = codes "accepted" ++ feed; log = []; status = 0 }

-- The source is accepted, and it is only told so.
pub record CheckReport (text : List ℕ) (report : Report) : Type 0 where
  pub program : Program
  pub symbols : List Symbol
  pub spelled : Spells text program symbols
  pub is : report ≡ accepted_report

-- The report of the code of a program: its listing. A listing determines its code, which does what the program means.
pub record IsCodeReport (symbols : List Symbol) (source : Source) (report : Report) : Type 0 where
  pub code : CodeLists
  pub means : IsCodeOf symbols source code
  pub out_is : report.out ≡ listing code
  pub log_is : report.log ≡ []
  pub status_is : report.status ≡ 0

-- The source is accepted: some program is spelled by it, and the report is that of its code.
pub record CodeReport (text : List ℕ) (report : Report) : Type 0 where
  pub program : Program
  pub symbols : List Symbol
  pub spelled : Spells text program symbols
  pub listed : IsCodeReport symbols (source_of program) report

-- The source is refused: the log has its first refusal, the line and the rule.
pub record RefusalReport (text : List ℕ) (report : Report) : Type 0 where
  pub refusal : Refusal
  pub first : IsFirstRefusal text refusal
  pub is : report ≡ only_log (refusal_words refusal.line refusal.rule) 1

abbrev pub IsTaskReport : Task → List ℕ → Report → Type 0
IsTaskReport (Task.Run turns) text report = RunReport turns text report
IsTaskReport Task.Check text report = CheckReport text report
IsTaskReport Task.Code text report = CodeReport text report

-- The report of a source: of its run, its check or its code, and where it is refused of that.
abbrev pub IsSourceReport : Task → List ℕ → Report → Type 0
IsSourceReport task text report = IsTaskReport task text report ⊎ RefusalReport text report

abbrev pub IsReportOf : Task → Outcome → Report → Type 0
IsReportOf task (contents text) report = IsSourceReport task text report
IsReportOf task fault report = report ≡ only_log (codes "read: file") 6

-- The report of the words and of the outcome of the file's reading. Where the words are refused nothing is read.
abbrev pub IsReport : List (List ℕ) → Outcome → Report → Type 0
IsReport words outcome report = MatchResult (request_of words) (λ request. IsReportOf request.task outcome report) (λ bad. report ≡ only_log (why_bad bad) 5)

-- What a call has to read: its words, what the files tell under a name, and their count of faults before the
-- call and after it.
pub record Reading : Type 0 where
  pub words : List (List ℕ)
  pub told : List ℕ → Option (List ℕ)
  pub before : ℕ
  pub now : ℕ

abbrev pub reading : {F : Type 0} → List (List ℕ) → (F → List ℕ → Option (List ℕ)) → (F → ℕ) → F → F → Reading
reading words told faults files files' = record { words = words; told = told files; before = faults files; now = faults files' }

-- No fault came, and no more was read than the limit: the first bytes of what is held, where that is told.
pub record IsRead (held : Option (List ℕ)) (before now : ℕ) (text : List ℕ) : Type 0 where
  pub within : length text ≤ read_limit
  pub first : IfSome held (λ whole. text ≡ take read_limit whole)
  pub steady : now ≡ before

-- The outcome agrees with the files: the source was read, or the reading failed and raised the count.
abbrev pub HasOutcome : Option (List ℕ) → ℕ → ℕ → Outcome → Type 0
HasOutcome held before now (contents text) = IsRead held before now text
HasOutcome held before now fault = Rose before now

-- The reading that the words ask for.
abbrev pub IsReading : Reading → Outcome → Type 0
IsReading asked outcome =
    MatchResult (request_of asked.words) (λ request. HasOutcome (asked.told request.file) asked.before asked.now outcome) (λ bad. asked.now ≡ asked.before)

-- The report of a call: of its words and of the outcome of its reading.
pub record Reported (asked : Reading) (report : Report) : Type 0 where
  pub outcome : Outcome
  pub read : IsReading asked outcome
  pub is_report : IsReport asked.words outcome report
