-- Runs over files in memory that never fail and over sinks in memory that fail only where they are
-- full.
use Rattle.std.specs.Prelude.{ℕ, List, [], take, Option, Some, unwrap_or, ◌⊎◌}
use Rattle.dc_outer.specs.Memory.{SureSink, room_left, held_or_empty}
use Rattle.docon.specs.declared.report.Report.{Report}
use Rattle.docon.specs.Report.{contents, read_limit, IsReport}
use Rattle.docon.specs.Room.{Fits}
use Rattle.docon.specs.Words.{file_of}
use Rattle.docon.specs.Writing.{Change, change, WroteAll, GaveUp}

-- the source that the words name, if they name one: the first bytes of the file
abbrev pub sure_source : List (List ℕ) → List (List ℕ × List ℕ) → List ℕ
sure_source words files = take read_limit (held_or_empty files (unwrap_or (file_of words) []))

-- the report of the words over these files
abbrev pub IsSureReport : List (List ℕ) → List (List ℕ × List ℕ) → Report → Type 0
IsSureReport words files report = IsReport words (contents (sure_source words files)) report

abbrev pub sure_change : SureSink → SureSink → Change SureSink
sure_change before now = change (λ sink. Some sink.taken) (λ sink. Some (room_left sink)) (λ sink. sink.faults) before now

abbrev pub sure_told : List (List ℕ × List ℕ) → List ℕ → Option (List ℕ)
sure_told files name = Some (held_or_empty files name)

-- no count of faults rises
abbrev pub no_faults : List (List ℕ × List ℕ) → ℕ
no_faults files = 0

-- The sinks have room left for the report's out and log bytes.
abbrev pub HasSureRoom : List (List ℕ) → List (List ℕ × List ℕ) → SureSink → SureSink → Type 0
HasSureRoom words files out log = (report : Report) → IsSureReport words files report → Fits report (Some (room_left out)) (Some (room_left log))

-- The report was written whole and its status is answered, or nothing was written, for want of memory.
abbrev pub WritesSurely : List (List ℕ) → List (List ℕ × List ℕ) → Change SureSink → Change SureSink → ℕ → Type 0
WritesSurely words files out log answer = GaveUp out log answer ⊎ ((report : Report) × IsSureReport words files report × WroteAll report out log answer)
