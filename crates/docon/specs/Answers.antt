-- What a call of `docon` answers, and what it leaves as it was. This project's own.
use Rattle.std.specs.Prelude.{◌≡◌, ℕ, ◌≤◌, List, Option, None}
use Rattle.docon.specs.Causes.{Causes, IsComplete}
use Rattle.docon.specs.Report.{Reading}
use Rattle.docon.specs.Words.{file_of}
use Rattle.docon.specs.Writing.{Change, WritesReport}

-- The report of what was read was written, to out and then to the log, and its status is answered; or only a
-- part of it was, since a write failed; or nothing, for want of memory. Each answer comes only where its cause is,
-- and wherever that is. And where nothing failed the report is complete, unless memory was wanting.
pub record Answers {W L : Type 0} (asked : Reading) (out : Change W) (log : Change L) (answer : ℕ) : Type 0 where
  pub report : WritesReport asked out log answer
  pub causes : Causes asked out log answer
  pub complete : IsComplete asked out log answer

-- What the files tell is unchanged, and their count of faults doesn't fall. Without a file that the words name,
-- where they are refused, the files are as they were.
pub record KeepsFiles {F : Type 0} (words : List (List ℕ)) (told : F → List ℕ → Option (List ℕ)) (faults : F → ℕ) (before now : F) : Type 0 where
  pub held : told now ≡ told before
  pub count : faults before ≤ faults now
  pub unread : file_of words ≡ None → now ≡ before
