-- What was written, and the status that is answered for it. This project's own.
use Rattle.std.specs.Prelude.{◌≡◌, ℕ, ◌<◌, Bool, true, false, List, ◌++◌, length, take, Option, option_map, ◌⊎◌}
use Rattle.dc_outer.specs.Causes.{Rose}
use Rattle.docon.specs.declared.report.Report.{Report}
use Rattle.docon.specs.Report.{Reading, Reported}

-- A sink before a call and after it, with what is told of it: the bytes that it took, how many bytes more it
-- takes for sure, and its count of faults.
pub record Change (T : Type 0) : Type 0 where
  pub taken : T → Option (List ℕ)
  pub room : T → Option ℕ
  pub faults : T → ℕ
  pub before : T
  pub now : T

abbrev pub change : {T : Type 0} → (T → Option (List ℕ)) → (T → Option ℕ) → (T → ℕ) → T → T → Change T
change taken room faults before now = record { taken = taken; room = room; faults = faults; before = before; now = now }

-- the sink took exactly these bytes, and no fault came
pub record Took {T : Type 0} (sink : Change T) (bytes : List ℕ) : Type 0 where
  pub taken : sink.taken sink.now ≡ option_map (λ held. held ++ bytes) (sink.taken sink.before)
  pub steady : sink.faults sink.now ≡ sink.faults sink.before

-- the sink took a proper prefix of these bytes, and then failed
pub record FailedIn {T : Type 0} (sink : Change T) (bytes : List ℕ) : Type 0 where
  pub count : ℕ
  pub proper : count < length bytes
  pub taken : sink.taken sink.now ≡ option_map (λ held. held ++ take count bytes) (sink.taken sink.before)
  pub rose : Rose (sink.faults sink.before) (sink.faults sink.now)

-- the answer of writing all: whether the sink took all
abbrev pub WritesAll : {T : Type 0} → Change T → List ℕ → Bool → Type 0
WritesAll sink bytes true = Took sink bytes
WritesAll sink bytes false = FailedIn sink bytes

-- the sink is as it was
abbrev pub Untouched : {T : Type 0} → Change T → Type 0
Untouched sink = sink.now ≡ sink.before

-- The report was written whole, and its status is answered.
pub record WroteAll {W L : Type 0} (report : Report) (out : Change W) (log : Change L) (answer : ℕ) : Type 0 where
  pub out_all : Took out report.out
  pub log_all : Took log report.log
  pub answer_is : answer ≡ report.status

-- Out failed: a proper prefix stands there, and the log is as it was.
pub record OutFailed {W L : Type 0} (report : Report) (out : Change W) (log : Change L) (answer : ℕ) : Type 0 where
  pub out_part : FailedIn out report.out
  pub log_none : Untouched log
  pub answer_is : answer ≡ 7

-- The log failed: all of out stands, and a proper prefix of the log.
pub record LogFailed {W L : Type 0} (report : Report) (out : Change W) (log : Change L) (answer : ℕ) : Type 0 where
  pub out_all : Took out report.out
  pub log_part : FailedIn log report.log
  pub answer_is : answer ≡ 7

-- Want of memory: both sinks are as they were.
pub record GaveUp {W L : Type 0} (out : Change W) (log : Change L) (answer : ℕ) : Type 0 where
  pub out_none : Untouched out
  pub log_none : Untouched log
  pub answer_is : answer ≡ 8

abbrev pub IsWritten : {W L : Type 0} → Report → Change W → Change L → ℕ → Type 0
IsWritten report out log answer = WroteAll report out log answer ⊎ (OutFailed report out log answer ⊎ LogFailed report out log answer)

-- The call wrote the report of its words and of its reading, or gave up for want of memory.
abbrev pub WritesReport : {W L : Type 0} → Reading → Change W → Change L → ℕ → Type 0
WritesReport asked out log answer = GaveUp out log answer ⊎ ((report : Report) × Reported asked report × IsWritten report out log answer)
