-- The forms over memory, as contracts see them.
use Rattle.std.specs.Prelude.{ℕ, ◌-◌, Bool, ◌||◌, List, [], ◌++◌, length, take, drop, min, nat_eq, if◌then◌else◌, Option, option_map, is_none, unwrap_or, find}
use Rattle.std.specs.List.{list_any}
use Rattle.std.specs.Str.{bytes_eq}
use Rattle.dc_outer.specs.Causes.{next_count}

-- the number of a call stands in a list
abbrev pub is_listed : List ℕ → ℕ → Bool
is_listed failing call = list_any (λ listed. nat_eq listed call) failing

-- a source that never fails: the bytes not yet taken, and how many a call moves at most
pub record SureSource : Type 0 where
  pub left : List ℕ
  pub piece : ℕ

-- how many bytes a call moves to a buffer of this length
abbrev pub read_count : SureSource → ℕ → ℕ
read_count source len = min source.piece (min len (length source.left))

-- the source once n bytes are taken
abbrev pub without_front : SureSource → ℕ → SureSource
without_front source n = record { left = drop n source.left; piece = source.piece }

-- a buffer with the source's next n bytes at its front
abbrev pub filled_buffer : SureSource → ℕ → List ℕ → List ℕ
filled_buffer source n buffer = take n source.left ++ drop n buffer

-- a source with calls that fail: their numbers, how many calls were made, and how many faults came
pub record FaultySource : Type 0 where
  pub source : SureSource
  pub failing : List ℕ
  pub calls : ℕ
  pub faults : ℕ

-- the source after a call that moved n bytes
abbrev pub after_read : FaultySource → ℕ → FaultySource
after_read s n = record { source = without_front s.source n; failing = s.failing; calls = next_count s.calls; faults = s.faults }

-- the source after a call that failed
abbrev pub after_failed_read : FaultySource → FaultySource
after_failed_read s = record { source = s.source; failing = s.failing; calls = next_count s.calls; faults = next_count s.faults }

-- a sink that fails only where it is full: the bytes taken, how many it holds at most, how many a call takes at most, and how many faults came
pub record SureSink : Type 0 where
  pub taken : List ℕ
  pub room : ℕ
  pub piece : ℕ
  pub faults : ℕ

-- how many bytes more it can hold
abbrev pub room_left : SureSink → ℕ
room_left sink = sink.room - length sink.taken

-- how many bytes a call takes of a piece of this length
abbrev pub write_count : SureSink → ℕ → ℕ
write_count sink len = min sink.piece (min len (room_left sink))

-- the sink once it took these bytes
abbrev pub with_end : SureSink → List ℕ → SureSink
with_end sink more = record { taken = sink.taken ++ more; room = sink.room; piece = sink.piece; faults = sink.faults }

-- the sink after a fault
abbrev pub with_fault : SureSink → SureSink
with_fault sink = record { taken = sink.taken; room = sink.room; piece = sink.piece; faults = next_count sink.faults }

-- a sink with calls that fail: their numbers, and how many calls were made
pub record FaultySink : Type 0 where
  pub sink : SureSink
  pub failing : List ℕ
  pub calls : ℕ

-- a write fails: its call is listed, or no room is left
abbrev pub write_fails : FaultySink → Bool
write_fails s = is_listed s.failing s.calls || nat_eq (room_left s.sink) 0

-- the sink after a call that left this inside
abbrev pub after_write : FaultySink → SureSink → FaultySink
after_write s sink = record { sink = sink; failing = s.failing; calls = next_count s.calls }

-- the bytes of the first pair with a name
abbrev pub first_held : List (List ℕ × List ℕ) → List ℕ → Option (List ℕ)
first_held pairs name = option_map (λ pair. pair.1) (find (λ pair. bytes_eq pair.0 name) pairs)

-- the same, and no bytes for a name that is not held
abbrev pub held_or_empty : List (List ℕ × List ℕ) → List ℕ → List ℕ
held_or_empty pairs name = unwrap_or (first_held pairs name) []

-- files of which some reads fail: the names with their bytes, the numbers of the calls that fail, how many calls were made, and how many faults came
pub record FaultyFiles : Type 0 where
  pub pairs : List (List ℕ × List ℕ)
  pub failing : List ℕ
  pub calls : ℕ
  pub faults : ℕ

-- a read of this name fails: its call is listed, or the name is not held
abbrev pub read_fails : FaultyFiles → List ℕ → Bool
read_fails files name = is_listed files.failing files.calls || is_none (first_held files.pairs name)

-- the files after a read of this name
abbrev pub after_file : FaultyFiles → List ℕ → FaultyFiles
after_file files name = record { pairs = files.pairs; failing = files.failing; calls = next_count files.calls; faults = if read_fails files name then next_count files.faults else files.faults }
