use Rattle.std.proofs.Common.{◌≡◌, drop}
use Rattle.dc_code.specs.Breaks.{first_read}
use Rattle.dc_plain.specs.Views.{entries_of}
use Rattle.dc_plain.proofs.race.first_read.Given as goal

abbrev pub invariant-loop-note : goal.invariant-loop-note
invariant-loop-note l = first_read l.element (entries_of (drop l.note-index l.notes)) ≡ first_read l.element (entries_of l.notes)
