use Rattle.std.proofs.Common.{◌≡◌, drop}
use Rattle.dc_int.specs.Entries.{touches}
use Rattle.dc_plain.specs.Views.{entries_of}
use Rattle.dc_plain.proofs.race.touches.Given as goal

abbrev pub invariant-loop-note : goal.invariant-loop-note
invariant-loop-note l = touches l.element (entries_of (drop l.note-index l.notes)) ≡ touches l.element (entries_of l.notes)
