use Rattle.std.proofs.Common.{◌≡◌, ◌++◌, drop, map}
use Rattle.dc_int.specs.Entries.{accesses_of}
use Rattle.dc_plain.specs.Views.{entry_of}
use Rattle.dc_plain.proofs.listing.accesses.Given as goal

abbrev pub invariant-loop-note : goal.invariant-loop-note
invariant-loop-note l = l.accesses ++ accesses_of (map entry_of (drop l.note-index l.notes)) ≡ accesses_of (map entry_of l.notes)
