use Rattle.std.proofs.Common.{◌≡◌, ◌++◌, drop, map}
use Rattle.dc_int.specs.Entries.{touched_of}
use Rattle.dc_plain.specs.Views.{entry_of}
use Rattle.dc_plain.proofs.Touching.{fresh}
use Rattle.dc_plain.proofs.listing.touched.Given as goal

abbrev pub invariant-loop-note : goal.invariant-loop-note
invariant-loop-note l = l.elements ++ fresh l.elements (touched_of (map entry_of (drop l.note-index l.notes))) ≡ touched_of (map entry_of l.notes)
