use Rattle.std.proofs.Common.{◌≡◌, drop, map, None}
use Rattle.dc_int.specs.Entries.{state_after}
use Rattle.dc_plain.specs.Views.{entry_of}
use Rattle.dc_plain.proofs.listing.last_state.Given as goal

abbrev pub invariant-loop-note : goal.invariant-loop-note
invariant-loop-note l = state_after l.element (map entry_of (drop l.note-index l.notes)) l.state ≡ state_after l.element (map entry_of l.notes) None
