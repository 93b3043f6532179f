use Rattle.std.proofs.Common.{◌≡◌, ◌++◌, drop, map}
use Rattle.dc_int.specs.Entries.{last_state}
use Rattle.dc_plain.specs.Views.{entry_of}
use Rattle.dc_plain.proofs.listing.last_states.Given as goal

abbrev pub invariant-loop-element : goal.invariant-loop-element
invariant-loop-element l = l.touches ++ map (last_state (map entry_of l.notes)) (drop l.element-index l.elements) ≡ map (last_state (map entry_of l.notes)) l.elements
