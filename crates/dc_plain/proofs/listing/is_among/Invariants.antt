use Rattle.std.proofs.Common.{◌≡◌, drop}
use Rattle.std.specs.List.{list_any}
use Rattle.dc_int.specs.Store.{same_element}
use Rattle.dc_plain.proofs.listing.is_among.Given as goal

abbrev pub invariant-loop-other : goal.invariant-loop-other
invariant-loop-other l = list_any (same_element l.element) (drop l.other-index l.elements) ≡ list_any (same_element l.element) l.elements
