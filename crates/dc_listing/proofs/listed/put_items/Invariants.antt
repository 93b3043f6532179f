-- What is added so far and the rest is all together.
use Rattle.std.proofs.Common.{◌≡◌, ◌++◌, drop, flat_map}
use Rattle.dc_listing.specs.Words.{fields}
use Rattle.dc_listing.proofs.listed.put_items.Given as goal

abbrev pub invariant-loop-item : goal.invariant-loop-item
invariant-loop-item g l =
    l.text ++ fields (flat_map g.T.Listed.words (drop l.item-index l.items)) ≡ l.fn.text ++ fields (flat_map g.T.Listed.words l.items)
