-- The lines so far and those of the rest are all together.
use Rattle.std.proofs.Common.{◌≡◌, ◌++◌, drop}
use Rattle.dc_listing.specs.Listing.{section, told_line}
use Rattle.dc_listing.proofs.whole.put_section.Given as goal

abbrev pub invariant-loop-number : goal.invariant-loop-number
invariant-loop-number g l =
    l.text ++ section (told_line l.word g.T.Listed.words) l.number (drop l.number l.items) ≡ l.fn.text ++ section (told_line l.word g.T.Listed.words) 0 l.items
