-- The lines so far and those of the rest are all together.
use Rattle.std.proofs.Common.{◌≡◌, ◌++◌, drop}
use Rattle.dc_listing.specs.Listing.{section, instruction_line}
use Rattle.dc_listing.proofs.whole.put_instructions.Given as goal

abbrev pub invariant-loop-place : goal.invariant-loop-place
invariant-loop-place l =
    l.text ++ section instruction_line l.place (drop l.place l.instructions) ≡ l.fn.text ++ section instruction_line 0 l.instructions
