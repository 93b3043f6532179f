-- What is noted so far and what the rest breaks is all together.
use Rattle.std.proofs.Common.{◌≡◌, drop, map}
use Rattle.dc_tree.specs.Findings.{least_with_all}
use Rattle.dc_tree.specs.Blocks.{line_of}
use Rattle.dc_sorts.specs.Standing.{standing_of}
use Rattle.dc_types.specs.Types.{front_numbers}
use Rattle.dc_types.proofs.fronts.note_front.Given as goal

abbrev pub invariant-loop-lined : goal.invariant-loop-lined
invariant-loop-lined l =
    least_with_all l.found (front_numbers (standing_of l.standing) (map line_of (drop l.lined-index l.front)))
    ≡ least_with_all l.fn.found (front_numbers (standing_of l.standing) (map line_of l.front))
