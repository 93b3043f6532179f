-- What is noted so far and what the rest breaks is all together.
use Rattle.std.proofs.Common.{◌≡◌, drop, map}
use Rattle.dc_tree.specs.Findings.{least_with_all}
use Rattle.dc_tree.specs.Statements.{dimension_of}
use Rattle.dc_sorts.specs.Standing.{standing_of}
use Rattle.dc_types.specs.Types.{dimension_numbers}
use Rattle.dc_types.proofs.fronts.note_dimensions.Given as goal

abbrev pub invariant-loop-bound : goal.invariant-loop-bound
invariant-loop-bound l =
    least_with_all l.found (dimension_numbers (standing_of l.standing) l.line (map dimension_of (drop l.bound-index l.bounds)))
    ≡ least_with_all l.fn.found (dimension_numbers (standing_of l.standing) l.line (map dimension_of l.bounds))
