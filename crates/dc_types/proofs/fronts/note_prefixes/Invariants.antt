-- What is noted so far and what the rest breaks is all together.
use Rattle.std.proofs.Common.{◌≡◌, drop, map}
use Rattle.dc_tree.specs.Findings.{least_with_all}
use Rattle.dc_tree.specs.Statements.{prefixed}
use Rattle.dc_sorts.specs.Standing.{standing_of}
use Rattle.dc_types.specs.Types.{each_prefix_numbers}
use Rattle.dc_types.proofs.fronts.note_prefixes.Given as goal

abbrev pub invariant-loop-prefix : goal.invariant-loop-prefix
invariant-loop-prefix l =
    least_with_all l.found (each_prefix_numbers (standing_of l.standing) l.line (map prefixed (drop l.prefix-index l.prefixes)))
    ≡ least_with_all l.fn.found (each_prefix_numbers (standing_of l.standing) l.line (map prefixed l.prefixes))
