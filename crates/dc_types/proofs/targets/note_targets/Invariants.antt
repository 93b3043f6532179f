-- What is noted so far and what the rest breaks is all together.
use Rattle.std.proofs.Common.{◌≡◌, drop, map}
use Rattle.dc_tree.specs.Findings.{least_with_all}
use Rattle.dc_tree.specs.Statements.{target_of}
use Rattle.dc_sorts.specs.Standing.{standing_of}
use Rattle.dc_types.specs.Actions.{each_target_findings}
use Rattle.dc_types.proofs.targets.note_targets.Given as goal

abbrev pub invariant-loop-target : goal.invariant-loop-target
invariant-loop-target l =
    least_with_all l.found (each_target_findings (standing_of l.standing) l.line (map target_of (drop l.target-index l.targets)))
    ≡ least_with_all l.fn.found (each_target_findings (standing_of l.standing) l.line (map target_of l.targets))
