use Rattle.std.proofs.Common.{◌≡◌, drop, map}
use Rattle.dc_tree.specs.Findings.{least_with_all}
use Rattle.dc_tree.specs.Statements.{target_of}
use Rattle.dc_sorts.specs.Standing.{standing_of}
use Rattle.dc_scope.specs.Deeds.{targets_in}
use Rattle.dc_scope.proofs.deed.note_targets.Given as goal

abbrev pub invariant-loop-target : goal.invariant-loop-target
invariant-loop-target l =
    least_with_all l.found (targets_in (standing_of l.standing) l.line (map target_of (drop l.target-index l.targets)))
    ≡ least_with_all l.fn.found (targets_in (standing_of l.standing) l.line (map target_of l.targets))
