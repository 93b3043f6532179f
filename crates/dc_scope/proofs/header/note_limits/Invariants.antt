use Rattle.std.proofs.Common.{◌≡◌, drop, map}
use Rattle.dc_tree.specs.Findings.{least_with_all}
use Rattle.dc_tree.specs.Statements.{index_ranging}
use Rattle.dc_sorts.specs.Standing.{standing_of}
use Rattle.dc_scope.specs.Headers.{limits_in}
use Rattle.dc_scope.proofs.header.note_limits.Given as goal

abbrev pub invariant-loop-index : goal.invariant-loop-index
invariant-loop-index l =
    least_with_all l.found (limits_in (standing_of l.standing) l.line (map index_ranging (drop l.index-index l.indexes)))
    ≡ least_with_all l.fn.found (limits_in (standing_of l.standing) l.line (map index_ranging l.indexes))
