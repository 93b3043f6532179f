use Rattle.std.proofs.Common.{◌≡◌, drop}
use Rattle.dc_tree.specs.Findings.{least_with_all}
use Rattle.dc_sorts.specs.Standing.{standing_of}
use Rattle.dc_scope.specs.Headers.{locality_in}
use Rattle.dc_scope.proofs.header.note_locality.Given as goal

abbrev pub invariant-loop-local : goal.invariant-loop-local
invariant-loop-local l =
    least_with_all l.found (locality_in (standing_of l.standing) l.line (drop l.local-index l.locality))
    ≡ least_with_all l.fn.found (locality_in (standing_of l.standing) l.line l.locality)
