use Rattle.std.proofs.Common.{◌≡◌, drop}
use Rattle.dc_tree.specs.Findings.{least_with_all}
use Rattle.dc_sorts.specs.Standing.{standing_of}
use Rattle.dc_scope.specs.Headers.{listed_in}
use Rattle.dc_scope.proofs.header.note_list.Given as goal

abbrev pub invariant-loop-name : goal.invariant-loop-name
invariant-loop-name l =
    least_with_all l.found (listed_in (standing_of l.standing) l.line (drop l.name-index l.names))
    ≡ least_with_all l.fn.found (listed_in (standing_of l.standing) l.line l.names)
