use Rattle.std.proofs.Common.{◌≡◌, drop, map}
use Rattle.dc_sorts.specs.Standing.{standing_of}
use Rattle.dc_tree.specs.Findings.{least_with_all}
use Rattle.dc_tree.specs.Statements.{dimension_of}
use Rattle.dc_declare.specs.Bounds.{each_dimension}
use Rattle.dc_declare.proofs.bounds.note_each.Given as goal

abbrev pub invariant-loop-bound : goal.invariant-loop-bound
invariant-loop-bound l =
    least_with_all l.found (each_dimension (standing_of l.standing) l.line (map dimension_of (drop l.bound-index l.bounds)))
    ≡ least_with_all l.fn.found (each_dimension (standing_of l.standing) l.line (map dimension_of l.bounds))
