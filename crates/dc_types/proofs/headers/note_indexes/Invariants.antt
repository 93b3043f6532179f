-- What is noted so far and what the rest breaks is all together.
use Rattle.std.proofs.Common.{◌≡◌, drop, map}
use Rattle.dc_tree.specs.Findings.{least_with_all}
use Rattle.dc_tree.specs.Statements.{index_ranging}
use Rattle.dc_sorts.specs.Standing.{standing_of}
use Rattle.dc_types.specs.Loops.{each_ranging_findings}
use Rattle.dc_types.proofs.headers.note_indexes.Given as goal

abbrev pub invariant-loop-index : goal.invariant-loop-index
invariant-loop-index l =
    least_with_all l.found (each_ranging_findings (standing_of l.standing) l.line (map index_ranging (drop l.index-index l.names)))
    ≡ least_with_all l.fn.found (each_ranging_findings (standing_of l.standing) l.line (map index_ranging l.names))
