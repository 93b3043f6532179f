use Rattle.std.proofs.Common.{◌≡◌, drop, map}
use Rattle.dc_sorts.specs.Standing.{standing_of}
use Rattle.dc_tree.specs.Findings.{least_with_all}
use Rattle.dc_tree.specs.Statements.{prefixed}
use Rattle.dc_declare.specs.Headings.{each_prefix}
use Rattle.dc_declare.proofs.procedure.note_prefixes.Given as goal

abbrev pub invariant-loop-prefix : goal.invariant-loop-prefix
invariant-loop-prefix l =
    least_with_all l.found (each_prefix (standing_of l.standing) l.line (map prefixed (drop l.prefix-index l.prefixes)))
    ≡ least_with_all l.fn.found (each_prefix (standing_of l.standing) l.line (map prefixed l.prefixes))
