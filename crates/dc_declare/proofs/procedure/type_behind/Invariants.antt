use Rattle.std.proofs.Common.{◌≡◌, None, drop, map}
use Rattle.dc_sorts.specs.Standing.{standing_of}
use Rattle.dc_tree.specs.Statements.{prefixed}
use Rattle.dc_declare.specs.Headings.{type_behind}
use Rattle.dc_declare.proofs.procedure.type_behind.Given as goal

abbrev pub invariant-loop-prefix : goal.invariant-loop-prefix
invariant-loop-prefix l =
    type_behind (standing_of l.standing) l.form (map prefixed (drop l.prefix-index l.prefixes)) ≡ type_behind (standing_of l.standing) None (map prefixed l.prefixes)
