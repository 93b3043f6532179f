-- What is noted so far and what the rest breaks is all together.
use Rattle.std.proofs.Common.{◌≡◌, drop, map}
use Rattle.dc_tree.specs.Findings.{least_with_all}
use Rattle.dc_tree.specs.Statements.{declared_of}
use Rattle.dc_sorts.specs.Standing.{standing_of}
use Rattle.dc_types.specs.Types.{entity_numbers}
use Rattle.dc_types.proofs.fronts.note_entities.Given as goal

abbrev pub invariant-loop-entity : goal.invariant-loop-entity
invariant-loop-entity l =
    least_with_all l.found (entity_numbers (standing_of l.standing) l.line (map declared_of (drop l.entity-index l.entities)))
    ≡ least_with_all l.fn.found (entity_numbers (standing_of l.standing) l.line (map declared_of l.entities))
