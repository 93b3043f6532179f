use Rattle.std.proofs.Common.{◌≡◌, drop, map}
use Rattle.dc_tree.specs.Findings.{least_with_all}
use Rattle.dc_tree.specs.Statements.{declared_of}
use Rattle.dc_declare.specs.Entities.{after_entities, entities_findings}
use Rattle.dc_declare.proofs.entity.declare_entities.Given as goal

abbrev pub invariant-loop-entity : goal.invariant-loop-entity
invariant-loop-entity l =
    (after_entities l.heading l.scan l.given (map declared_of (drop l.entity-index l.entities)) ≡ after_entities l.heading l.fn.scan l.given (map declared_of l.entities))
    × (least_with_all l.found (entities_findings l.heading l.line l.scan l.given (map declared_of (drop l.entity-index l.entities)))
    ≡ least_with_all l.fn.found (entities_findings l.heading l.line l.fn.scan l.given (map declared_of l.entities)))
