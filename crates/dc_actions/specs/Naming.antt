-- What the names of a statement stand for, as the code holds it. This project's own.
use Rattle.dc_tree.specs.Entities.{Scope}
use Rattle.dc_sorts.specs.Standing.{standing_of, scope_at}
use Rattle.dc_entities.specs.Found.{IsNamed}
use Rattle.dc_actions.specs.declared.names.Names.{Names}

abbrev pub scope_of : Names → Scope
scope_of names = scope_at (standing_of names.standing)

-- It is known what the names stand for.
pub record AreNamed (names : Names) : Type 0 where
  pub named : IsNamed names.standing names.numbering.now
