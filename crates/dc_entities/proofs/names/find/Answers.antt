use Rattle.std.proofs.Common.{sym, ◌∙◌}
use Rattle.dc_entities.proofs.Naming.{index-found, outer-found}
use Rattle.dc_entities.proofs.names.find.Goals as goal

pub returns-in-Some-clause-found : goal.returns-in-Some-clause-found
returns-in-Some-clause-found c = index-found c.args.standing.now c.args.name.now c.in-Some.kind (sym c.index_kind.ensures ∙ c.in-Some.is)

pub returns-in-None-clause-found : goal.returns-in-None-clause-found
returns-in-None-clause-found c = c.outer.ensures.found ∙ outer-found c.args.standing.now c.args.name.now (sym c.index_kind.ensures ∙ c.in-None.is) c.requires.unit
