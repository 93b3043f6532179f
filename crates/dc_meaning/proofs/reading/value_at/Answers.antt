use Rattle.std.proofs.Common.{ap}
use Rattle.dc_entities.specs.Found.{entity_of}
use Rattle.dc_sorts.specs.Forms.{sort_of_form}
use Rattle.dc_meaning.specs.Places.{value_at_entity}
use Rattle.dc_meaning.specs.WalkScope.{own_of}
use Rattle.dc_meaning.proofs.Walking.{stays-as}
use Rattle.dc_meaning.proofs.reading.value_at.Goals as goal

pub returns-in-Index : goal.returns-in-Index
returns-in-Index c =
    stays-as (λ call. ap (λ found. value_at_entity c.args.line (entity_of found) c.args.subscripts.now) c.in-Index.is) (c.read_index.ensures c.args.ledger.now)

pub returns-in-Variable : goal.returns-in-Variable
returns-in-Variable c =
    stays-as (λ call. ap (λ found. value_at_entity c.args.line (entity_of found) c.args.subscripts.now) c.in-Variable.is)
    (c.read_at.ensures (own_of c.args.walk.now) (sort_of_form c.in-Variable.form))

pub returns-in-Nothing : goal.returns-in-Nothing
returns-in-Nothing c =
    stays-as (λ call. ap (λ found. value_at_entity c.args.line (entity_of found) c.args.subscripts.now) c.in-Nothing.is)
    (c.read_nothing.ensures (own_of c.args.walk.now) c.args.ledger.now)
