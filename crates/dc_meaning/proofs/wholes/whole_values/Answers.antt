use Rattle.std.proofs.Common.{[], ◌∙◌, ap, sym}
use Rattle.dc_entities.specs.Found.{entity_of}
use Rattle.dc_sorts.specs.Forms.{sort_of_form}
use Rattle.dc_meaning.specs.Acts.{refer_to}
use Rattle.dc_meaning.specs.Gathering.{gathered, places_from}
use Rattle.dc_meaning.specs.Places as places
use Rattle.dc_meaning.specs.WalkScope.{own_of}
use Rattle.dc_meaning.proofs.Walking.{stays-as}
use Rattle.dc_meaning.proofs.Referring.{whole-gathered}
use Rattle.dc_meaning.proofs.wholes.whole_values.Goals as goal

pub returns-in-Index : goal.returns-in-Index
returns-in-Index c = stays-as (λ call. ap (λ found. places.whole_values c.args.line (entity_of found)) c.in-Index.is) (c.read_one.ensures c.args.ledger.now)

pub returns-in-Variable : goal.returns-in-Variable
returns-in-Variable c =
    stays-as
    (λ call.
    ap (λ found. places.whole_values c.args.line (entity_of found)) c.in-Variable.is
    ∙ whole-gathered c.args.line c.in-Variable.number (sort_of_form c.in-Variable.form) c.in-Variable.bounds.now
    ∙ ap (λ n. gathered (refer_to c.args.line) [] (places_from c.in-Variable.number n 0)) (sym c.elements.ensures))
    (c.read_elements.ensures (own_of c.args.walk.now))
