use Rattle.std.proofs.Common.{◌∙◌, ap, sym}
use Rattle.dc_entities.specs.Found.{entity_of}
use Rattle.dc_sorts.specs.Forms.{sort_of_form}
use Rattle.dc_meaning.specs.Storing.{listed, listed_whole}
use Rattle.dc_meaning.proofs.Walking.{stays-as}
use Rattle.dc_meaning.proofs.Storing.{whole-listed}
use Rattle.dc_meaning.proofs.assign.list_whole.Goals as goal

pub returns-in-Variable : goal.returns-in-Variable
returns-in-Variable c = λ own.
    stays-as
    (λ call.
    ap (λ f. listed_whole c.args.line (entity_of f) c.args.given.now) c.in-Variable.is
    ∙ whole-listed c.args.line c.in-Variable.number (sort_of_form c.in-Variable.form) c.in-Variable.bounds.now c.args.given.now
    ∙ ap (λ n. listed c.args.line c.in-Variable.number (sort_of_form c.in-Variable.form) n 0 c.args.given.now) (sym c.elements.ensures))
    (c.store_each.ensures own)
